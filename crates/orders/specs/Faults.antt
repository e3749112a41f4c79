-- What is wrong with an order's record for a call, in the order of the rules.
use Rattle.std.specs.Prelude.{ℕ, Bool, not, ◌||◌, List, [], ◌∷◌, Option, ◌==◌, nat_lt}
use Rattle.rules.specs.declared.range.Quantity.TheVariants as quantity
use Rattle.rules.specs.declared.refusal.Refusal.{Refusal}
use Rattle.rules.specs.declared.refusal.Refusal.TheVariants as refusal
use Rattle.rules.specs.Ranges.{in_range, range_of}
use Rattle.rules.specs.Rules.{when}
use Rattle.rules.specs.Sides.{by_side}
use Rattle.orders.specs.declared.order.Order.{Order}
use Rattle.orders.specs.Records.{is_asked, is_held, is_live, is_unasked, remainder, sound_order}

-- A fill of no shares or of more than the remainder, at a price out of range, above a buy's limit or below a sell's.
abbrev pub misfit : Order → ℕ → ℕ → Bool
misfit o shares price =
    (shares == 0 || nat_lt (remainder o) shares)
    || (not (in_range (range_of quantity.Price) price) || by_side o.side (nat_lt o.price price) (nat_lt price o.price))

-- Trade: the record is sound, the order live, the fill fits.
abbrev pub fill_faults : Order → ℕ → ℕ → List (Option Refusal)
fill_faults o shares price =
    when (not (sound_order o)) refusal.Unsound
    ∷ (when (not (is_live o.state)) refusal.State
    ∷ (when (misfit o shares price) refusal.Fill
    ∷ []))

-- Return: the record is sound, the order live.
abbrev pub return_faults : Order → List (Option Refusal)
return_faults o = when (not (sound_order o)) refusal.Unsound ∷ (when (not (is_live o.state)) refusal.State ∷ [])

-- Confirm and Decline: the record is sound, its cancel asked for.
abbrev pub cancel_asked_faults : Order → List (Option Refusal)
cancel_asked_faults o = when (not (sound_order o)) refusal.Unsound ∷ (when (not (is_asked o.state)) refusal.State ∷ [])

-- Cancel: the order is the participant's, the record sound, the order live and its cancel not asked for.
abbrev pub cancel_faults : Order → ℕ → List (Option Refusal)
cancel_faults o participant =
    when (not (o.participant == participant)) refusal.Order
    ∷ (when (not (sound_order o)) refusal.Unsound
    ∷ (when (not (is_unasked o.state)) refusal.State
    ∷ []))

-- Send and Void: the order is held, the record sound.
abbrev pub pass_faults : Order → List (Option Refusal)
pass_faults o = when (not (is_held o.state)) refusal.Pass ∷ (when (not (sound_order o)) refusal.Unsound ∷ [])
