-- How a day closes.
use Rattle.std.specs.Prelude.{◌≡◌, ℕ, ◌<◌, Bool, not, List, [], ◌∷◌, length, take, None, Option, nat_lt, slice_index_or}
use Rattle.std.specs.List.{list_all}
use Rattle.rules.specs.declared.refusal.Refusal.{Refusal}
use Rattle.rules.specs.declared.refusal.Refusal.TheVariants as refusal
use Rattle.rules.specs.Phases.{phase_rules}
use Rattle.rules.specs.Rules.{first_broken, when}
use Rattle.orders.specs.declared.order.Order.{Order}
use Rattle.orders.specs.declared.order.State.TheVariants.{Done}
use Rattle.orders.specs.Records.{is_done, no_order, remainder, sound_order}
use Rattle.gate.specs.declared.figures.Figures.{Figures}

-- Each record is sound.
abbrev pub all_sound : List Order → Bool
all_sound = list_all sound_order

-- Each record is done.
abbrev pub all_done : List Order → Bool
all_done = list_all (λ o. is_done o.state)

-- A day closes over a book that holds its orders, each of them sound; after hours, and with each of them done.
abbrev pub closing_rules : Figures → List Order → List (Option Refusal)
closing_rules f book =
    when (nat_lt (length book) f.count) refusal.Unsound
    ∷ (when (not (all_sound (take f.count book))) refusal.Unsound
    ∷ (when (not (phase_rules f.phase).closes) refusal.Business
    ∷ (when (not (all_done (take f.count book))) refusal.Business
    ∷ [])))

-- Nothing is in flight: each of the day's orders is done, and no remainder is left of it.
abbrev pub NothingInFlight : Figures → List Order → Type 0
NothingInFlight f book = (i : ℕ) → i < f.count → ((slice_index_or book i no_order).state ≡ Done) × (remainder (slice_index_or book i no_order) ≡ 0)

-- The day closes over its book: no rule of closing is broken, the figures are kept, and nothing is in flight.
pub record ClosedOver (f : Figures) (book : List Order) (closed : Figures) : Type 0 where
  pub allowed : first_broken (closing_rules f book) ≡ None
  pub figures : closed ≡ f
  pub flight : NothingInFlight closed book
