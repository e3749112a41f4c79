-- The calls of a trading day: what each answers, and what it leaves.
use Rattle.std.specs.Prelude.{unwrap_or, ◌≡◌, ℕ, ◌-◌, Bool, not, ◌&&◌, List, [], ◌∷◌, Some, None, Option, ◌==◌, slice_index_or, slice_set}
use Rattle.rules.specs.declared.phase.Phase.{Phase}
use Rattle.rules.specs.declared.refusal.Refusal.{Refusal}
use Rattle.rules.specs.declared.refusal.Refusal.TheVariants as refusal
use Rattle.rules.specs.Markets.{market_number}
use Rattle.rules.specs.Notices.{notice_band, unfit_notice}
use Rattle.rules.specs.Phases.{phase_rules}
use Rattle.rules.specs.Rules.{when, first_broken, kept_or, refusal_in}
use Rattle.rules.specs.Sides.{by_side}
use Rattle.tables.specs.declared.rows.Security.{Security}
use Rattle.tables.specs.Rows.{no_security, noticed}
use Rattle.registers.specs.Meaning.{Meaning, restore_answer, restored}
use Rattle.orders.specs.declared.order.Request.{Request}
use Rattle.orders.specs.declared.order.Cancel.TheVariants.{Unasked, Asked}
use Rattle.orders.specs.declared.order.Order.{Order}
use Rattle.orders.specs.declared.order.State.{State}
use Rattle.orders.specs.declared.order.State.TheVariants.{Live}
use Rattle.orders.specs.Faults.{cancel_asked_faults, cancel_faults, fill_faults, pass_faults, return_faults}
use Rattle.orders.specs.Outcomes.{ended_by, filled_by, freed, raise}
use Rattle.orders.specs.Records.{remainder, with_state}
use Rattle.gate.specs.declared.figures.Figures.{Figures}
use Rattle.gate.specs.declared.pass.Pass.{Pass}
use Rattle.gate.specs.Balances.{raised_by, settled_at, settled, too_high}
use Rattle.gate.specs.Desks.{Desk, by_account, desk, listed, no_record, record_of}
use Rattle.gate.specs.Reserves.{after_reserve, reserve_rules, wants}

-- A call with its arguments: trade takes an order's number, shares and a price; cancel a number and a participant; notice a code, foreign shares and the total.
pub data Call : Type 0 where
  reserve : Request → Call
  send : Pass → Call
  void : Pass → Call
  trade : ℕ → ℕ → ℕ → Call
  give_back : ℕ → Call
  cancel : ℕ → ℕ → Call
  confirm : ℕ → Call
  decline : ℕ → Call
  step : Call
  notice : ℕ → ℕ → ℕ → Call

-- The phase that a step leads to.
abbrev pub stepped : Phase → Phase
stepped phase = unwrap_or (phase_rules phase).next phase

-- The list where a notice of so many foreign shares in a total has reached the line at a place.
abbrev pub noticed_at : List Security → Option ℕ → ℕ → ℕ → List Security
noticed_at list None foreign total = list
noticed_at list (Some i) foreign total = slice_set list i (noticed (slice_index_or list i no_security) (notice_band foreign total))

-- The pass is of another market or date.
abbrev pub other_day : Figures → Pass → Bool
other_day f pass = not (market_number pass.market == market_number f.market && pass.date == f.date)

-- The end of a remainder: a buy's value fits the balance, a sell's shares go back to the pool that they came from.
abbrev pub end_rule : Figures → Meaning → Meaning → Order → Option Refusal
end_rule f participants accounts o =
    by_side o.side (when (too_high f (freed o)) refusal.Unsound)
    (refusal_in (restore_answer (by_account o.account participants accounts) o.pool (remainder o)))

-- Trade: the number, the record and the fill, the balance.
abbrev pub trade_rules : Desk → ℕ → ℕ → ℕ → List (Option Refusal)
trade_rules d number shares price =
    when (no_record d.figures d.book number) refusal.Order
    ∷ (first_broken (fill_faults (record_of d.book number) shares price)
    ∷ (when (too_high d.figures (raise (record_of d.book number) shares price)) refusal.Unsound
    ∷ []))

-- Return and Confirm: the number, the record by the call's own faults, the end of its remainder.
abbrev pub end_rules : Desk → ℕ → (Order → List (Option Refusal)) → List (Option Refusal)
end_rules d number faults =
    when (no_record d.figures d.book number) refusal.Order
    ∷ (first_broken (faults (record_of d.book number))
    ∷ (end_rule d.figures d.participants d.accounts (record_of d.book number)
    ∷ []))

-- Decline: the number, the record.
abbrev pub decline_rules : Desk → ℕ → List (Option Refusal)
decline_rules d number =
    when (no_record d.figures d.book number) refusal.Order
    ∷ (first_broken (cancel_asked_faults (record_of d.book number))
    ∷ [])

-- Cancel: the number, the record and its participant, the phase.
abbrev pub cancel_rules : Desk → ℕ → ℕ → List (Option Refusal)
cancel_rules d number participant =
    when (no_record d.figures d.book number) refusal.Order
    ∷ (first_broken (cancel_faults (record_of d.book number) participant)
    ∷ (when (not (phase_rules d.figures.phase).cancels) refusal.NoCancel
    ∷ []))

-- Send: the pass is of this day and has a record, which is held and sound.
abbrev pub send_rules : Desk → Pass → List (Option Refusal)
send_rules d pass =
    when (other_day d.figures pass) refusal.Pass
    ∷ (when (no_record d.figures d.book pass.number) refusal.Pass
    ∷ (first_broken (pass_faults (record_of d.book pass.number))
    ∷ []))

-- Void: as Send, and then the end of the remainder.
abbrev pub void_rules : Desk → Pass → List (Option Refusal)
void_rules d pass =
    when (other_day d.figures pass) refusal.Pass
    ∷ (when (no_record d.figures d.book pass.number) refusal.Pass
    ∷ (first_broken (pass_faults (record_of d.book pass.number))
    ∷ (end_rule d.figures d.participants d.accounts (record_of d.book pass.number)
    ∷ [])))

-- What a call answers: nothing, or the first rule broken.
abbrev pub refusal_of : Desk → Call → Option Refusal
refusal_of d (reserve a) = first_broken (reserve_rules d a)
refusal_of d (send pass) = first_broken (send_rules d pass)
refusal_of d (void pass) = first_broken (void_rules d pass)
refusal_of d (trade number shares price) = first_broken (trade_rules d number shares price)
refusal_of d (give_back number) = first_broken (end_rules d number return_faults)
refusal_of d (cancel number participant) = first_broken (cancel_rules d number participant)
refusal_of d (confirm number) = first_broken (end_rules d number cancel_asked_faults)
refusal_of d (decline number) = first_broken (decline_rules d number)
refusal_of d step = first_broken (wants (phase_rules d.figures.phase).next refusal.Phase ∷ [])
refusal_of d (notice code foreign total) = first_broken (wants (listed d.list code) refusal.Code ∷ (when (unfit_notice foreign total) refusal.Foreign ∷ []))

-- A register to which an order's remainder goes back.
abbrev pub restored_for : Meaning → Order → Meaning
restored_for m o = restored m o.pool (remainder o)

-- The participants' register after the end of an order's remainder.
abbrev pub participants_restored : Meaning → Order → Meaning
participants_restored m o = by_side o.side m (by_account o.account (restored_for m o) m)

-- The accounts' register after the end of an order's remainder.
abbrev pub accounts_restored : Meaning → Order → Meaning
accounts_restored m o = by_side o.side m (by_account o.account m (restored_for m o))

-- The desk where an order's record is another, and the balance has risen.
abbrev pub rewritten : Desk → ℕ → Order → ℕ → Desk
rewritten d number o by = desk (raised_by d.figures by) d.list d.participants d.accounts (slice_set d.book (number - 1) o)

-- The desk after a trade.
abbrev pub after_trade : Desk → ℕ → ℕ → ℕ → Desk
after_trade d number shares price = rewritten d number (filled_by (record_of d.book number) shares price) (raise (record_of d.book number) shares price)

-- The desk after the end of an order's remainder: the quota of a buy and the shares of a sell go back where they were taken.
abbrev pub after_end : Desk → ℕ → Desk
after_end d number =
    desk (raised_by d.figures (freed (record_of d.book number))) d.list
    (participants_restored d.participants (record_of d.book number))
    (accounts_restored d.accounts (record_of d.book number))
    (slice_set d.book (number - 1) (ended_by (record_of d.book number)))

-- The desk where an order is in another state, and nothing is freed.
abbrev pub restated : Desk → ℕ → State → Desk
restated d number state = desk (settled d.figures) d.list d.participants d.accounts (slice_set d.book (number - 1) (with_state (record_of d.book number) state))

-- What an accepted call leaves.
abbrev pub accepted : Desk → Call → Desk
accepted d (reserve a) = after_reserve d a
accepted d (send pass) = restated d pass.number (Live Unasked)
accepted d (void pass) = after_end d pass.number
accepted d (trade number shares price) = after_trade d number shares price
accepted d (give_back number) = after_end d number
accepted d (cancel number participant) = restated d number (Live Asked)
accepted d (confirm number) = after_end d number
accepted d (decline number) = restated d number (Live Unasked)
accepted d step = desk (settled_at d.figures d.figures.balance (stepped d.figures.phase) d.figures.count) d.list d.participants d.accounts d.book
accepted d (notice code foreign total) = desk (settled d.figures) (noticed_at d.list (listed d.list code) foreign total) d.participants d.accounts d.book

-- The desk after a call on it, accepted or refused.
abbrev pub called : Desk → Call → Desk
called d c = kept_or (refusal_of d c) d (accepted d c)

-- The call on the desk answers the first rule broken, and leaves what an accepted call leaves, or the desk as it was.
pub record Did (d : Desk) (c : Call) (answer : Option Refusal) (d' : Desk) : Type 0 where
  pub answers : answer ≡ refusal_of d c
  pub becomes : d' ≡ called d c
