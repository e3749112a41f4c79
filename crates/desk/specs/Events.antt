-- Events: how a line says one, and what it does.
use Rattle.std.specs.Prelude.{ℕ, List, [], ◌∷◌, Ok, Err, Option, Result, slice_index}
use Rattle.rules.specs.declared.letter.Letter.{Letter}
use Rattle.rules.specs.declared.letter.Letter.TheVariants as letter
use Rattle.rules.specs.declared.range.Quantity.TheVariants as quantity
use Rattle.rules.specs.declared.refusal.Refusal.TheVariants as refusal
use Rattle.rules.specs.declared.side.Side.TheVariants.{Buy, Sell}
use Rattle.rules.specs.Cases.{numbered}
use Rattle.rules.specs.Letters.{letter_rules}
use Rattle.rules.specs.Sides.{by_side}
use Rattle.fields.specs.declared.fault.FieldFault.{FieldFault}
use Rattle.fields.specs.declared.field.Field.{Field}
use Rattle.fields.specs.declared.line.EventLine.{EventLine}
use Rattle.fields.specs.declared.line.EventLine.TheVariants as line
use Rattle.fields.specs.Faults.{and_then}
use Rattle.fields.specs.Layout.{opening, event_letters}
use Rattle.fields.specs.Numbers.{numbers_from}
use Rattle.fields.specs.Reading.{ranging}
use Rattle.dayfile.specs.Rows.{named_case}
use Rattle.desk.specs.declared.event.Link.{Link}
use Rattle.desk.specs.declared.event.Link.TheVariants.{Down, Up}
use Rattle.desk.specs.declared.event.Event.{Event}
use Rattle.desk.specs.declared.event.Event.TheVariants as event

-- The number of each state of the link.
abbrev pub link_number : Link → ℕ
link_number Down = 0
link_number Up = 1

-- The state of the link that a number names.
abbrev pub link_numbered : ℕ → Option Link
link_numbered = numbered link_number (Down ∷ (Up ∷ []))

-- The fault of a letter that is none of the event part's.
abbrev pub no_event : Result Event FieldFault
no_event = Err (record { cause = refusal.Letter; column = 1 })

-- The event of a letter and its numbers; a letter of the day part makes none.
abbrev pub event_made : Letter → List ℕ → Result Event FieldFault
event_made letter.Step ns = Ok event.Step
event_made letter.Notice ns = Ok (event.Notice (slice_index ns 0) (slice_index ns 1) (slice_index ns 2))
event_made letter.Link ns = and_then (named_case 2 (link_numbered (slice_index ns 0))) (λ state. Ok (event.Link state))
event_made letter.Buy ns = Ok (event.Request Buy (slice_index ns 0) (slice_index ns 1) (slice_index ns 2) (slice_index ns 3) (slice_index ns 4))
event_made letter.Sell ns = Ok (event.Request Sell (slice_index ns 0) (slice_index ns 1) (slice_index ns 2) (slice_index ns 3) (slice_index ns 4))
event_made letter.Trade ns = Ok (event.Trade (slice_index ns 0) (slice_index ns 1) (slice_index ns 2))
event_made letter.Return ns = Ok (event.Return (slice_index ns 0))
event_made letter.Confirm ns = Ok (event.Confirm (slice_index ns 0))
event_made letter.Decline ns = Ok (event.Decline (slice_index ns 0))
event_made letter.Cancel ns = Ok (event.Cancel (slice_index ns 0) (slice_index ns 1))
event_made letter.Close ns = Ok event.Close
event_made letter.Day ns = no_event
event_made letter.Security ns = no_event
event_made letter.Holding ns = no_event
event_made letter.AccountHolding ns = no_event
event_made letter.Designation ns = no_event
event_made letter.End ns = no_event

-- The event that the input goes on with, or the fault of its line.
abbrev pub event_of : List ℕ → Result Event FieldFault
event_of line = and_then (opening event_letters line) (λ l. and_then (numbers_from 0 (letter_rules l).fields line) (event_made l))

-- The letter of an event.
abbrev pub event_letter : Event → Letter
event_letter event.Step = letter.Step
event_letter (event.Notice code foreign total) = letter.Notice
event_letter (event.Link state) = letter.Link
event_letter (event.Request side participant account code price shares) = by_side side letter.Buy letter.Sell
event_letter (event.Trade order shares price) = letter.Trade
event_letter (event.Return order) = letter.Return
event_letter (event.Confirm order) = letter.Confirm
event_letter (event.Decline order) = letter.Decline
event_letter (event.Cancel order participant) = letter.Cancel
event_letter event.Close = letter.Close

-- A field's number, which may be any.
abbrev pub any_number : Field → Result ℕ FieldFault
any_number f = ranging quantity.AnyNumber f.bytes.now f.column

-- The state of the link that a field says.
abbrev pub link_read : Field → Result Link FieldFault
link_read f = and_then (ranging quantity.Link f.bytes.now f.column) (λ n. named_case 2 (link_numbered n))

-- The event of a line's fields, judged from the left.
abbrev pub event_in : EventLine → Result Event FieldFault
event_in line.Step = Ok event.Step
event_in (line.Notice a b c) = and_then (any_number a) (λ n. and_then (any_number b) (λ f. and_then (any_number c) (λ t. Ok (event.Notice n f t))))
event_in (line.Link a) = and_then (link_read a) (λ state. Ok (event.Link state))
event_in (line.Request side a b c d e) =
    and_then (any_number a) (λ p. and_then (any_number b) (λ q. and_then (any_number c) (λ r. and_then (any_number d) (λ s. and_then (any_number e) (λ t. Ok (event.Request side p q r s t))))))
event_in (line.Trade a b c) = and_then (any_number a) (λ n. and_then (any_number b) (λ k. and_then (any_number c) (λ q. Ok (event.Trade n k q))))
event_in (line.Return a) = and_then (any_number a) (λ n. Ok (event.Return n))
event_in (line.Confirm a) = and_then (any_number a) (λ n. Ok (event.Confirm n))
event_in (line.Decline a) = and_then (any_number a) (λ n. Ok (event.Decline n))
event_in (line.Cancel a b) = and_then (any_number a) (λ n. and_then (any_number b) (λ p. Ok (event.Cancel n p)))
event_in line.Close = Ok event.Close
