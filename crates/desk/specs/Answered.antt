-- The answer to an event part: one line for each event, up to the end of the input, the first fault, or an accepted close.
use Rattle.std.specs.Prelude.{◌≡◌, ℕ, ◌+◌, ◌<◌, true, false, List, [], ◌∷◌, ◌++◌, length, drop, Some, None, Ok, Err, Option, Result, slice_index, IfSome}
use Rattle.rules.specs.declared.letter.Part.TheVariants as part
use Rattle.rules.specs.declared.refusal.Refusal.TheVariants as refusal
use Rattle.fields.specs.declared.fault.DayFault.{DayFault}
use Rattle.fields.specs.declared.fault.FieldFault.{FieldFault}
use Rattle.fields.specs.declared.rest.Rest.{Rest}
use Rattle.fields.specs.Layout.{width_of}
use Rattle.rules.specs.declared.refusal.Refusal.{Refusal}
use Rattle.rules.specs.Rules.{first_broken}
use Rattle.orders.specs.declared.order.Order.{Order}
use Rattle.gate.specs.declared.figures.Figures.{Figures}
use Rattle.gate.specs.Calls.{Call}
use Rattle.gate.specs.Closed.{ClosedOver, closing_rules}
use Rattle.gate.specs.Desks.{Desk}
use Rattle.history.specs.History.{Ran}
use Rattle.desk.specs.declared.event.Event.{Event}
use Rattle.desk.specs.Effects.{Session, after_event, closes, effect}
use Rattle.desk.specs.Events.{event_letter, event_of}
use Rattle.desk.specs.Printed.{event_line, shown_fault}

-- The line that an event prints.
abbrev pub event_answer : Session → Event → List ℕ
event_answer s e = event_line (event_letter e) (effect s e).shows (effect s e).desk.figures.balance

-- The fault in the line numbered nr of the input.
abbrev pub event_fault : List ℕ → ℕ → FieldFault → DayFault
event_fault rest nr f = record { line = record { field = f; letter = slice_index rest 0; line = nr }; part = part.Event }

-- The line that a fault prints in the line numbered nr of the input.
abbrev pub fault_answer : List ℕ → ℕ → FieldFault → List ℕ
fault_answer rest nr f = shown_fault (event_fault rest nr f)

-- A line after an accepted close is out of sequence where it has no fault of its own.
abbrev pub late_fault : Result Event FieldFault → FieldFault
late_fault (Err f) = f
late_fault (Ok e) = record { cause = refusal.Sequence; column = 1 }

-- What is printed after an accepted close: nothing where the input ends, else the fault of the line numbered nr.
abbrev pub after_close : ℕ → List ℕ → List ℕ
after_close nr [] = []
after_close nr (b ∷ rest) = fault_answer (b ∷ rest) nr (late_fault (event_of (b ∷ rest)))

-- In the session, from the line numbered nr on, the rest of the input is answered by these bytes and leaves this desk, with
-- the figures that the day closes with where a close is accepted.
pub data Answered : Session → ℕ → List ℕ → List ℕ → Desk → Option Figures → Type 0 where
  over : {s : Session} {nr : ℕ} → Answered s nr [] [] s.desk None
  faulty : {s : Session} {nr : ℕ} (rest : List ℕ) (f : FieldFault) → 0 < length rest → event_of rest ≡ Err f → Answered s nr rest (fault_answer rest nr f) s.desk None
  next : {s : Session} {nr : ℕ} (rest : List ℕ) (e : Event) (more : List ℕ) (last : Desk) (closed : Option Figures) → event_of rest ≡ Ok e → closes s e ≡ false → Answered (after_event s e) (nr + 1) (drop (width_of (event_letter e)) rest) more last closed → Answered s nr rest (event_answer s e ++ more) last closed
  closing : {s : Session} {nr : ℕ} (rest : List ℕ) (e : Event) → event_of rest ≡ Ok e → closes s e ≡ true → Answered s nr rest (event_answer s e ++ after_close (nr + 1) (drop (width_of (event_letter e)) rest)) (effect s e).desk (Some (effect s e).desk.figures)

-- What is printed after the events: nothing, or the answer to what follows an accepted close.
abbrev pub late_answer : Option Rest → List ℕ
late_answer None = []
late_answer (Some late) = after_close late.line late.bytes.now

-- The text answers the rest of the input, or all of it but what follows an accepted close.
abbrev pub Stopped : Session → ℕ → List ℕ → List ℕ → Desk → Option Rest → Type 0
Stopped s nr rest text last None = Answered s nr rest text last None
Stopped s nr rest text last (Some late) = Answered s nr rest (text ++ late_answer (Some late)) last (Some last.figures)

-- How a day ends: left where no close was accepted, else closed over its book, unless a rule of closing is broken.
abbrev pub EndsDay : Option Rest → Figures → List Order → Option Figures → Type 0
EndsDay None f book closed = closed ≡ None
EndsDay (Some late) f book (Some closed) = ClosedOver f book closed
EndsDay (Some late) f book None = (e : Refusal) × (first_broken (closing_rules f book) ≡ Some e)

-- Each history that led to the one desk goes on to the other.
abbrev pub Reaches : Desk → Desk → Type 0
Reaches d d' = (d₀ : Desk) (cs : List Call) → Ran d₀ d cs → (cs' : List Call) × Ran d₀ d' cs'

-- From the session on, the text answers the events, each history of its desk goes on to the desk that they leave, and the
-- day is closed where a close was accepted.
pub record Ended (s : Session) (nr : ℕ) (rest : List ℕ) (closed : Option Figures) (text : List ℕ) : Type 0 where
  pub last : Desk
  pub answers : Answered s nr rest text last closed
  pub reaches : Reaches s.desk last
  pub ends : IfSome closed (ClosedOver last.figures last.book)
