-- The whole answer to an input.
use Rattle.std.specs.Prelude.{◌≡◌, ℕ, ◌<◌, ◌≤◌, List, length, drop, None, Ok, Err, Option, IfSome}
use Rattle.rules.specs.declared.letter.Part.TheVariants as part
use Rattle.rules.specs.declared.refusal.Refusal.TheVariants as refusal
use Rattle.rules.specs.Refusals.{refusal_number}
use Rattle.tables.specs.Tables.{lines_of}
use Rattle.fields.specs.declared.fault.LineFault.{LineFault}
use Rattle.registers.specs.Registers.{account_meaning, participant_meaning}
use Rattle.orders.specs.declared.order.Order.{Order}
use Rattle.gate.specs.declared.figures.Figures.{Figures}
use Rattle.gate.specs.Calls.{Call}
use Rattle.gate.specs.Closed.{ClosedOver}
use Rattle.gate.specs.Desks.{Desk, desk}
use Rattle.gate.specs.Opened.{OpenedBy}
use Rattle.history.specs.History.{Law, Ran}
use Rattle.dayfile.specs.declared.lent.Tables.{Tables}
use Rattle.dayfile.specs.declared.plan.Counts.{Counts}
use Rattle.dayfile.specs.DayPart.{Plan, counts, day_part}
use Rattle.dayfile.specs.Description.{Description, described}
use Rattle.desk.specs.declared.event.Link.TheVariants.{Up}
use Rattle.desk.specs.Answered.{Answered}
use Rattle.desk.specs.Effects.{session}
use Rattle.desk.specs.Printed.{fault_line, shown_fault}

-- The most bytes that an input may have.
abbrev pub most_input : ℕ
most_input = 32768

-- The room of the program's tables.
abbrev pub program_room : Counts
program_room = counts 256 256 256 256

-- The rows of the program's book.
abbrev pub program_orders : ℕ
program_orders = 512

-- The desk of a day over tables and a book.
abbrev pub desk_over : Figures → Tables → List Order → Desk
desk_over figures t book = desk figures (lines_of t.securities) (participant_meaning (lines_of t.holdings)) (account_meaning (lines_of t.account_holdings) (lines_of t.designations)) book

-- The desk that a day opens with: the lines of a description, two registers over them, and a book.
abbrev pub morning : Figures → Description → List Order → Desk
morning figures d book = desk figures d.securities (participant_meaning d.holdings) (account_meaning d.account_holdings d.designations) book

-- A day that is answered: it opens as its day part says, its events are answered with the link up, a history of accepted
-- calls leads to the desk that they leave, at which the law holds, and where a close was accepted the day is closed there.
pub record Day (input : List ℕ) (made : Plan) (orders : ℕ) (closed : Option Figures) (text : List ℕ) : Type 0 where
  pub figures : Figures
  pub book : List Order
  pub last : Desk
  pub calls : List Call
  pub opens : OpenedBy made.opening.market made.opening.date made.opening.quota figures
  pub rows : length book ≡ orders
  pub answers : Answered (session (morning figures (described input made) book) Up) made.line (drop made.events input) text last closed
  pub history : Ran (morning figures (described input made) book) last calls
  pub law : Law (morning figures (described input made) book) made.opening.quota calls last
  pub ends : IfSome closed (ClosedOver last.figures last.book)

-- The answer to a day part that fits the tables, and to its events: the fault of the day part, or the events' lines; with
-- the figures that the day closes with, where it does.
pub data DayAnswer (input : List ℕ) (room : Counts) (orders : ℕ) : Option Figures → List ℕ → Type 0 where
  refused : (f : LineFault) → day_part input room ≡ Err f → DayAnswer input room orders None (shown_fault (record { line = f; part = part.Day }))
  answered : (made : Plan) (closed : Option Figures) (text : List ℕ) → day_part input room ≡ Ok made → Day input made orders closed text → DayAnswer input room orders closed text

-- The whole answer: an input that is too long gets the fault of room alone.
pub data Output (input : List ℕ) (room : Counts) (orders : ℕ) : List ℕ → Type 0 where
  too_long : most_input < length input → Output input room orders (fault_line (refusal_number refusal.Room) 0 0 0 0)
  judged : (closed : Option Figures) (text : List ℕ) → length input ≤ most_input → DayAnswer input room orders closed text → Output input room orders text
