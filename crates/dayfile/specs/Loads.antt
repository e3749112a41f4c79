-- The lent tables before and after a load.
use Rattle.std.specs.Prelude.{◌≡◌, ℕ, ◌+◌, ◌≤◌, true, List, length, drop, is_ok, IfOk, Ok, Err, Result, MatchResult}
use Rattle.rules.specs.declared.letter.Part.TheVariants as part
use Rattle.fields.specs.declared.fault.DayFault.{DayFault}
use Rattle.fields.specs.Faults.{day_at}
use Rattle.gate.specs.declared.day.LoadingDay.{LoadingDay}
use Rattle.gate.specs.declared.figures.Figures.{Figures}
use Rattle.gate.specs.Opened.{OpenedBy}
use Rattle.registers.specs.Meaning.{Fresh}
use Rattle.registers.specs.Registers.{participant_meaning, account_meaning}
use Rattle.dayfile.specs.declared.loaded.Loaded.{Loaded}
use Rattle.dayfile.specs.declared.plan.Counts.{Counts}
use Rattle.dayfile.specs.declared.lent.Tables.{Tables}
use Rattle.tables.specs.Tables.{lines_of}
use Rattle.dayfile.specs.DayPart.{Plan, account_holdings_at, counts, day_part, designations_at, holdings_at, securities_at}
use Rattle.dayfile.specs.Description.{Describes, Description}
use Rattle.dayfile.specs.Groups.{filled}
use Rattle.dayfile.specs.Kinds.{security_kind, holding_kind, account_holding_kind, designation_kind}

-- How many rows each table has room for.
abbrev pub room_of : Tables → Counts
room_of t = counts (length t.securities.rows) (length t.holdings.rows) (length t.account_holdings.rows) (length t.designations.rows)

-- The tables after a day part is loaded.
abbrev pub filled_by : Plan → List ℕ → Tables → Tables
filled_by made input t = record {
  securities = filled security_kind made.counts.securities (drop securities_at input) t.securities;
  holdings = filled holding_kind made.counts.holdings (drop (holdings_at made.counts) input) t.holdings;
  account_holdings = filled account_holding_kind made.counts.account_holdings (drop (account_holdings_at made.counts) input) t.account_holdings;
  designations = filled designation_kind made.counts.designations (drop (designations_at made.counts) input) t.designations;
}

-- The tables after a load: where it is refused, as they were.
abbrev pub loaded : {E : Type 0} → Result Plan E → List ℕ → Tables → Tables
loaded (Ok made) input t = filled_by made input t
loaded (Err f) input t = t

-- The day opens as the D line says, and the events begin after the E line, inside the input.
pub record Begins (input : List ℕ) (made : Plan) (figures : Figures) (events : List ℕ) (line : ℕ) : Type 0 where
  pub opened : OpenedBy made.opening.market made.opening.date made.opening.quota figures
  pub events_begin : events ≡ drop made.events input
  pub first_line : line ≡ made.line
  pub inside : made.events ≤ length input
  pub few_lines : line ≤ made.events + 1

-- The tables hold the lines of the description, and registers over them are fresh.
pub record Holds (d : Description) (t : Tables) : Type 0 where
  pub securities : lines_of t.securities ≡ d.securities
  pub holdings : lines_of t.holdings ≡ d.holdings
  pub account_holdings : lines_of t.account_holdings ≡ d.account_holdings
  pub designations : lines_of t.designations ≡ d.designations
  pub participants_fresh : Fresh (participant_meaning (lines_of t.holdings))
  pub accounts_fresh : Fresh (account_meaning (lines_of t.account_holdings) (lines_of t.designations))

-- A load of the input into the tables answers r and leaves the tables after it.
pub record Load (input : List ℕ) (before : Tables) (r : Result Loaded (LoadingDay × DayFault)) (after : Tables) : Type 0 where
  -- the answer is what the day part says, or its first fault
  pub answers : MatchResult r
      (λ l. (made : Plan) × (day_part input (room_of before) ≡ Ok made) × Begins input made l.day.figures l.events.bytes.now l.events.line)
      (λ back. day_at part.Day (day_part input (room_of before)) ≡ Err back.1)
  -- the tables hold the file's lines and then what they held there, or stay as they were
  pub leaves : after ≡ loaded (day_part input (room_of before)) input before
  -- an accepted input begins with the written form of a description, and the tables hold its lines
  pub described : IfOk r (λ l. (d : Description) × Describes input (room_of before) d × Holds d after)
  -- and each input that begins with the written form of a description is accepted
  pub accepts : (d : Description) → Describes input (room_of before) d → (is_ok r ≡ true) × Holds d after
