-- What a replay answers.
use Rattle.std.specs.Prelude.{◌≡◌, ℕ, ◌-◌, ◌^◌, Bool, cond, ◌||◌, List, ◌++◌, length, drop, take, min, Option, nat_le, nat_lt}
use Rattle.rules.specs.declared.range.Quantity.TheVariants as quantity
use Rattle.rules.specs.Ranges.{range_of}
use Rattle.replay.specs.declared.outcome.Outcome.{Outcome}
use Rattle.replay.specs.declared.outcome.Outcome.TheVariants.{Answered, NoMemory, Short, TooMany}
use Rattle.gate.specs.declared.figures.Figures.{Figures}
use Rattle.gate.specs.Balances.{most_orders}
use Rattle.dayfile.specs.DayPart.{counts}
use Rattle.desk.specs.Output.{DayAnswer}

-- The most rows that each table of a replay may have: as many lines as a group may count.
abbrev pub most_rows : ℕ
most_rows = (range_of quantity.Lines).most

-- The number that says how a replay came out.
abbrev pub outcome_number : Outcome → ℕ
outcome_number Answered = 0
outcome_number Short = 1
outcome_number NoMemory = 2
outcome_number TooMany = 3

-- So many rows are more than a replay may have, or so many orders more than a day takes.
abbrev pub too_many : ℕ → ℕ → Bool
too_many rows orders = nat_lt most_rows rows || nat_lt most_orders orders

-- How an answer comes out that is written over a text: the text may be too short for it.
abbrev pub written_as : List ℕ → List ℕ → Outcome
written_as answer before = cond (nat_le (length answer) (length before)) Answered Short

-- A text with an answer at its beginning, and behind it what was there; one that is too short has the answer's beginning.
abbrev pub written_over : List ℕ → List ℕ → List ℕ
written_over answer before = cond (nat_le (length answer) (length before)) (answer ++ drop (length answer) before) (take (length before) answer)

-- Where an answer is made, it answers the input over so many rows and orders, its length is told as far as a length can tell it, and
-- it is written over the text.
abbrev pub Written : List ℕ → ℕ → ℕ → List ℕ → List ℕ → ℕ → ℕ → Type 0
Written input rows orders before after long number =
    (closed : Option Figures) × (answer : List ℕ) × DayAnswer input (counts rows rows rows rows) orders closed answer
    × (long ≡ min (2 ^ 64 - 1) (length answer)) × (after ≡ written_over answer before) × (number ≡ outcome_number (written_as answer before))
