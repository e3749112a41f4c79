-- The day part: one D line, the four groups, one E line.
use Rattle.std.specs.Prelude.{◌≡◌, ℕ, ◌+◌, ◌*◌, ◌≤◌, true, cond, List, length, drop, None, Ok, Err, Result, ◌==◌, slice_index}
use Rattle.rules.specs.declared.letter.Letter.TheVariants as letter
use Rattle.rules.specs.declared.range.Quantity.TheVariants as quantity
use Rattle.rules.specs.declared.refusal.Refusal.TheVariants as refusal
use Rattle.rules.specs.Ranges.{in_range, range_of}
use Rattle.fields.specs.declared.fault.FieldFault.{FieldFault}
use Rattle.fields.specs.declared.fault.LineFault.{LineFault}
use Rattle.fields.specs.Faults.{and_then, line_at}
use Rattle.fields.specs.Layout.{width_of}
use Rattle.dayfile.specs.declared.plan.Opening.{Opening}
use Rattle.dayfile.specs.declared.plan.Counts.{Counts}
use Rattle.dayfile.specs.Groups.{Lines, group}
use Rattle.dayfile.specs.Kinds.{security_kind, holding_kind, account_holding_kind, designation_kind}
use Rattle.dayfile.specs.Rows.{line_of}

-- The S lines begin after the D line.
abbrev pub securities_at : ℕ
securities_at = width_of letter.Day

-- The P lines begin after the S lines.
abbrev pub holdings_at : Counts → ℕ
holdings_at c = securities_at + width_of letter.Security * c.securities

-- The A lines begin after the P lines.
abbrev pub account_holdings_at : Counts → ℕ
account_holdings_at c = holdings_at c + width_of letter.Holding * c.holdings

-- The G lines begin after the A lines.
abbrev pub designations_at : Counts → ℕ
designations_at c = account_holdings_at c + width_of letter.AccountHolding * c.account_holdings

-- The E line begins after the G lines.
abbrev pub end_at : Counts → ℕ
end_at c = designations_at c + width_of letter.Designation * c.designations

-- The events begin after the E line.
abbrev pub events_at : Counts → ℕ
events_at c = end_at c + width_of letter.End

-- The number of the E line, counted from 1: one D line and all of the groups' stand before it.
abbrev pub end_line : Counts → ℕ
end_line c = 2 + c.securities + c.holdings + c.account_holdings + c.designations

-- What a D line's numbers say.
abbrev pub opening_of : List ℕ → Result Opening FieldFault
opening_of ns = Ok (record { market = slice_index ns 0; date = slice_index ns 1; quota = slice_index ns 2 })

-- A count has to be the file's.
abbrev pub agreed : ℕ → ℕ → ℕ → Result (Unit {0}) FieldFault
agreed column said is = cond (said == is) (Ok tt) (Err (record { cause = refusal.Count; column = column }))

-- The counts of an E line have to be the file's, from the left.
abbrev pub ending_of : Counts → List ℕ → Result (Unit {0}) FieldFault
ending_of c ns =
    and_then (agreed 2 (slice_index ns 0) c.securities) (λ _.
    and_then (agreed 18 (slice_index ns 1) c.holdings) (λ _.
    and_then (agreed 34 (slice_index ns 2) c.account_holdings) (λ _.
    agreed 50 (slice_index ns 3) c.designations)))

-- So many lines of each letter.
abbrev pub counts : ℕ → ℕ → ℕ → ℕ → Counts
counts s p a g = record { securities = s; holdings = p; account_holdings = a; designations = g }

-- What a day part says: its opening, how many lines its groups have, and where the events begin, by their place in the
-- input and the number of their first line.
pub record Plan : Type 0 where
  pub opening : Opening
  pub counts : Counts
  pub events : ℕ
  pub line : ℕ

-- The plan of an opening and so many lines of each letter.
abbrev pub plan : Opening → Counts → Plan
plan o c = record { opening = o; counts = c; events = events_at c; line = end_line c + 1 }

-- What a day part says, with room for so many rows of each table, or its first fault.
abbrev pub day_part : List ℕ → Counts → Result Plan LineFault
day_part input room =
    and_then (line_at (slice_index input 0) 1 (line_of letter.Day opening_of input)) (λ o.
    and_then (group security_kind room.securities 0 None 2 (drop securities_at input)) (λ s.
    and_then (group holding_kind room.holdings 0 None (2 + s) (drop (holdings_at (counts s 0 0 0)) input)) (λ p.
    and_then (group account_holding_kind room.account_holdings 0 None (2 + s + p) (drop (account_holdings_at (counts s p 0 0)) input)) (λ a.
    and_then (group designation_kind room.designations 0 None (2 + s + p + a) (drop (designations_at (counts s p a 0)) input)) (λ g.
    and_then (line_at (slice_index (drop (end_at (counts s p a g)) input) 0) (end_line (counts s p a g)) (line_of letter.End (ending_of (counts s p a g)) (drop (end_at (counts s p a g)) input))) (λ _.
    Ok (plan o (counts s p a g))))))))

-- What a day opens with is in range.
pub record InRange (o : Opening) : Type 0 where
  pub market : in_range (range_of quantity.Market) o.market ≡ true
  pub date : in_range (range_of quantity.Date) o.date ≡ true
  pub quota : in_range (range_of quantity.Quota) o.quota ≡ true

-- The lines of a day part stand whole in the input and fit the tables, and what it opens with is in range.
pub record Planned (input : List ℕ) (room : Counts) (made : Plan) : Type 0 where
  pub opening : InRange made.opening
  pub securities : Lines security_kind room.securities securities_at input made.counts.securities
  pub holdings : Lines holding_kind room.holdings (holdings_at made.counts) input made.counts.holdings
  pub account_holdings : Lines account_holding_kind room.account_holdings (account_holdings_at made.counts) input made.counts.account_holdings
  pub designations : Lines designation_kind room.designations (designations_at made.counts) input made.counts.designations
  pub ended : made.events ≤ length input
  pub numbered : made.line ≤ made.events + 1
