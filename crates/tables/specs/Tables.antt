-- Lent tables, whose first rows are their lines.
use Rattle.std.specs.Prelude.{ℕ, cond, List, take, Some, None, Ok, Err, Result, nat_lt, slice_set}
use Rattle.std.specs.List.{slice_get}
use Rattle.rules.specs.declared.refusal.Refusal.{Refusal}
use Rattle.rules.specs.declared.refusal.Refusal.TheVariants.{Room}

-- A lent table: all of its rows, and how many of them, from the first on, are its lines.
pub record Lent (R : Type 0) : Type 0 where
  pub rows : List R
  pub count : ℕ

-- A table's lines.
abbrev pub lines_of : {R : Type 0} → Lent R → List R
lines_of t = take t.count t.rows

-- One more line is taken where there is room for it.
abbrev pub push_answer : ℕ → ℕ → Result (Unit {0}) Refusal
push_answer taken all = cond (nat_lt taken all) (Ok tt) (Err Room)

-- The rows with the one at a place changed, if there is one.
abbrev pub changed_at : {R : Type 0} → (R → R) → ℕ → List R → List R
changed_at change k rows = elim (slice_get rows k) [ None ↦ rows | Some row ↦ slice_set rows k (change row) ]
