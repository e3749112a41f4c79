-- Two examples of a first field, which begins in column 2.
use Rattle.std.specs.Prelude.{ℕ, ◌-◌, List, [], ◌∷◌, ◌++◌, replicate}
use Rattle.fields.specs.Written.{Spells, RulesOut}

-- Fifteen spaces and 7.
abbrev pub seven : List ℕ
seven = replicate 15 32 ++ (55 ∷ [])

-- Fourteen spaces and 07.
abbrev pub leading_zero : List ℕ
leading_zero = replicate 14 32 ++ (48 ∷ (55 ∷ []))

-- The first is the number 7; the second is ruled out at column 16.
pub record FieldExamples : Type 0 where
  pub good : Spells seven 7
  pub ruled_out : RulesOut leading_zero (16 - 2)
