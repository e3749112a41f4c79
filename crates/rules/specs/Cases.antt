-- The case of an enum by its number.
use Rattle.std.specs.Prelude.{ℕ, cond, List, [], ◌∷◌, Some, None, Option, ◌==◌}

-- The first of the cases whose number is n.
abbrev pub numbered : {X : Type 0} → (X → ℕ) → List X → ℕ → Option X
numbered number [] n = None
numbered number (x ∷ xs) n = cond (n == number x) (Some x) (numbered number xs n)
