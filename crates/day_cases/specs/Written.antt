use Rattle.std.specs.Prelude.{◌≡◌, ℕ, List, ◌++◌}

-- What was written stays as it is, and more may stand behind it.
abbrev pub Grown : List ℕ → List ℕ → Type 0
Grown before after = (text : List ℕ) × (after ≡ before ++ text)
