-- The written form of a number in columns, and what a field's bytes say.
use Rattle.std.specs.Prelude.{◌≡◌, ℕ, suc, ◌-◌, ◌^◌, ◌<◌, List, ◌++◌, length, take, replicate, decimal, ◌≢◌}

-- A text at the right end of w columns, with spaces before it.
abbrev pub columned : ℕ → List ℕ → List ℕ
columned w bs = replicate (w - length bs) 32 ++ bs

-- The number n in w columns: its base-ten digits at the right end.
unfoldable pub in_columns : ℕ → ℕ → List ℕ
in_columns w n = columned w (decimal n)

-- The bytes are the written form of n in sixteen columns.
pub record Spells (bs : List ℕ) (n : ℕ) : Type 0 where
  pub small : n < 10 ^ 16
  pub form : bs ≡ in_columns 16 n

-- The byte at place k is the first that rules every written form out: some number's form begins with the bytes before
-- it, and none with those and this one.
pub record RulesOut (bs : List ℕ) (k : ℕ) : Type 0 where
  pub within : k < 16
  pub before : (n : ℕ) × (n < 10 ^ 16) × (take k (in_columns 16 n) ≡ take k bs)
  pub none : (n : ℕ) → n < 10 ^ 16 → take (suc k) (in_columns 16 n) ≢ take (suc k) bs
