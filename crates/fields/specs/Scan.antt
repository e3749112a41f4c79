-- A field read from the left, column by column.
use Rattle.std.specs.Prelude.{drop, min, ℕ, ◌+◌, ◌-◌, ◌*◌, cond, ◌&&◌, List, [], ◌∷◌, Some, None, Ok, Err, Option, Result, ◌==◌, nat_le, nat_lt}
use Rattle.std.specs.List.{prefix_len}
use Rattle.core.specs.Char.{is_ascii_digit}

-- What the byte b at place k makes of the number n so far, which is 0 while there were only spaces: none where the byte
-- rules every written form out.
abbrev pub step : ℕ → ℕ → ℕ → Option ℕ
step n k b =
    cond (b == 32 && (n == 0 && nat_lt k 15)) (Some 0)
    (cond (b == 48 && (n == 0 && nat_lt k 15)) None
    (cond (nat_le 48 b && nat_le b 57) (Some (n * 10 + (b - 48))) None))

-- The number that the bytes from place k on make of n, or the place that rules every written form out.
unfoldable pub scan : ℕ → ℕ → List ℕ → Result ℕ ℕ
scan n k [] = Ok n
scan n k (b ∷ bs) = elim (step n k b) [ None ↦ Err k | Some m ↦ scan m (k + 1) bs ]

-- How many spaces the bytes of a field begin with, the last byte aside.
abbrev pub spaces : List ℕ → ℕ
spaces bs = min (prefix_len (λ b. b == 32) bs) 15

-- How many digits follow these spaces.
abbrev pub digits_behind : List ℕ → ℕ
digits_behind bs = prefix_len is_ascii_digit (drop (spaces bs) bs)
