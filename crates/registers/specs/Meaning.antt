-- What a register means: pools of shares, and how an order finds its pool.
use Rattle.std.specs.Prelude.{◌≡◌, ℕ, ◌+◌, ◌-◌, ◌≤◌, cond, Some, None, Ok, Err, Option, Result, ◌==◌, nat_le}
use Rattle.rules.specs.declared.refusal.Refusal.{Refusal}
use Rattle.rules.specs.declared.refusal.Refusal.TheVariants.{ShortBalance, Unsound}
use Rattle.rules.specs.declared.range.Quantity.TheVariants.{Holding}
use Rattle.rules.specs.Ranges.{range_of}
use Rattle.registers.specs.declared.pool.Pool.{Pool}

-- A register: its pools by their numbers, and the pool that a participant, an account and a code find.
pub record Meaning : Type 0 where
  pub pools : ℕ → Option Pool
  pub finds : ℕ → ℕ → ℕ → Result ℕ Refusal

-- A pool of two numbers.
abbrev pub pool_of : ℕ → ℕ → Pool
pool_of opening sellable = record { opening = opening; sellable = sellable }

-- The most shares that a pool may open with.
abbrev pub most_shares : ℕ
most_shares = (range_of Holding).most

-- No more may be sold than there was at the opening, and that is not past the most.
pub record InRange (p : Pool) : Type 0 where
  pub below : p.sellable ≤ p.opening
  pub capped : p.opening ≤ most_shares

-- A pool, if there is one, is in range.
abbrev pub SoundPool : Option Pool → Type 0
SoundPool (Some p) = InRange p
SoundPool None = Unit {0}

-- Every pool of the register is in range.
abbrev pub Sound : Meaning → Type 0
Sound m = (k : ℕ) → SoundPool (m.pools k)

-- All of a pool, if there is one, may still be sold.
abbrev pub FreshPool : Option Pool → Type 0
FreshPool (Some p) = p.sellable ≡ p.opening
FreshPool None = Unit {0}

-- Nothing has been drawn from any pool of the register.
abbrev pub Fresh : Meaning → Type 0
Fresh m = (k : ℕ) → FreshPool (m.pools k)

-- How many shares a pool opened with, if there is one.
abbrev pub opening_in : Option Pool → Option ℕ
opening_in (Some p) = Some p.opening
opening_in None = None

-- How many shares of a pool may still be sold, if there is one.
abbrev pub sellable_in : Option Pool → Option ℕ
sellable_in (Some p) = Some p.sellable
sellable_in None = None

-- How many shares the pool of a number opened with.
abbrev pub opening_of : Meaning → ℕ → Option ℕ
opening_of m k = opening_in (m.pools k)

-- How many shares of the pool of a number may still be sold.
abbrev pub sellable_of : Meaning → ℕ → Option ℕ
sellable_of m k = sellable_in (m.pools k)

-- The register whose pool k is o, and whose other pools and finding rule are m's.
abbrev pub with_pool : Meaning → ℕ → Option Pool → Meaning
with_pool m k o = record { pools = λ j. cond (j == k) o (m.pools j); finds = m.finds }

-- A draw is refused where there is no pool, or fewer shares in it.
abbrev pub draw_in : Option Pool → ℕ → Result (Unit {0}) Refusal
draw_in (Some p) n = cond (nat_le n p.sellable) (Ok tt) (Err ShortBalance)
draw_in None n = Err ShortBalance

-- The pool after a draw.
abbrev pub drawn_in : Option Pool → ℕ → Option Pool
drawn_in (Some p) n = Some (pool_of p.opening (p.sellable - n))
drawn_in None n = None

-- A restore is refused where there is no pool, or the pool would pass its opening.
abbrev pub restore_in : Option Pool → ℕ → Result (Unit {0}) Refusal
restore_in (Some p) n = cond (nat_le (p.sellable + n) p.opening) (Ok tt) (Err Unsound)
restore_in None n = Err Unsound

-- The pool after a restore.
abbrev pub restored_in : Option Pool → ℕ → Option Pool
restored_in (Some p) n = Some (pool_of p.opening (p.sellable + n))
restored_in None n = None

-- What a draw from the pool of a number answers.
abbrev pub draw_answer : Meaning → ℕ → ℕ → Result (Unit {0}) Refusal
draw_answer m k n = draw_in (m.pools k) n

-- What an accepted draw leaves.
abbrev pub drawn : Meaning → ℕ → ℕ → Meaning
drawn m k n = with_pool m k (drawn_in (m.pools k) n)

-- What a restore to the pool of a number answers.
abbrev pub restore_answer : Meaning → ℕ → ℕ → Result (Unit {0}) Refusal
restore_answer m k n = restore_in (m.pools k) n

-- What an accepted restore leaves.
abbrev pub restored : Meaning → ℕ → ℕ → Meaning
restored m k n = with_pool m k (restored_in (m.pools k) n)

-- How many shares may be sold after a draw, or its refusal.
abbrev pub left_of : Pool → ℕ → Result ℕ Refusal
left_of p n = cond (nat_le n p.sellable) (Ok (p.sellable - n)) (Err ShortBalance)

-- How many shares may be sold after a restore, or its refusal.
abbrev pub again_of : Pool → ℕ → Result ℕ Refusal
again_of p n = cond (nat_le (p.sellable + n) p.opening) (Ok (p.sellable + n)) (Err Unsound)
