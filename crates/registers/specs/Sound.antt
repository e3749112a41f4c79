-- A register over holdings is sound: every pool is in range.
use Rattle.std.specs.Prelude.{ℕ, ◌%◌, Bool, cond, ◌&&◌, List, Some, None, Option, Result, ◌==◌, nat_le, nat_lt}
use Rattle.std.specs.List.{slice_get}
use Rattle.std.proofs.lemmas.Bool.{cond_both, and_parts, leb-true}
use Rattle.rules.specs.declared.refusal.Refusal.{Refusal}
use Rattle.rules.specs.declared.range.Quantity.{Quantity}
use Rattle.rules.specs.declared.range.Quantity.TheVariants as quantity
use Rattle.rules.specs.Ranges.{in_range, range_of}
use Rattle.lookup.specs.declared.key.Pair.{Pair}
use Rattle.tables.specs.declared.rows.Holding.{Holding}
use Rattle.registers.specs.Meaning.{pool_of, most_shares, SoundPool, Sound}
use Rattle.registers.specs.Registers.{held_meaning, pool_at}

-- A row whose opening number is in range, and of which no more may be sold, is a pool in range.
row_sound : (owner : Bool) (opening sellable : ℕ) → SoundPool (cond ((owner && in_range (range_of quantity.Holding) opening) && nat_le sellable opening) (Some (pool_of opening sellable)) None)
row_sound owner opening sellable = cond_both ((owner && in_range (range_of quantity.Holding) opening) && nat_le sellable opening) _ _ SoundPool
    (λ e.
    let p = and_parts (owner && in_range (range_of quantity.Holding) opening) (nat_le sellable opening) e in
    let q = and_parts owner (in_range (range_of quantity.Holding) opening) p.0 in
    let r = and_parts (nat_le 1 opening && nat_le opening most_shares) (nat_lt 0 1 && opening % 1 == 0) q.1 in
    record { below = leb-true sellable opening p.1; capped = leb-true opening most_shares (and_parts (nat_le 1 opening) (nat_le opening most_shares) r.0).1 })
    (λ e. tt)

module _ {O : Type 0} (numbers : Quantity) (number : O → ℕ) where
  line_sound : (line : Option (Holding O)) → SoundPool (pool_at numbers number line)
  line_sound None = tt
  line_sound (Some h) = row_sound (in_range (range_of numbers) (number h.owner) && in_range (range_of quantity.Code) h.code) h.opening h.sellable

  -- The register is sound, whatever its orders find lines by.
  pub held_sound : (finds : List (Option Pair) → ℕ → ℕ → ℕ → Result ℕ Refusal) (lines : List (Holding O)) → Sound (held_meaning numbers number finds lines)
  held_sound finds lines k = line_sound (slice_get lines k)
