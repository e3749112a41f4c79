-- The orders of the keys.
use Rattle.std.specs.Prelude.{◌≡◌}
use Rattle.std.specs.Ordering.{nat_cmp, ordering_then}
use Rattle.std.specs.declared.cmp.Ordering.TheVariants.{Less, Equal, Greater}
use Rattle.std.specs.declared.cmp.Ordering.{Ordering}
use Rattle.lookup.specs.declared.key.Pair.{Pair}

-- A total order: equal keys are the same, before is transitive, and after is before the other way round.
pub record TotalOrder {K : Type 0} (order : K → K → Ordering) : Type 0 where
  pub same : (a b : K) → order a b ≡ Equal → a ≡ b
  pub itself : (a : K) → order a a ≡ Equal
  pub after : (a b : K) → order a b ≡ Greater → order b a ≡ Less
  pub before : (a b : K) → order a b ≡ Less → order b a ≡ Greater
  pub through : (a b c : K) → order a b ≡ Less → order b c ≡ Less → order a c ≡ Less

-- Pairs by their first numbers, then by their second.
abbrev pub pair_order : Pair → Pair → Ordering
pair_order p q = ordering_then (nat_cmp p.first q.first) (nat_cmp p.second q.second)
