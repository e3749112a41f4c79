use Rattle.std.proofs.Common.{◌≡◌}
use Rattle.lookup.proofs.halving.before.Given as goal

abbrev pub invariant-quarters : goal.invariant-quarters
invariant-quarters g l = (l.search.rows.now ≡ l.rows) × (l.search.key.now ≡ l.key)

abbrev pub decreases-quarters : goal.decreases-quarters
decreases-quarters g l = l.search.size
