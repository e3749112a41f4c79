use Rattle.std.proofs.Common.{◌≡◌, ◌+◌}
use Rattle.lookup.proofs.halving.both_before.Given as goal

abbrev pub invariant-quarters : goal.invariant-quarters
invariant-quarters g l =
    (l.search.rows.now ≡ l.rows) × (l.search.key.now ≡ l.key) × (l.beside.rows.now ≡ l.others) × (l.beside.key.now ≡ l.other)

abbrev pub decreases-quarters : goal.decreases-quarters
decreases-quarters g l = l.search.size + l.beside.size
