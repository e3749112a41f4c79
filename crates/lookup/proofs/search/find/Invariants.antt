use Rattle.std.proofs.Common.{◌≡◌, map, drop}
use Rattle.lookup.specs.Lookup.{seek}
use Rattle.lookup.proofs.search.find.Given as goal

abbrev pub invariant-loop-i : goal.invariant-loop-i
invariant-loop-i g l = seek g.R.Key.Ord.cmp l.i (map g.R.Row.named (drop l.i l.rows)) l.key ≡ seek g.R.Key.Ord.cmp 0 (map g.R.Row.named l.rows) l.key
