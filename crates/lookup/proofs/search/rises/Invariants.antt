use Rattle.std.proofs.Common.{◌≡◌, map, drop, None}
use Rattle.lookup.specs.Lookup.{rise_from}
use Rattle.lookup.proofs.search.rises.Given as goal

abbrev pub invariant-loop-row : goal.invariant-loop-row
invariant-loop-row g l = rise_from g.R.Key.Ord.cmp l.last (map g.R.Row.named (drop l.row-index l.rows)) ≡ rise_from g.R.Key.Ord.cmp None (map g.R.Row.named l.rows)
