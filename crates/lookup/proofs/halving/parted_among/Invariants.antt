use Rattle.std.proofs.Common.{◌≡◌, ◌≤◌, map, true}
use Rattle.lookup.specs.Lookup.{rise}
use Rattle.lookup.proofs.Parting.{Among}
use Rattle.lookup.proofs.halving.parted_among.Given as goal

abbrev pub invariant-loop-place : goal.invariant-loop-place
invariant-loop-place g l =
    (l.from ≤ l.parting) × (l.parting ≤ l.place)
    × (rise g.R.Key.Ord.cmp g.R.Row.named l.rows ≡ true → Among g.R.Key.Ord.cmp l.key (map g.R.Row.named l.rows) l.from l.parting l.place)
