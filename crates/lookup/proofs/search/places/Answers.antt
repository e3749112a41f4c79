use Rattle.std.proofs.Common.{map, rules}
use Rattle.lookup.proofs.Seeks.{found}
use Rattle.lookup.proofs.search.places.Goals as goal

pub returns-clause-first_means : goal.returns-clause-first_means
returns-clause-first_means g c = found g.R.Key.Ord.cmp g.met.R.Key.Key.total c.args.key.now (map g.R.Row.named c.args.lines.now.rows.now) c.found.result (search rules)

pub returns-clause-second_means : goal.returns-clause-second_means
returns-clause-second_means g c = found g.S.Key.Ord.cmp g.met.S.Key.Key.total c.args.other.now (map g.S.Row.named c.args.others.now.rows.now) c.found-2.result (search rules)
