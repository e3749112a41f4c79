use Rattle.std.proofs.Common.{map, None, Some, arith}
use Rattle.std.proofs.lemmas.Grind.{common_steps}
use Rattle.lookup.proofs.Seeks.{found}
use Rattle.lookup.proofs.search.find.Goals as goal

pub returns-in-Equal-clause-means : goal.returns-in-Equal-clause-means
returns-in-Equal-clause-means g c = found g.R.Key.Ord.cmp g.met.R.Key.Key.total c.args.key.now (map g.R.Row.named c.args.rows.now) (Some c.loop-i.i) (grind (arith, common_steps))

pub returns-in-Greater-clause-means : goal.returns-in-Greater-clause-means
returns-in-Greater-clause-means g c = found g.R.Key.Ord.cmp g.met.R.Key.Key.total c.args.key.now (map g.R.Row.named c.args.rows.now) None (grind (arith, common_steps))

pub returns-clause-means : goal.returns-clause-means
returns-clause-means g c = found g.R.Key.Ord.cmp g.met.R.Key.Key.total c.args.key.now (map g.R.Row.named c.args.rows.now) None (grind (arith, common_steps))
