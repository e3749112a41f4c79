use Rattle.std.proofs.Common.{map}
use Rattle.lookup.proofs.Seeks.{found}
use Rattle.lookup.proofs.search.look.Goals as goal

pub returns-then-rising-clause-means : goal.returns-then-rising-clause-means
returns-then-rising-clause-means g c = λ up. found g.R.Key.Ord.cmp g.met.R.Key.Key.total c.args.key.now (map g.R.Row.named c.args.rows.now) c.held_rising.result (c.held_rising.ensures.is (up c.if-rising.true))
