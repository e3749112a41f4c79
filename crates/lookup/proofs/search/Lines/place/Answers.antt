use Rattle.std.proofs.Common.{map}
use Rattle.lookup.proofs.Seeks.{found}
use Rattle.lookup.proofs.search.Lines.place.Goals as goal

pub returns-then-self-clause-means : goal.returns-then-self-clause-means
returns-then-self-clause-means g c = found g.R.Key.Ord.cmp g.met.R.Key.Key.total c.args.key.now (map g.R.Row.named c.args.self.now.rows.now) c.find_rising.result (c.find_rising.ensures (c.args.self.now.known c.if-self.true))
