use Rattle.std.proofs.Common.{rules, tests, ◌∙◌}
use Rattle.std.proofs.lemmas.Iterator.{YieldsList-from_slice}
use Rattle.std.proofs.lemmas.Iterator.Search.{any_from_yields_List}
use Rattle.lookup.specs.Lookup.{is_of}
use Rattle.lookup.proofs.Holders.{any_of}
use Rattle.lookup.proofs.search.holds_walk.Goals as goal

pub returns : goal.returns
returns g c = any_from_yields_List (λ x. is_of c.args.first (g.R.Row.named x)) _ _ _ c.any.ensures.ran (YieldsList-from_slice c.args.rows.now cc) (λ x b q k. search (rules, tests)) ∙ any_of g.R.Row.named c.args.first c.args.rows.now
