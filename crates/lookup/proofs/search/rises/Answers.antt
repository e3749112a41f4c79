use Rattle.std.proofs.Common.{◌≡◌, ◌∙◌, false, map, None, arith}
use Rattle.std.proofs.lemmas.Grind.{common_steps}
use Rattle.lookup.specs.Lookup.{rise_from}
use Rattle.lookup.proofs.Rise.{rising_means, words_mean}
use Rattle.lookup.proofs.search.rises.Goals as goal

pub returns-in_default-clause-whole : goal.returns-in_default-clause-whole
returns-in_default-clause-whole g c = λ w.
    let e : false ≡ rise_from g.R.Key.Ord.cmp None (map g.R.Row.named c.args.rows.now) = grind (arith, common_steps) in
    e ∙ words_mean g.R.Key.Ord.cmp g.met.R.Key.Key.total (map g.R.Row.named c.args.rows.now) w

pub returns-then-not-follows-clause-whole : goal.returns-then-not-follows-clause-whole
returns-then-not-follows-clause-whole g c = λ w.
    let e : false ≡ rise_from g.R.Key.Ord.cmp None (map g.R.Row.named c.args.rows.now) = grind (arith, common_steps) in
    e ∙ words_mean g.R.Key.Ord.cmp g.met.R.Key.Key.total (map g.R.Row.named c.args.rows.now) w

pub returns-clause-sound : goal.returns-clause-sound
returns-clause-sound g c = λ t. rising_means g.R.Key.Ord.cmp g.met.R.Key.Key.total (map g.R.Row.named c.args.rows.now) (grind (arith, common_steps))
