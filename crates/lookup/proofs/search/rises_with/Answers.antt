use Rattle.std.proofs.Common.{sym, ap, ◌∙◌}
use Rattle.lookup.specs.Lookup.{is_above}
use Rattle.lookup.proofs.Rise.{more_low, more_absent, more_next}
use Rattle.lookup.proofs.search.rises_with.Goals as goal

pub returns-then-not-rising : goal.returns-then-not-rising
returns-then-not-rising g c = λ e. sym (more_low g.R.Key.Ord.cmp g.R.Row.named c.args.rows.now c.args.row.now (sym e ∙ c.if-not-rising.true))

pub returns-in_default : goal.returns-in_default
returns-in_default g c = λ e. sym (more_absent g.R.Key.Ord.cmp g.R.Row.named c.args.rows.now c.args.row.now c.in_default.ensures)

pub returns-in-Some-last : goal.returns-in-Some-last
returns-in-Some-last g c = λ e.
    let rows = c.args.rows.now in
    c.follows.ensures
    ∙ ap (λ o. is_above g.R.Key.Ord.cmp o c.in-Some.k) c.key-in-Some-last.ensures
    ∙ sym (more_next g.R.Key.Ord.cmp g.R.Row.named rows c.args.row.now c.in-Some.k c.in-Some-last.last.now (sym e ∙ c.if-not-rising.false) c.in-Some-last.ensures.item.3.0 c.in-Some-last.ensures.item.1 c.in-Some.ensures)
