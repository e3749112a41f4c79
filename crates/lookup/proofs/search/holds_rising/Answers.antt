use Rattle.std.proofs.Common.{map, sym, ap, ◌∙◌, arith}
use Rattle.std.proofs.lemmas.List.{length-map}
use Rattle.lookup.specs.Lookup.{is_of}
use Rattle.lookup.proofs.Rise.{row_at}
use Rattle.lookup.proofs.Holders.{past, told}
use Rattle.lookup.proofs.search.holds_rising.Goals as goal

pub returns-in_default : goal.returns-in_default
returns-in_default g c = λ up. sym (past c.args.first (map g.R.Row.named c.args.rows.now) c.before-i.result (omega (arith, c.in_default.ensures.lookup.3, length-map c.args.rows.now g.R.Row.named)) (c.before-i.ensures.parts up).0)

pub returns : goal.returns
returns g c = λ up.
    let l = c.in-Some.ensures.lookup.3.0 in
    c.is_of.ensures
    ∙ ap (is_of c.args.first) (row_at g.R.Row.named c.args.rows.now c.before-i.result c.in-Some.row.now l c.in-Some.ensures.lookup.1)
    ∙ told c.args.first (map g.R.Row.named c.args.rows.now) c.before-i.result up (omega (arith, l, length-map c.args.rows.now g.R.Row.named)) (c.before-i.ensures.parts up).0 ((c.before-i.ensures.parts up).1 (omega (arith, l, length-map c.args.rows.now g.R.Row.named)))
