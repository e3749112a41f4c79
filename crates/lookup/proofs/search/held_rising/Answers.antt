use Rattle.std.proofs.Common.{map, sym, ap, ◌∙◌, arith}
use Rattle.std.proofs.lemmas.List.{length-map}
use Rattle.lookup.specs.Lookup.{is_at}
use Rattle.lookup.proofs.Rise.{row_at, found_at, none_at, none_past}
use Rattle.lookup.proofs.search.held_rising.Goals as goal

pub returns-in_err-row-clause-is : goal.returns-in_err-row-clause-is
returns-in_err-row-clause-is g c = λ up. c.from_residual.ensures ∙ sym (none_past g.R.Key.Ord.cmp g.met.R.Key.Key.total c.args.key.now (map g.R.Row.named c.args.rows.now) c.before-place.result (omega (arith, c.before-place.ensures.within, length-map c.args.rows.now g.R.Row.named)) (omega (arith, c.in_err-row.ensures.lookup.3, length-map c.args.rows.now g.R.Row.named)) (c.before-place.ensures.parts up).0)

pub returns-then-has_key-clause-is : goal.returns-then-has_key-clause-is
returns-then-has_key-clause-is g c = λ up.
    let l = c.in_ok-row.ensures.lookup.3.0 in
    let e = row_at g.R.Row.named c.args.rows.now c.before-place.result c.in_ok-row.row.now l c.in_ok-row.ensures.lookup.1 in
    sym (found_at g.R.Key.Ord.cmp g.met.R.Key.Key.total c.args.key.now (map g.R.Row.named c.args.rows.now) c.before-place.result (omega (arith, l, length-map c.args.rows.now g.R.Row.named)) (c.before-place.ensures.parts up).0 (sym (ap (is_at g.R.Key.Ord.cmp c.args.key.now) e) ∙ sym c.if-has_key.ensures))

pub returns-else-has_key-clause-is : goal.returns-else-has_key-clause-is
returns-else-has_key-clause-is g c = λ up.
    let l = c.in_ok-row.ensures.lookup.3.0 in
    let e = row_at g.R.Row.named c.args.rows.now c.before-place.result c.in_ok-row.row.now l c.in_ok-row.ensures.lookup.1 in
    sym (none_at g.R.Key.Ord.cmp g.met.R.Key.Key.total c.args.key.now (map g.R.Row.named c.args.rows.now) c.before-place.result up (omega (arith, l, length-map c.args.rows.now g.R.Row.named)) (c.before-place.ensures.parts up).0 ((c.before-place.ensures.parts up).1 (omega (arith, l, length-map c.args.rows.now g.R.Row.named))) (sym (ap (is_at g.R.Key.Ord.cmp c.args.key.now) e) ∙ sym c.if-has_key.ensures))
