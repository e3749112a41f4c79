use Rattle.std.proofs.Common.{map, sym, ap, ◌∙◌, arith}
use Rattle.std.proofs.lemmas.List.{length-map}
use Rattle.lookup.specs.Lookup.{is_at}
use Rattle.lookup.proofs.Rise.{presumed_at, found_at, none_at, none_past}
use Rattle.lookup.proofs.search.found.Goals as goal

pub returns-in_err-row : goal.returns-in_err-row
returns-in_err-row g c = λ up parts. c.from_residual.ensures ∙ sym (none_past g.R.Key.Ord.cmp g.met.R.Key.Key.total c.args.key.now (map g.R.Row.named c.args.rows.now) c.args.parting (omega (arith, c.requires, length-map c.args.rows.now g.R.Row.named)) (omega (arith, c.in_err-row.ensures.lookup.3, length-map c.args.rows.now g.R.Row.named)) parts.0)

pub returns-then-is_at : goal.returns-then-is_at
returns-then-is_at g c = λ up parts.
    let l = c.in_ok-row.ensures.lookup.3.0 in
    let e = presumed_at g.R.Key.Ord.cmp g.R.Row.named g.R.Row.presumed g.met.R.Row.presumed_right c.args.rows.now c.args.parting c.in_ok-row.row.now up l c.in_ok-row.ensures.lookup.1 in
    sym (found_at g.R.Key.Ord.cmp g.met.R.Key.Key.total c.args.key.now (map g.R.Row.named c.args.rows.now) c.args.parting (omega (arith, l, length-map c.args.rows.now g.R.Row.named)) parts.0 (sym (ap (is_at g.R.Key.Ord.cmp c.args.key.now) e) ∙ sym c.if-is_at.ensures))

pub returns-else-is_at : goal.returns-else-is_at
returns-else-is_at g c = λ up parts.
    let l = c.in_ok-row.ensures.lookup.3.0 in
    let e = presumed_at g.R.Key.Ord.cmp g.R.Row.named g.R.Row.presumed g.met.R.Row.presumed_right c.args.rows.now c.args.parting c.in_ok-row.row.now up l c.in_ok-row.ensures.lookup.1 in
    sym (none_at g.R.Key.Ord.cmp g.met.R.Key.Key.total c.args.key.now (map g.R.Row.named c.args.rows.now) c.args.parting up (omega (arith, l, length-map c.args.rows.now g.R.Row.named)) parts.0 (parts.1 (omega (arith, l, length-map c.args.rows.now g.R.Row.named))) (sym (ap (is_at g.R.Key.Ord.cmp c.args.key.now) e) ∙ sym c.if-is_at.ensures))
