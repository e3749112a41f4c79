use Rattle.std.proofs.Common.{◌≡◌, ◌<◌, set, sym, ap, ◌∙◌, subst}
use Rattle.std.specs.Prelude.{IfSome}
use Rattle.std.specs.List.{slice_get}
use Rattle.tables.specs.Tables.{Lent, lines_of}
use Rattle.tables.proofs.Lent.{kept, set_in_lines}
use Rattle.tables.proofs.table.Table.replace.Goals as goal

pub invariant_of-self : goal.invariant_of-self
invariant_of-self g c =
    kept g.R.Key.Ord.cmp g.R.Row.named c.self.inside.rows.now c.self.inside.count c.args.place c.args.row c.self.inside.rising
    (subst (λ (v : Lent _). c.args.place < v.count) (sym c.self.view_is) c.requires.held)
    (subst (λ (v : Lent _). IfSome (slice_get (lines_of v) c.args.place) (λ y. g.R.Row.named c.args.row ≡ g.R.Row.named y)) (sym c.self.view_is) c.requires.same)
    c.self.invariant

pub returns-clause-wrote : goal.returns-clause-wrote
returns-clause-wrote g c =
    set_in_lines c.self.inside.count c.self.inside.rows.now c.args.place c.args.row (subst (λ (v : Lent _). c.args.place < v.count) (sym c.self.view_is) c.requires.held)
    ∙ ap (λ (v : Lent _). set v.rows c.args.place c.args.row) c.self.view_is
