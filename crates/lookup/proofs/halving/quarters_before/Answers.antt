use Rattle.std.proofs.Common.{◌≡◌, ℕ, ◌+◌, ◌*◌, map, arith, true, rules}
use Rattle.std.proofs.lemmas.List.{length-map}
use Rattle.lookup.specs.Lookup.{rise}
use Rattle.lookup.proofs.Parting.{counted, told}
use Rattle.lookup.proofs.halving.quarters_before.Goals as goal

pub returns : goal.returns
returns g c =
    let order = g.R.Key.Ord.cmp in
    let key = c.args.key.now in
    let rows = c.args.rows.now in
    let q : ℕ = c.args.quarter in
    let parts = λ (up : rise order g.R.Row.named rows ≡ true).
    counted order key (map g.R.Row.named rows) g.met.R.Key.Key.total up c.args.from q (c.from.result + c.from-2.result + c.from-3.result) c.is_before-first.result c.is_before-second.result c.is_before-third.result
    (omega (arith, length-map rows g.R.Row.named))
    (told order key g.R.Row.named g.R.Row.presumed g.met.R.Row.presumed_right rows (c.args.from + q) c.index-rows-from.result c.is_before-first.result up (omega arith) c.index-rows-from.is c.is_before-first.ensures)
    (told order key g.R.Row.named g.R.Row.presumed g.met.R.Row.presumed_right rows (c.args.from + 2 * q) c.index-rows-from-2.result c.is_before-second.result up (omega arith) c.index-rows-from-2.is c.is_before-second.ensures)
    (told order key g.R.Row.named g.R.Row.presumed g.met.R.Row.presumed_right rows (c.args.from + 3 * q) c.index-rows-from-3.result c.is_before-third.result up (omega arith) c.index-rows-from-3.is c.is_before-third.ensures)
    (omega (arith, c.from.ensures, c.from-2.ensures, c.from-3.ensures)) in
    record { most = search rules; below = λ up. (parts up).0; at = λ up. (parts up).1 }
