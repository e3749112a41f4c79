use Rattle.std.proofs.Common.{◌≡◌, ℕ, ◌+◌, ◌<◌, ◌≤◌, map, sym, subst, ⊎_elim, arith, true, rules}
use Rattle.std.proofs.lemmas.Bool.{cases_lt}
use Rattle.std.proofs.lemmas.List.{length-map}
use Rattle.lookup.specs.Lookup.{rise}
use Rattle.lookup.proofs.Parting.{Among, among_more, told}
use Rattle.lookup.proofs.halving.parted_among.Goals as goal

pub loop-place-preserved : goal.loop-place-preserved
loop-place-preserved g c =
    let order = g.R.Key.Ord.cmp in
    let key = c.args.key.now in
    let rows = c.args.rows.now in
    let ks = map g.R.Row.named rows in
    let place : ℕ = c.loop-place.place in
    let parting : ℕ = c.loop-place.parting in
    let more = λ (up : rise order g.R.Row.named rows ≡ true).
    subst (λ (n : ℕ). Among order key ks c.args.from (parting + n) (place + 1)) (sym c.from-parting.ensures)
    (among_more order key ks g.met.R.Key.Key.total up c.args.from parting place c.is_before.result (omega (arith, length-map rows g.R.Row.named)) c.loop-place.invariant.1
    (told order key g.R.Row.named g.R.Row.presumed g.met.R.Row.presumed_right rows place c.index-rows-place.result c.is_before.result up (omega arith) c.index-rows-place.is c.is_before.ensures)
    (c.loop-place.invariant.2 up)) in
    (search rules, search rules, more)

pub returns-clause-parts : goal.returns-clause-parts
returns-clause-parts g c up among =
    let parting : ℕ = c.loop-place.parting in
    let seen = c.loop-place.invariant.2 up in (
      seen.0 among.0,
      λ l. ⊎_elim (λ (h : parting < c.args.from + c.args.size). seen.1 (omega (arith, h, c.loop-place-test.false))) (λ (h : c.args.from + c.args.size ≤ parting). among.1 parting h l) (cases_lt parting (c.args.from + c.args.size)),
    )
