use Rattle.std.proofs.Common.{ℕ, ◌/◌, map, arith}
use Rattle.std.proofs.lemmas.List.{length-map}
use Rattle.lookup.proofs.Parting.{closer, no_more}
use Rattle.lookup.proofs.halving.Search.narrow.Goals as goal

pub invariant_of-self : goal.invariant_of-self
invariant_of-self g c =
    let search = c.args.self.now in
    let rows = search.rows.now in
    let q : ℕ = search.size / 4 in
    let n : ℕ = c.quarters_before-passed.result in
    record {
      within = omega (arith, no_more q n c.quarters_before-passed.ensures.most, search.within);
      among = λ up. closer g.R.Key.Ord.cmp search.key.now (map g.R.Row.named rows) g.met.R.Key.Key.total up search.from search.size q n (omega arith) (omega arith) (omega arith) (omega (arith, search.within, length-map rows g.R.Row.named)) ((c.quarters_before-passed.ensures.below up), (c.quarters_before-passed.ensures.at up)) (search.among up);
    }
