-- What the lookup finds.
use Rattle.std.proofs.Common.{◌≡◌, ℕ, zero, suc, ◌+◌, ◌<◌, List, [], ◌∷◌, get_or, Some, None, Option, Ordering, Less, Equal, Greater, sym, refl, ap, ◌∙◌, subst, arith}
use Rattle.lookup.specs.Orders.{TotalOrder}
use Rattle.lookup.specs.Lookup.{seek, Passed, Found}

-- what is found, in words
module _ {K : Type 0} (order : K → K → Ordering) (total : TotalOrder order) (key : K) where
  abbrev Off : ℕ → List (Option K) → Option ℕ → Type 0
  Off i ks (Some p) = (j : ℕ) × (p ≡ i + j) × Found order ks key (Some j)
  Off i ks None = Found order ks key None

  not_less : (k : K) → order k key ≡ Less → k ≡ key → ⊥
  not_less k l e =
      let q : order key key ≡ Less = subst (λ (x : K). order x key ≡ Less) e l in
      let z : Less ≡ Equal = sym q ∙ total.itself key in
      cc

  not_passed : (o : Option K) → Passed order key o → o ≡ Some key → ⊥
  not_passed None p e = cc
  not_passed (Some k) p e = let q : k ≡ key = cc in not_less k p q

  later_before : (o : Option K) (ks : List (Option K)) (n : ℕ) → Passed order key o → ((j : ℕ) → j < n → Passed order key (get_or ks j None)) → (j : ℕ) → j < suc n → Passed order key (get_or (o ∷ ks) j None)
  later_before o ks n pass f zero h = pass
  later_before o ks n pass f (suc j) h = f j (omega arith)

  later_none : (o : Option K) (ks : List (Option K)) → Passed order key o → Found order ks key None → Found order (o ∷ ks) key None
  later_none o ks pass f zero h e = absurd (not_passed o pass e)
  later_none o ks pass f (suc m) h e =
      let r = f m (omega arith) e in
      (suc r.0, r.1, omega (arith, r.2), r.3, r.4)

  later : (i : ℕ) (o : Option K) (ks : List (Option K)) (r : Option ℕ) → Passed order key o → Off (i + 1) ks r → Off i (o ∷ ks) r
  later i o ks (Some p) pass f = (suc f.0, omega (arith, f.1), (omega (arith, f.2.0), f.2.1, later_before o ks f.0 pass f.2.2))
  later i o ks None pass f = later_none o ks pass f

  at_greater : (k : K) (ks : List (Option K)) → order k key ≡ Greater → Found order (Some k ∷ ks) key None
  at_greater k ks g zero h e =
      let q : k ≡ key = cc in
      let w : order key key ≡ Greater = subst (λ (x : K). order x key ≡ Greater) q g in
      let z : Greater ≡ Equal = sym w ∙ total.itself key in
      cc
  at_greater k ks g (suc m) h e = (0, k, omega arith, refl, g)

  by : (i : ℕ) (k : K) (ks : List (Option K)) (o : Ordering) → order k key ≡ o → Off (i + 1) ks (seek order (i + 1) ks key) → Off i (Some k ∷ ks) (elim o [ Less ↦ seek order (i + 1) ks key | Equal ↦ Some i | Greater ↦ None ])
  by i k ks Less e f = later i (Some k) ks (seek order (i + 1) ks key) e f
  by i k ks Equal e f = (0, omega arith, (omega arith, ap Some (total.same k key e), λ j h. absurd (omega arith)))
  by i k ks Greater e f = at_greater k ks e

  off : (i : ℕ) (ks : List (Option K)) → Off i ks (seek order i ks key)
  off i [] = λ m h e. absurd (omega arith)
  off i (None ∷ ks) = later i None ks (seek order (i + 1) ks key) tt (off (i + 1) ks)
  off i (Some k ∷ ks) = by i k ks (order k key) refl (off (i + 1) ks)

  from_off : (ks : List (Option K)) (r : Option ℕ) → Off 0 ks r → Found order ks key r
  from_off ks (Some p) f = let e : f.0 ≡ p = omega (arith, f.1) in subst (λ (x : ℕ). Found order ks key (Some x)) e f.2
  from_off ks None f = f

  pub finds : (ks : List (Option K)) → Found order ks key (seek order 0 ks key)
  finds ks = from_off ks (seek order 0 ks key) (off 0 ks)

  -- what the walk gives is what is found
  pub found : (ks : List (Option K)) (r : Option ℕ) → r ≡ seek order 0 ks key → Found order ks key r
  found ks r e = subst (Found order ks key) (sym e) (finds ks)
