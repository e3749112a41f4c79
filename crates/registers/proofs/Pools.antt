-- What a write of a sellable number means for a register of holdings.
use Rattle.std.proofs.Common.{◌≡◌, ℕ, ◌+◌, ◌-◌, ◌≤◌, Bool, true, false, cond, eqb, leb, List, map, set, Some, None, Ok, Option, Result, sym, refl, ap, ◌∙◌, ⊎_elim, arith}
use Rattle.std.specs.Prelude.{IfSome}
use mathlib.Core.Path.{fun_ext}
use Rattle.std.specs.List.{slice_get}
use Rattle.std.proofs.lemmas.Bool.{and_parts, and_from, le-leb, leb-true, cond-true, cases_eq, eq-eqb, ne_eqb}
use Rattle.std.proofs.lemmas.Grind.{common_steps}
use Rattle.std.proofs.lemmas.Option.{gets}
use Rattle.std.proofs.lemmas.Bool.Decides.{nat_tests}
use Rattle.rules.specs.declared.refusal.Refusal.{Refusal}
use Rattle.rules.specs.declared.range.Quantity.{Quantity}
use Rattle.lookup.specs.declared.key.Pair.{Pair}
use Rattle.tables.specs.declared.rows.Holding.{Holding}
use Rattle.tables.specs.Rows.{held_bounds, held_present, held_key, may_sell, with_sellable}
use Rattle.tables.specs.Tables.{changed_at}
use Rattle.tables.proofs.Lent.{keys_set}
use Rattle.registers.specs.declared.pool.Pool.{Pool}
use Rattle.registers.specs.Meaning.{Meaning, pool_of, with_pool, drawn, drawn_in, restored, restored_in, left_of, again_of}
use Rattle.registers.specs.Registers.{held_meaning, pool_at}

-- the row at a place of rows one of which was replaced
set_same : {X : Type 0} (rows : List X) (k : ℕ) (x y : X) → slice_get rows k ≡ Some y → slice_get (set rows k x) k ≡ Some x
set_same rows k x y e = grind (arith, common_steps, gets)

set_other : {X : Type 0} (rows : List X) (k j : ℕ) (x : X) → (j ≡ k → ⊥) → slice_get (set rows k x) j ≡ slice_get rows j
set_other rows k j x d = grind (arith, common_steps, gets)

module _ {O : Type 0} (numbers : Quantity) (number : O → ℕ) where
  abbrev present : Holding O → Bool
  present = held_present numbers number

  -- a line that is a pool: the row, which is present, and the pool's two numbers
  record Line (line : Option (Holding O)) (p : Pool) : Type 0 where
    row : Holding O
    is : line ≡ Some row
    here : present row ≡ true
    numbers_of : p ≡ pool_of row.opening row.sellable

  of_row : (h : Holding O) (b : Bool) (p : Pool) → present h ≡ b → cond b (Some (pool_of h.opening h.sellable)) None ≡ Some p → Line (Some h) p
  of_row h true p e f = record { row = h; is = refl; here = e; numbers_of = cc }
  of_row h false p e f = cc

  line_of : (line : Option (Holding O)) (p : Pool) → pool_at numbers number line ≡ Some p → Line line p
  line_of None p e = cc
  line_of (Some h) p e = of_row h (present h) p refl e

  -- no more of a pool may be sold than there was at the opening
  fits_of : (line : Option (Holding O)) (p : Pool) → pool_at numbers number line ≡ Some p → p.sellable ≤ p.opening
  fits_of line p e =
      let r = line_of line p e in
      omega (arith, leb-true r.row.sellable r.row.opening (and_parts (held_bounds numbers number r.row) _ r.here).1, ap (λ (q : Pool). q.opening) r.numbers_of, ap (λ (q : Pool). q.sellable) r.numbers_of)

  still_present : (h : Holding O) (n : ℕ) → present h ≡ true → n ≤ h.opening → present (with_sellable h n) ≡ true
  still_present h n e l = and_from (held_bounds numbers number h) (leb n h.opening) (and_parts (held_bounds numbers number h) _ e).0 (le-leb n h.opening l)

  module _ (finds : List (Option Pair) → ℕ → ℕ → ℕ → Result ℕ Refusal) (lines : List (Holding O)) (k : ℕ) where
    abbrev meaning : List (Holding O) → Meaning
    meaning = held_meaning numbers number finds

    abbrev meaning_of : (ℕ → Option Pool) → (ℕ → ℕ → ℕ → Result ℕ Refusal) → Meaning
    meaning_of p f = record { pools = p; finds = f }

    module _ (h : Holding O) (n : ℕ) (e : slice_get lines k ≡ Some h) (here : present h ≡ true) (l : n ≤ h.opening) where
      abbrev x : Holding O
      x = with_sellable h n

      same_key : IfSome (slice_get lines k) (λ y. held_key numbers number x ≡ held_key numbers number y)
      same_key = rw e (cond-true (present x) _ _ (still_present h n here l) ∙ sym (cond-true (present h) _ _ here))

      pools_at : (j : ℕ) → pool_at numbers number (slice_get (set lines k x) j) ≡ cond (eqb j k) (Some (pool_of h.opening n)) (pool_at numbers number (slice_get lines j))
      pools_at j = ⊎_elim
          (λ (q : j ≡ k).
          ap (λ i. pool_at numbers number (slice_get (set lines k x) i)) q
          ∙ ap (pool_at numbers number) (set_same lines k x h e)
          ∙ cond-true (present x) _ _ (still_present h n here l)
          ∙ sym (cond-true (eqb j k) _ _ (eq-eqb j k q)))
          (λ (q : j ≡ k → ⊥). rw (ne_eqb j k q, set_other lines k j x q) refl)
          (cases_eq j k)

      sold : meaning (set lines k x) ≡ with_pool (meaning lines) k (Some (pool_of h.opening n))
      sold =
          ap (λ p. meaning_of p (finds (map (held_key numbers number) (set lines k x)))) (fun_ext pools_at)
          ∙ ap (λ ks. meaning_of (λ j. cond (eqb j k) (Some (pool_of h.opening n)) (pool_at numbers number (slice_get lines j))) (finds ks)) (keys_set (held_key numbers number) lines k x same_key)

    -- the lines after a write that was allowed
    wrote : (p : Pool) (n : ℕ) (done : Bool) (after : List (Holding O)) → pool_at numbers number (slice_get lines k) ≡ Some p → n ≤ p.opening → done ≡ may_sell numbers number n (slice_get lines k) → after ≡ cond done (changed_at (λ h. with_sellable h n) k lines) lines → meaning after ≡ with_pool (meaning lines) k (Some (pool_of p.opening n))
    wrote p n done after e l d a =
        let r = line_of (slice_get lines k) p e in
        let m : n ≤ r.row.opening = omega (arith, l, ap (λ (q : Pool). q.opening) r.numbers_of) in
        let t : done ≡ true = d ∙ ap (may_sell numbers number n) r.is ∙ and_from _ _ r.here (le-leb n r.row.opening m) in
        ap meaning (a ∙ cond-true done _ _ t ∙ ap (λ o. elim o [ None ↦ lines | Some h ↦ set lines k (with_sellable h n) ]) r.is)
        ∙ sold r.row n r.is r.here m
        ∙ ap (λ (q : Pool). with_pool (meaning lines) k (Some (pool_of q.opening n))) (sym r.numbers_of)

    pub draw_means : (p : Pool) (n left : ℕ) (done : Bool) (after : List (Holding O)) → pool_at numbers number (slice_get lines k) ≡ Some p → Ok left ≡ left_of p n → done ≡ may_sell numbers number left (slice_get lines k) → after ≡ cond done (changed_at (λ h. with_sellable h left) k lines) lines → meaning after ≡ drawn (meaning lines) k n
    draw_means p n left done after e f d a =
        let fits = fits_of (slice_get lines k) p e in
        let is : left ≡ p.sellable - n = grind (arith, nat_tests) in
        wrote p left done after e (omega (arith, is, fits)) d a
        ∙ ap (λ m. with_pool (meaning lines) k (Some (pool_of p.opening m))) is
        ∙ ap (λ o. with_pool (meaning lines) k (drawn_in o n)) (sym e)

    pub restore_means : (p : Pool) (n again : ℕ) (done : Bool) (after : List (Holding O)) → pool_at numbers number (slice_get lines k) ≡ Some p → Ok again ≡ again_of p n → done ≡ may_sell numbers number again (slice_get lines k) → after ≡ cond done (changed_at (λ h. with_sellable h again) k lines) lines → meaning after ≡ restored (meaning lines) k n
    restore_means p n again done after e f d a =
        let is : again ≡ p.sellable + n = grind (arith, nat_tests) in
        let fits : again ≤ p.opening = grind (arith, nat_tests) in
        wrote p again done after e fits d a
        ∙ ap (λ m. with_pool (meaning lines) k (Some (pool_of p.opening m))) is
        ∙ ap (λ o. with_pool (meaning lines) k (restored_in o n)) (sym e)
