-- A lent table one of whose lines is replaced by a row of the same key.
use Rattle.std.proofs.Common.{◌≡◌, ℕ, zero, suc, ◌<◌, ◌≤◌, Bool, List, [], ◌∷◌, ◌++◌, map, length, take, drop, set, None, Option, Ordering, sym, refl, ap, ◌∙◌, arith}
use Rattle.std.specs.Prelude.{IfSome}
use Rattle.std.specs.List.{slice_get}
use Rattle.std.proofs.lemmas.List.{length-set, take-append-drop, drop-set-lt}
use Rattle.std.proofs.Math.Seq.{take-set-lt}
use Rattle.lookup.specs.Lookup.{rise, rise_from}

-- a row that is written among the lines
pub set_in_lines : {X : Type 0} (n : ℕ) (rows : List X) (k : ℕ) (x : X) → k < n → set (take n rows) k x ++ drop n rows ≡ set rows k x
set_in_lines n rows k x l = rw (← take-set-lt n rows k x l, ← drop-set-lt n rows k x l) (take-append-drop n (set rows k x))

-- a row that is replaced by one of the same key leaves the keys as they were
pub keys_set : {X K : Type 0} (name : X → Option K) (rows : List X) (k : ℕ) (x : X) → IfSome (slice_get rows k) (λ y. name x ≡ name y) → map name (set rows k x) ≡ map name rows
keys_set name [] k x e = refl
keys_set name (y ∷ ys) zero x e = ap (λ o. o ∷ map name ys) e
keys_set name (y ∷ ys) (suc k) x e = ap (λ os. name y ∷ os) (keys_set name ys k x e)

module _ {X K : Type 0} (order : K → K → Ordering) (name : X → Option K) where
  -- the table still counts no more lines than it has rows, and still knows whether they rise
  pub kept : (rows : List X) (count k : ℕ) (x : X) (b : Bool) → k < count → IfSome (slice_get (take count rows) k) (λ y. name x ≡ name y) → (count ≤ length rows) × (b ≡ rise order name (take count rows)) → (count ≤ length (set (take count rows) k x ++ drop count rows)) × (b ≡ rise order name (take count (set (take count rows) k x ++ drop count rows)))
  kept rows count k x b l e was = (
    omega (arith, was.0, length-set rows k x, ap length (set_in_lines count rows k x l)),
    was.1 ∙ sym (ap (λ r. rise order name (take count r)) (set_in_lines count rows k x l) ∙ ap (λ r. rise order name r) (take-set-lt count rows k x l) ∙ ap (rise_from order None) (keys_set name (take count rows) k x e)),
  )
