-- The place that parts rows that rise, closed in by rows that stand apart.
use Rattle.std.proofs.Common.{◌≡◌, ℕ, zero, suc, ◌+◌, ◌-◌, ◌*◌, ◌<◌, ◌≤◌, Bool, true, false, List, map, length, get_or, Some, None, Option, Ordering, refl, sym, ap, ◌∙◌, subst, ⊎_elim, arith}
use mir.Val.{bool_byte}
use Rattle.std.proofs.lemmas.Bool.{cases_eq}
use Rattle.lookup.specs.Orders.{TotalOrder}
use Rattle.lookup.specs.Lookup.{is_before, before_at, rise_from, rise}
use Rattle.lookup.proofs.Rise.{all_before, presumed_at}

no_true : (b : Bool) → (b ≡ true → ⊥) → b ≡ false
no_true true h = absurd (h refl)
no_true false h = refl

module _ {K : Type 0} (order : K → K → Ordering) (key : K) (ks : List (Option K)) where
  abbrev is : ℕ → Bool
  is i = before_at order key ks i

  -- the rows in front of a place are before the key, and those from another one on are not
  abbrev pub Below : ℕ → Type 0
  Below i = (j : ℕ) → j < i → is j ≡ true

  abbrev pub Above : ℕ → Type 0
  Above i = (j : ℕ) → i ≤ j → j < length ks → is j ≡ false

  abbrev Parts : ℕ → ℕ → ℕ → Type 0
  Parts from q n = (0 < n → is (from + n * q) ≡ true) × (n < 3 → is (from + (n + 1) * q) ≡ false)

  -- of a few rows from one place on, those read so far: the ones in front of the parting place are before the key, and the one there is not
  abbrev pub Among : ℕ → ℕ → ℕ → Type 0
  Among from parting place = (Below from → Below parting) × (parting < place → is parting ≡ false)

  module _ (total : TotalOrder order) (up : rise_from order None ks ≡ true) where
    -- where a row is before the key, so are those in front of it; where one is not, so are those behind it
    below_row : (i : ℕ) → i < length ks → is i ≡ true → Below (i + 1)
    below_row i l t = all_before order total key ks i up l t

    apart : (i j : ℕ) → i ≤ j → j < length ks → is j ≡ true → is i ≡ false → ⊥
    apart i j l m t f = grind (arith, below_row j m t i (omega arith))

    three : (from q : ℕ) (x y z : Bool) → from + 3 * q < length ks → is (from + q) ≡ x → is (from + 2 * q) ≡ y → is (from + 3 * q) ≡ z → Parts from q (bool_byte x + bool_byte y + bool_byte z)
    three from q true true true l a b c = ((λ h. c), λ h. absurd (omega arith))
    three from q true true false l a b c = ((λ h. b), λ h. c)
    three from q true false false l a b c = ((λ h. ap is (omega arith) ∙ a), λ h. b)
    three from q false false false l a b c = ((λ h. absurd (omega arith)), λ h. ap is (omega arith) ∙ a)
    three from q false true z l a b c = absurd (apart (from + q) (from + 2 * q) (omega arith) (omega arith) b a)
    three from q false false true l a b c = absurd (apart (from + q) (from + 3 * q) (omega arith) (omega arith) c a)
    three from q true false true l a b c = absurd (apart (from + 2 * q) (from + 3 * q) (omega arith) (omega arith) c b)

    -- of three rows a quarter apart, those that are before the key are the first so many
    pub counted : (from q n : ℕ) (x y z : Bool) → from + 3 * q < length ks → is (from + q) ≡ x → is (from + 2 * q) ≡ y → is (from + 3 * q) ≡ z → n ≡ bool_byte x + bool_byte y + bool_byte z → Parts from q n
    counted from q n x y z l a b c e = subst (Parts from q) (sym e) (three from q x y z l a b c)

    -- one more row of the few
    pub among_more : (from parting place : ℕ) (x : Bool) → place < length ks → parting ≤ place → is place ≡ x → Among from parting place → Among from (parting + bool_byte x) (place + 1)
    among_more from parting place true l le e a =
        ((λ h j i. below_row place l e j (omega arith)), λ h. absurd (apart parting place le l e (a.1 (omega arith))))
    among_more from parting place false l le e a =
        ((λ h j i. a.0 h j (omega arith)), λ h. ⊎_elim (λ (s : parting ≡ place). ap is (omega (arith, s)) ∙ e) (λ (s : parting ≡ place → ⊥). ap is (omega arith) ∙ a.1 (omega (arith, s))) (cases_eq parting place))

    -- the parting place is behind the one place, and not behind the other
    abbrev pub Between : ℕ → ℕ → Type 0
    Between i k = Below i × Above k

    above_row : (i k : ℕ) → i ≤ k → is i ≡ false → Above k
    above_row i k le f j m l = no_true (is j) (λ t. apart i j (omega arith) l t f)

    -- three rows a quarter apart close the parting place in: a quarter of the rows is left, or a few more
    pub closer : (from size q n : ℕ) → n < 4 → 0 < q → 4 * q ≤ size → from + size ≤ length ks → Parts from q n → Between from (from + size) → Between (from + q * n) (from + q * n + (size - 3 * q))
    closer from size q zero m z f l p b = ((λ j h. b.0 j (omega arith)), above_row (from + 1 * q) _ (omega arith) (p.1 (omega arith)))
    closer from size q (suc zero) m z f l p b = ((λ j h. below_row (from + 1 * q) (omega arith) (p.0 (omega arith)) j (omega arith)), above_row (from + 2 * q) _ (omega arith) (p.1 (omega arith)))
    closer from size q (suc (suc zero)) m z f l p b = ((λ j h. below_row (from + 2 * q) (omega arith) (p.0 (omega arith)) j (omega arith)), above_row (from + 3 * q) _ (omega arith) (p.1 (omega arith)))
    closer from size q (suc (suc (suc zero))) m z f l p b = ((λ j h. below_row (from + 3 * q) (omega arith) (p.0 (omega arith)) j (omega arith)), λ j h k. b.1 j (omega arith) k)
    closer from size q (suc (suc (suc (suc n)))) m z f l p b = absurd (omega arith)

-- what the row at a place tells of its key
pub told : {X K : Type 0} (order : K → K → Ordering) (key : K) (named : X → Option K) (presumed : X → K) (right : (x : X) (k : K) → named x ≡ Some k → presumed x ≡ k) (rows : List X) (i : ℕ) (x : X) (b : Bool)
    → rise order named rows ≡ true → i < length rows → x ≡ get_or rows i x → b ≡ is_before order key (Some (presumed x)) → before_at order key (map named rows) i ≡ b
told order key named presumed right rows i x b up l e t = sym (t ∙ ap (is_before order key) (presumed_at order named presumed right rows i x up l e))

pub no_more : (q n : ℕ) → n ≤ 3 → q * n ≤ 3 * q
no_more q zero l = omega arith
no_more q (suc zero) l = omega arith
no_more q (suc (suc zero)) l = omega arith
no_more q (suc (suc (suc zero))) l = omega arith
no_more q (suc (suc (suc (suc n)))) l = absurd (omega arith)
