-- Whether some row has a number as the first of its key.
use Rattle.std.proofs.Common.{◌≡◌, ℕ, zero, suc, ◌<◌, ◌≤◌, Bool, true, false, ◌||◌, List, [], ◌∷◌, map, length, get_or, Some, None, Option, Less, sym, refl, ap, ◌∙◌, ⊎_elim, arith}
use Rattle.std.proofs.lemmas.Bool.{or_right, cases_eq, cases_lt}
use Rattle.std.proofs.lemmas.Bool.Decides.{nat_tests}
use Rattle.std.specs.List.{list_any}
use Rattle.lookup.specs.declared.key.Pair.{Pair}
use Rattle.lookup.specs.Orders.{TotalOrder, pair_order}
use Rattle.lookup.specs.Lookup.{is_before, rise_from, Rising, is_of, some_of}
use Rattle.lookup.proofs.Rise.{rising_means}

pub pairs_total : TotalOrder pair_order
pairs_total = record {
  same = λ a b e. grind (arith, nat_tests);
  itself = λ a. grind (arith, nat_tests);
  after = λ a b e. grind (arith, nat_tests);
  before = λ a b e. grind (arith, nat_tests);
  through = λ a b c e f. grind (arith, nat_tests);
}

abbrev least : ℕ → Pair
least n = record { first = n; second = 0 }

-- before the number's least key: of a lower number
low : (n : ℕ) (o : Option Pair) → is_before pair_order (least n) o ≡ true → is_of n o ≡ false
low n None b = refl
low n (Some p) b = grind (arith, nat_tests)

-- not before it, and not of the number: of a higher one
high : (n : ℕ) (p : Pair) → is_before pair_order (least n) (Some p) ≡ false → is_of n (Some p) ≡ false → n < p.first
high n p b f = grind (arith, nat_tests)

after : (n : ℕ) (p q : Pair) → n < p.first → pair_order p q ≡ Less → is_of n (Some q) ≡ false
after n p q l e = grind (arith, nat_tests)

none_of : (n : ℕ) (ks : List (Option Pair)) → ((j : ℕ) → j < length ks → is_of n (get_or ks j None) ≡ false) → some_of n ks ≡ false
none_of n [] f = refl
none_of n (o ∷ ks) f = rw (f 0 (omega arith)) (none_of n ks (λ j l. f (suc j) (omega arith)))

one_of : (n : ℕ) (ks : List (Option Pair)) (i : ℕ) → i < length ks → is_of n (get_or ks i None) ≡ true → some_of n ks ≡ true
one_of n [] i l e = absurd (omega arith)
one_of n (o ∷ ks) zero l e = rw e refl
one_of n (o ∷ ks) (suc i) l e = or_right (is_of n o) _ (one_of n ks i (omega arith) e)

pub past : (n : ℕ) (ks : List (Option Pair)) (i : ℕ) → length ks ≤ i → ((j : ℕ) → j < i → is_before pair_order (least n) (get_or ks j None) ≡ true) → some_of n ks ≡ false
past n ks i l b = none_of n ks (λ j h. low n (get_or ks j None) (b j (omega arith)))

-- the row that stands first of those not before the least key tells
tell : (n : ℕ) (ks : List (Option Pair)) (i : ℕ) (t : Bool) → is_of n (get_or ks i None) ≡ t → Rising pair_order ks → i < length ks → ((j : ℕ) → j < i → is_before pair_order (least n) (get_or ks j None) ≡ true) → is_before pair_order (least n) (get_or ks i None) ≡ false → some_of n ks ≡ t
tell n ks i true e r l b u = one_of n ks i l e
tell n ks i false e r l b u =
    let p = r.present i l in
    let above : n < p.0.first = high n p.0 (sym (ap (is_before pair_order (least n)) p.1) ∙ u) (sym (ap (is_of n) p.1) ∙ e) in
    none_of n ks (λ j h. ⊎_elim
    (λ (s : j < i). low n (get_or ks j None) (b j s))
    (λ (s : i ≤ j). ⊎_elim
    (λ (q : j ≡ i). ap (λ m. is_of n (get_or ks m None)) q ∙ e)
    (λ (q : j ≡ i → ⊥). let o = r.present j h in ap (is_of n) o.1 ∙ after n p.0 o.0 above (r.up i j p.0 o.0 (omega (arith, q)) p.1 o.1))
    (cases_eq j i))
    (cases_lt j i))

pub told : (n : ℕ) (ks : List (Option Pair)) (i : ℕ) → rise_from pair_order None ks ≡ true → i < length ks → ((j : ℕ) → j < i → is_before pair_order (least n) (get_or ks j None) ≡ true) → is_before pair_order (least n) (get_or ks i None) ≡ false → is_of n (get_or ks i None) ≡ some_of n ks
told n ks i r l b u = sym (tell n ks i (is_of n (get_or ks i None)) refl (rising_means pair_order pairs_total ks r) l b u)

-- what a walk finds
pub any_of : {X : Type 0} (named : X → Option Pair) (n : ℕ) (rows : List X) → list_any (λ x. is_of n (named x)) rows ≡ some_of n (map named rows)
any_of named n [] = refl
any_of named n (x ∷ rows) = ap (λ b. is_of n (named x) || b) (any_of named n rows)
