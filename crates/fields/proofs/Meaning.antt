-- The scan says what the written forms say.
use Rattle.std.proofs.Common.{◌≡◌, ℕ, zero, suc, ◌+◌, ◌-◌, ◌*◌, ◌^◌, ◌<◌, ◌≤◌, cond, ◌&&◌, eqb, ltb, leb, ◌⊎◌, List, [], ◌∷◌, ◌++◌, length, get_or, take, replicate, Some, None, Err, Option, Result, sym, refl, ap, ◌∙◌, subst, inl, inr, ⊎_elim, append_assoc, append-nil, pow-suc, add-one, arith, MatchResult}
use native.Mathlib.Nat.{pow-le-pow_right}
use Rattle.std.proofs.lemmas.Bool.{cond_both}
use Rattle.std.proofs.lemmas.Bool.Decides.{nat_tests}
use Rattle.std.proofs.lemmas.List.{length_push, take_at, take-take, take_all, take-append-le, take-replicate, replicate_more, get_or_at, get_or-take}
use Rattle.fields.specs.Written.{in_columns, Spells, RulesOut}
use Rattle.fields.specs.Scan.{scan, step}
use Rattle.fields.proofs.Columns.{columns_digit, columns_more, length_columns, ten_le, after_digits, after_spaces}

-- the three things that a byte can do
abbrev pub Bad : ℕ → ℕ → ℕ → Type 0
Bad n k b = (b < 48) ⊎ ((57 < b) ⊎ ((n ≡ 0) × (b ≡ 48) × (k < 15)))

abbrev pub Does : ℕ → ℕ → ℕ → Option ℕ → Type 0
Does n k b None = (n ≡ 0 → b ≡ 32 → k < 15 → ⊥) × Bad n k b
Does n k b (Some m) = ((m ≡ n) × (n ≡ 0) × (b ≡ 32) × (k < 15)) ⊎ ((m ≡ n * 10 + (b - 48)) × (48 ≤ b) × (b ≤ 57) × (n ≡ 0 → b ≡ 48 → k < 15 → ⊥))

pub does : (n k b : ℕ) → Does n k b (step n k b)
does n k b =
    cond_both (eqb b 32 && (eqb n 0 && ltb k 15)) (Some 0) (cond (eqb b 48 && (eqb n 0 && ltb k 15)) None (cond (leb 48 b && leb b 57) (Some (n * 10 + (b - 48))) None)) (Does n k b)
    (λ t. inl (grind (arith, nat_tests), grind (arith, nat_tests), grind (arith, nat_tests), grind (arith, nat_tests)))
    (λ f.
    cond_both (eqb b 48 && (eqb n 0 && ltb k 15)) None (cond (leb 48 b && leb b 57) (Some (n * 10 + (b - 48))) None) (Does n k b)
    (λ t. ((λ e g h. grind (arith, nat_tests)), inr (inr (grind (arith, nat_tests), grind (arith, nat_tests), grind (arith, nat_tests)))))
    (λ g.
    cond_both (leb 48 b && leb b 57) (Some (n * 10 + (b - 48))) None (Does n k b)
    (λ t. inr (refl, grind (arith, nat_tests), grind (arith, nat_tests), λ e h l. grind (arith, nat_tests)))
    (λ h. ((λ e g h. grind (arith, nat_tests)), grind (arith, nat_tests)))))

-- what the columns before k hold: spaces alone, or n
abbrev Lead : ℕ → ℕ → List ℕ → Type 0
Lead k n pre = ((n ≡ 0) × (k ≤ 15) × (pre ≡ replicate k 32)) ⊎ (((0 < n) ⊎ (k ≡ 16)) × (n < 10 ^ k) × (pre ≡ in_columns k n))

pub ten_more : (k : ℕ) → 10 ^ (k + 1) ≡ 10 ^ k * 10
ten_more k = rw (add-one k) (pow-suc 10 k)

pub pow_pos_ten : (k : ℕ) → 1 ≤ 10 ^ k
pow_pos_ten k = pow-le-pow_right {n = 10} (omega arith) {i = 0} {j = k} (omega arith)

-- a number that is not 0 takes a column
some_column : (k n : ℕ) → 0 < n → n < 10 ^ k → 0 < k
some_column zero n p h = omega arith
some_column (suc k) n p h = omega arith

-- a number that is not 0 can be filled up to sixteen columns
completes : (j k n : ℕ) → k + j ≡ 16 → 0 < k → 0 < n → n < 10 ^ k → (m : ℕ) × (m < 10 ^ 16) × (take k (in_columns 16 m) ≡ in_columns k n)
completes zero k n e k0 p h =
    let k16 : k ≡ 16 = omega arith in
    let h16 : n < 10 ^ 16 = subst (λ (x : ℕ). n < 10 ^ x) k16 h in
    (n, h16, rw k16 (take_all 16 (in_columns 16 n) (omega (arith, length_columns 16 n (omega arith) h16 (omega arith)))))
completes (suc j) k n e k0 p h =
    let t = ten_le k (omega arith) in
    let tm = ten_more k in
    let r = completes j (k + 1) (n * 10 + 0) (omega arith) (omega arith) (omega arith) (omega arith) in
    let l = length_columns k n k0 h (omega arith) in
    let more = columns_more k n 0 p (omega arith) (omega arith) in
    (r.0, r.1, sym (take-take k (k + 1) (in_columns 16 r.0) (omega arith)) ∙ ap (take k) (r.2 ∙ more) ∙ take_at (in_columns k n) (48 ∷ []) k l)

spaces_complete : (k : ℕ) → k ≤ 15 → take k (in_columns 16 0) ≡ replicate k 32
spaces_complete k h =
    ap (take k) (columns_digit 15 0 (omega arith))
    ∙ take-append-le k (replicate {A = ℕ} 15 32) (48 ∷ []) h
    ∙ take-replicate k 15 32 h

lead_blank : (pre : List ℕ) (n k : ℕ) → Lead k n pre → n ≡ 0 → k < 15 → Lead (k + 1) n (pre ++ (32 ∷ []))
lead_blank pre n k lead e h =
    ⊎_elim
    (λ a. inl (e, omega arith, ap (λ (xs : List ℕ). xs ++ (32 ∷ [])) a.2 ∙ replicate_more k 32))
    (λ a. grind arith)
    lead

lead_digit : (pre : List ℕ) (n k b : ℕ) → k < 16 → Lead k n pre → 48 ≤ b → b ≤ 57 → (n ≡ 0 → b ≡ 48 → k < 15 → ⊥) → Lead (k + 1) (n * 10 + (b - 48)) (pre ++ (b ∷ []))
lead_digit pre n k b h lead lo hi nz =
    let t = ten_le k (omega arith) in
    let tm = ten_more k in
    let bb : 48 + (b - 48) ≡ b = omega arith in
    ⊎_elim
    (λ a.
    let v : n * 10 + (b - 48) ≡ b - 48 = omega (arith, a.0) in
    let one = pow_pos_ten k in
    let form : pre ++ (b ∷ []) ≡ in_columns (k + 1) (n * 10 + (b - 48)) =
    ap (λ (xs : List ℕ). xs ++ (b ∷ [])) a.2
    ∙ ap (λ (x : ℕ). replicate k 32 ++ (x ∷ [])) (sym bb)
    ∙ sym (columns_digit k (b - 48) (omega arith))
    ∙ ap (in_columns (k + 1)) (sym v) in
    let shown : (0 < n * 10 + (b - 48)) ⊎ (k + 1 ≡ 16) = grind arith in
    inr (shown, omega arith, form))
    (λ a.
    let p : 0 < n = grind arith in
    let m = columns_more k n (b - 48) p (omega arith) (omega (arith, a.1)) in
    inr (inl (omega arith), omega (arith, a.1), ap (λ (xs : List ℕ). xs ++ (b ∷ [])) a.2 ∙ ap (λ (x : ℕ). in_columns k n ++ (x ∷ [])) (sym bb) ∙ sym m))
    lead

-- a byte that no written form has here
none_here : (n k m b : ℕ) (pre : List ℕ) → length pre ≡ k → k < 16 → Lead k n pre → (n ≡ 0 → b ≡ 32 → k < 15 → ⊥) → Bad n k b → m < 10 ^ 16 → take k (in_columns 16 m) ≡ pre → get_or (in_columns 16 m) k 0 ≡ b → ⊥
none_here n k m b pre lp h lead noblank isbad hm e at =
    ⊎_elim
    (λ a.
    let next = after_spaces k m h hm (e ∙ a.2) in
    grind arith)
    (λ a.
    let p : 0 < n = grind arith in
    let dig = after_digits k n m p (some_column k n p a.1) h a.1 hm (e ∙ a.2) in
    grind arith)
    lead

-- fronts that are the same one byte further are the same, and so is that byte
front_same : (k : ℕ) (xs ys : List ℕ) → take (suc k) xs ≡ take (suc k) ys → take k xs ≡ take k ys
front_same k xs ys e = sym (take-take k (suc k) xs (omega arith)) ∙ ap (take k) e ∙ take-take k (suc k) ys (omega arith)

byte_same : (k : ℕ) (xs ys : List ℕ) → take (suc k) xs ≡ take (suc k) ys → get_or xs k 0 ≡ get_or ys k 0
byte_same k xs ys e =
    sym (get_or-take (suc k) xs k 0 (omega arith)) ∙ ap (λ (zs : List ℕ). get_or zs k 0) e ∙ get_or-take (suc k) ys k 0 (omega arith)

begins : (k n : ℕ) (pre all : List ℕ) → (m : ℕ) × (m < 10 ^ 16) × (take k (in_columns 16 m) ≡ in_columns k n) → pre ≡ in_columns k n → take k all ≡ pre → (m : ℕ) × (m < 10 ^ 16) × (take k (in_columns 16 m) ≡ take k all)
begins k n pre all r same front = (r.0, r.1, r.2 ∙ sym same ∙ sym front)

rules : (pre bs : List ℕ) (b n k : ℕ) → length pre ≡ k → k < 16 → Lead k n pre → (n ≡ 0 → b ≡ 32 → k < 15 → ⊥) → Bad n k b → RulesOut (pre ++ (b ∷ bs)) k
rules pre bs b n k lp h lead noblank isbad = record {
  within = h;
  before =
      let tk = take_at pre (b ∷ bs) k lp in
      ⊎_elim
      (λ a. (0, omega arith, spaces_complete k a.1 ∙ sym a.2 ∙ sym tk))
      (λ a.
      let p : 0 < n = grind arith in
      begins k n pre (pre ++ (b ∷ bs)) (completes (16 - k) k n (omega arith) (some_column k n p a.1) p a.1) a.2 tk)
      lead;
  none = λ m hm e.
      let e1 = front_same k (in_columns 16 m) (pre ++ (b ∷ bs)) e ∙ take_at pre (b ∷ bs) k lp in
      let e2 = byte_same k (in_columns 16 m) (pre ++ (b ∷ bs)) e ∙ get_or_at pre b bs 0 k lp in
      none_here n k m b pre lp h lead noblank isbad hm e1 e2;
}

abbrev Means : ℕ → ℕ → List ℕ → List ℕ → Type 0
Means n k rest all = MatchResult (scan n k rest) (λ m. Spells all m) (λ j. RulesOut all j)

unfoldable pub after : ℕ → List ℕ → Option ℕ → Result ℕ ℕ
after k bs o = elim o [ None ↦ Err k | Some m ↦ scan m (k + 1) bs ]

abbrev Case : List ℕ → Result ℕ ℕ → Type 0
Case all r = MatchResult r (λ m. Spells all m) (λ j. RulesOut all j)

by_step : (bs pre : List ℕ) (n k b : ℕ) (k16 : k < 16) (o : Option ℕ) → Does n k b o → Lead k n pre → ((n ≡ 0 → b ≡ 32 → k < 15 → ⊥) → Bad n k b → RulesOut (pre ++ (b ∷ bs)) k) → ((m : ℕ) → Lead (k + 1) m (pre ++ (b ∷ [])) → Means m (k + 1) bs (pre ++ (b ∷ bs))) → Case (pre ++ (b ∷ bs)) (after k bs o)
unfolding after
by_step bs pre n k b k16 None d lead out more = out d.0 d.1
by_step bs pre n k b k16 (Some m) d lead out more =
    more m
    (⊎_elim
    (λ u.
    let l = lead_blank pre n k lead u.1 u.3 in
    let l2 : Lead (k + 1) n (pre ++ (b ∷ [])) = subst (λ (x : ℕ). Lead (k + 1) n (pre ++ (x ∷ []))) (sym u.2) l in
    subst (λ (x : ℕ). Lead (k + 1) x (pre ++ (b ∷ []))) (sym u.0) l2)
    (λ u. subst (λ (x : ℕ). Lead (k + 1) x (pre ++ (b ∷ []))) (sym u.0) (lead_digit pre n k b k16 lead u.1 u.2 u.3))
    d)

meaning : (rest pre : List ℕ) (n k : ℕ) → length pre ≡ k → k + length rest ≡ 16 → Lead k n pre → Means n k rest (pre ++ rest)
unfolding scan after
meaning [] pre n k lp lr lead =
    let k16 : k ≡ 16 = omega arith in
    ⊎_elim
    (λ a. absurd (omega (arith, a.1)))
    (λ a. record { small = subst (λ (x : ℕ). n < 10 ^ x) k16 a.1; form = append-nil pre ∙ a.2 ∙ ap (λ (x : ℕ). in_columns x n) k16 })
    lead
meaning (b ∷ bs) pre n k lp lr lead =
    let assoc : (pre ++ (b ∷ [])) ++ bs ≡ pre ++ (b ∷ bs) = append_assoc pre (b ∷ []) bs in
    let lp1 : length (pre ++ (b ∷ [])) ≡ k + 1 = rw (length_push pre b) (omega arith) in
    by_step bs pre n k b (omega arith) (step n k b) (does n k b) lead
    (rules pre bs b n k lp (omega arith) lead)
    (λ m l. subst (Means m (k + 1) bs) assoc (meaning bs (pre ++ (b ∷ [])) m (k + 1) lp1 (omega arith) l))

-- a field of sixteen columns, read from the left, is a number's written form, or stops at the first byte that rules one out
pub scan_means : (bs : List ℕ) → length bs ≡ 16 → MatchResult (scan 0 0 bs) (λ n. Spells bs n) (λ k. RulesOut bs k)
scan_means bs h = meaning bs [] 0 0 refl (omega arith) (inl (refl, omega arith, refl))
