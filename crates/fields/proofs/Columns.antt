-- What a number's written form has at each column.
use Rattle.std.proofs.Common.{◌≡◌, ℕ, ◌+◌, ◌-◌, ◌*◌, ◌/◌, ◌%◌, ◌^◌, ◌<◌, ◌≤◌, ◌⊎◌, List, [], ◌∷◌, ◌++◌, length, get_or, take, replicate, decimal, sym, refl, ap, ◌∙◌, inl, inr, ⊎_elim, append_assoc, arith}
use Rattle.std.proofs.lemmas.Bool.{cases_lt}
use native.Mathlib.Nat.{pow-le-pow_right}
use Rattle.std.proofs.lemmas.Fmt.{decimal_step, decimal_digit, decimal_by_steps, length-decimal-le, decimal_nonempty, first_decimal}
use Rattle.std.proofs.lemmas.List.{length-append, length-replicate, length_push, get_or_push, get_or_append_left, get_or-append_right, get_or-replicate, get_or-take}
use Rattle.fields.specs.Written.{in_columns}

pub columns_step : (w n : ℕ) → 10 ≤ n → n < 2 ^ 64 → in_columns (w + 1) n ≡ in_columns w (n / 10) ++ ((48 + n % 10) ∷ [])
unfolding in_columns
columns_step w n h l =
    let e = decimal_step n h l in
    let k : (w + 1) - length (decimal n) ≡ w - length (decimal (n / 10)) = rw e (rw length_push (omega arith)) in
    rw (k, e) (sym (append_assoc (replicate (w - length (decimal (n / 10))) 32) (decimal (n / 10)) ((48 + n % 10) ∷ [])))

pub columns_digit : (w n : ℕ) → n < 10 → in_columns (w + 1) n ≡ replicate w 32 ++ ((48 + n) ∷ [])
unfolding in_columns
columns_digit w n h =
    let e = decimal_digit n h in
    let k : (w + 1) - length (decimal n) ≡ w = rw e (omega arith) in
    rw (k, e) refl

pub length_columns : (w n : ℕ) → 0 < w → n < 10 ^ w → n < 2 ^ 64 → length (in_columns w n) ≡ w
unfolding in_columns
length_columns w n p h l =
    let a = length-decimal-le w n p h l in
    rw (length-append, length-replicate) (omega arith)

-- a digit more
pub columns_more : (w n d : ℕ) → 0 < n → d < 10 → n * 10 + d < 2 ^ 64 → in_columns (w + 1) (n * 10 + d) ≡ in_columns w n ++ ((48 + d) ∷ [])
columns_more w n d p h l =
    let q : (n * 10 + d) / 10 ≡ n = omega arith in
    let r : (n * 10 + d) % 10 ≡ d = omega arith in
    let e = columns_step w (n * 10 + d) (omega arith) l in
    cc

-- each byte of a numeral is a digit
abbrev pub AllDigits : List ℕ → Type 0
AllDigits ds = (i : ℕ) → i < length ds → (48 ≤ get_or ds i 0) × (get_or ds i 0 ≤ 57)

all_push : (ds : List ℕ) (d : ℕ) → d < 10 → AllDigits ds → AllDigits (ds ++ ((48 + d) ∷ []))
all_push ds d h a i l =
    let t = simp length_push at l in
    ⊎_elim
    (λ (lt : i < length ds). rw get_or_append_left (a i lt))
    (λ (ge : length ds ≤ i). let e : length ds ≡ i = omega arith in rw (get_or_push ds (48 + d) 0 i e) (omega arith, omega arith))
    (cases_lt i (length ds))

pub digits_all : (n : ℕ) → n < 2 ^ 64 → AllDigits (decimal n)
digits_all n l =
    decimal_by_steps (λ _ ds. AllDigits ds)
    (λ m h i g. let e : i ≡ 0 = omega arith in rw e (omega arith, omega arith))
    (λ m ds h a. all_push ds (m % 10) (omega arith) a)
    n l

-- a column is a space, or a digit of the numeral
pub at_space : (w n i : ℕ) → i < w - length (decimal n) → get_or (in_columns w n) i 0 ≡ 32
unfolding in_columns
at_space w n i h =
    get_or_append_left (replicate (w - length (decimal n)) 32) (decimal n) 0 i
    (rw (length-replicate {A = ℕ} (w - length (decimal n)) 32) h)
    ∙ get_or-replicate (w - length (decimal n)) i 32 0 h

pub at_digit : (w n i : ℕ) → w - length (decimal n) ≤ i → get_or (in_columns w n) i 0 ≡ get_or (decimal n) (i - (w - length (decimal n))) 0
unfolding in_columns
at_digit w n i h = get_or-append_right (replicate (w - length (decimal n)) 32) (decimal n) (w - length (decimal n)) i 0 (length-replicate _ _) h

-- each byte past the spaces is a digit
pub past_space : (n i : ℕ) → n < 10 ^ 16 → i < 16 → 16 - length (decimal n) ≤ i → (48 ≤ get_or (in_columns 16 n) i 0) × (get_or (in_columns 16 n) i 0 ≤ 57)
past_space n i h l g =
    let a = length-decimal-le 16 n (omega arith) h (omega arith) in
    rw (at_digit 16 n i g) (digits_all n (omega arith) (i - (16 - length (decimal n))) (omega arith))

pub ten_le : (k : ℕ) → k ≤ 16 → 10 ^ k ≤ 10 ^ 16
ten_le k h = pow-le-pow_right {n = 10} (omega arith) {i = k} {j = 16} h

-- after the digits of a number that is not 0 comes a digit
pub after_digits : (k n m : ℕ) → 0 < n → 0 < k → k < 16 → n < 10 ^ k → m < 10 ^ 16 → take k (in_columns 16 m) ≡ in_columns k n → (48 ≤ get_or (in_columns 16 m) k 0) × (get_or (in_columns 16 m) k 0 ≤ 57)
after_digits k n m p k0 k16 h hm e =
    let t = ten_le k (omega arith) in
    let n64 : n < 2 ^ 64 = omega arith in
    let a = length-decimal-le k n k0 h n64 in
    let s = decimal_nonempty n n64 in
    let dig = digits_all n n64 (k - 1 - (k - length (decimal n))) (omega arith) in
    let e1 = at_digit k n (k - 1) (omega arith) in
    let e2 : get_or (take k (in_columns 16 m)) (k - 1) 0 ≡ get_or (in_columns 16 m) (k - 1) 0 = get_or-take k (in_columns 16 m) (k - 1) 0 (omega arith) in
    let e3 = ap (λ (xs : List ℕ). get_or xs (k - 1) 0) e in
    ⊎_elim
    (λ (lt : k - 1 < 16 - length (decimal m)). let e4 = at_space 16 m (k - 1) lt in absurd (omega arith))
    (λ (ge : 16 - length (decimal m) ≤ k - 1). past_space m k hm k16 (omega arith))
    (cases_lt (k - 1) (16 - length (decimal m)))

-- after spaces alone comes a space with a column to come, a digit from 1 to 9, or 0 in the last column
abbrev pub After : ℕ → ℕ → Type 0
After k b = ((b ≡ 32) × (k < 15)) ⊎ (((48 < b) × (b ≤ 57)) ⊎ ((b ≡ 48) × (k ≡ 15)))

pub after_spaces : (k m : ℕ) → k < 16 → m < 10 ^ 16 → take k (in_columns 16 m) ≡ replicate k 32 → After k (get_or (in_columns 16 m) k 0)
after_spaces k m h hm e =
    let m64 : m < 2 ^ 64 = omega arith in
    let s = decimal_nonempty m m64 in
    let a = length-decimal-le 16 m (omega arith) hm m64 in
    ⊎_elim
    (λ (lt : k < 16 - length (decimal m)). inl (at_space 16 m k lt, omega arith))
    (λ (ge : 16 - length (decimal m) ≤ k).
    ⊎_elim
    (λ (more : 16 - length (decimal m) < k).
    let dig = past_space m (k - 1) hm (omega arith) (omega arith) in
    let e1 = get_or-take k (in_columns 16 m) (k - 1) 0 (omega arith) in
    let e2 = ap (λ (xs : List ℕ). get_or xs (k - 1) 0) e in
    let e3 = get_or-replicate {A = ℕ} k (k - 1) 32 0 (omega arith) in
    absurd (omega arith))
    (λ (is : k ≤ 16 - length (decimal m)).
    let z : k - (16 - length (decimal m)) ≡ 0 = omega arith in
    let at = at_digit 16 m k ge ∙ ap (λ (j : ℕ). get_or (decimal m) j 0) z in
    let dig = digits_all m m64 0 s in
    ⊎_elim
    (λ (zero : m < 1).
    let m0 : m ≡ 0 = omega arith in
    let d0 = ap decimal m0 ∙ decimal_digit 0 (omega arith) in
    let l0 = ap length d0 in
    let b0 = ap (λ (xs : List ℕ). get_or xs 0 0) d0 in
    inr (inr (at ∙ b0, omega arith)))
    (λ (some : 1 ≤ m). let f = first_decimal m some m64 in inr (inl (omega arith, omega arith)))
    (cases_lt m 1))
    (cases_lt (16 - length (decimal m)) k))
    (cases_lt k (16 - length (decimal m)))
