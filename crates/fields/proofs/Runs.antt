-- A run of digits, read at once, is what the scan reads byte by byte.
use Rattle.std.proofs.Common.{◌≡◌, ◌==◌, ℕ, zero, suc, ◌+◌, ◌-◌, ◌*◌, ◌%◌, ◌^◌, ◌<◌, ◌≤◌, nat_le, Bool, true, false, cond, List, [], ◌∷◌, map, length, take, drop, get_or, Ok, bit_and, sym, refl, ap, ap₂, subst, ◌∙◌, arith}
use Rattle.core.specs.Prelude.{bit_xor}
use mathlib.Core.Bool.{beq}
use native.Mathlib.Nat.{pow-le-pow_right}
use lib.Bits.{and_mask}
use lib.Lanes.{Each1}
use Rattle.std.specs.List.{count_by, prefix_len}
use Rattle.core.specs.Char.{digit_value, is_ascii_digit}
use Rattle.core.specs.Str.Parse.{digits_value, digits_value_after}
use Rattle.core.specs.Int.Digits.{number_from_digits, number_from_digits_after, AllBelowBase}
use Rattle.core.specs.Dec2flt.Digits.{IsEightDigits}
use Rattle.core.specs.Float.Numeral.{digits_len}
use Rattle.core.proofs.str.DigitValues.{number_lt}
use Rattle.core.proofs.dec2flt.DigitsLemmas.{beq_is, every_below}
use Rattle.std.proofs.lemmas.Bool.{eqb-true}
use Rattle.std.proofs.lemmas.Bool.Decides.{nat_tests}
use Rattle.std.proofs.lemmas.List.{get_or-drop, length-drop, length-map, length-take-le, take_all, take-append-drop}
use Rattle.std.proofs.lemmas.List.Sums.{count_by-le-length}
use Rattle.std.proofs.lemmas.Int.Digits.{number_after_append}
use Rattle.std.proofs.lemmas.Simd.{ones-mask_l, ones-mask_l_cons}
use Rattle.fields.specs.Scan.{scan}
use Rattle.fields.proofs.Meaning.{after}
use Rattle.fields.proofs.Turns.{Begun, digit_step}

is_value : (b : ℕ) → 48 ≤ b → b ≤ 57 → digit_value b ≡ b - 48
is_value b lo hi = grind (arith, nat_tests)

low : (b : ℕ) → is_ascii_digit b ≡ true → 48 ≤ b
low b e = grind (arith, nat_tests)

high : (b : ℕ) → is_ascii_digit b ≡ true → b ≤ 57
high b e = grind (arith, nat_tests)

begun_on : (n k b c : ℕ) → Begun n k b → 48 ≤ b → Begun (n * 10 + (b - 48)) (k + 1) c
begun_on n k b c g lo z l = absurd ((g (omega arith) (omega arith)).1 (omega arith))

on : (n k b : ℕ) (bs : List ℕ) → Begun n k b → is_ascii_digit b ≡ true → scan n k (b ∷ bs) ≡ scan (n * 10 + (b - 48)) (k + 1) bs
unfolding scan after
on n k b bs g e = ap (after k bs) (sym (digit_step n k b g (low b e) (high b e)))

-- digits up to the end give the number that they write behind n
pub all_digits : (bs : List ℕ) (n k : ℕ) → Begun n k (get_or bs 0 0) → digits_len bs ≡ length bs → scan n k bs ≡ Ok (digits_value_after 10 n bs)
unfolding scan
all_digits [] n k g h = refl
all_digits (b ∷ bs) n k g h = go (all_digits bs (n * 10 + (b - 48)) (k + 1)) (is_ascii_digit b) refl h
  where
    go : (Begun (n * 10 + (b - 48)) (k + 1) (get_or bs 0 0) → digits_len bs ≡ length bs → scan (n * 10 + (b - 48)) (k + 1) bs ≡ Ok (digits_value_after 10 (n * 10 + (b - 48)) bs))
        → (t : Bool) → is_ascii_digit b ≡ t → cond t (1 + digits_len bs) 0 ≡ suc (length bs) → scan n k (b ∷ bs) ≡ Ok (digits_value_after 10 n (b ∷ bs))
    go rest true e s =
        on n k b bs g e ∙ rest (begun_on n k b (get_or bs 0 0) g (low b e)) (omega arith)
        ∙ ap (λ (d : ℕ). Ok (digits_value_after 10 (n * 10 + d) bs)) (sym (is_value b (low b e) (high b e)))
    go rest false e s = absurd (omega arith)

-- the byte at k is the first of what is left from k on
pub here : (bs : List ℕ) (n k : ℕ) → Begun n k (get_or bs k 0) → Begun n k (get_or (drop k bs) 0 0)
here bs n k g = subst (Begun n k) (ap (λ (i : ℕ). get_or bs i 0) {y = k + 0} (omega arith) ∙ sym (get_or-drop k bs 0 0)) g

-- the step of a count
count_first : (b : ℕ) (bs : List ℕ) → count_by is_ascii_digit (b ∷ bs) ≡ cond (is_ascii_digit b) 1 0 + count_by is_ascii_digit bs
count_first b bs =
    sym (ones-mask_l is_ascii_digit (b ∷ bs)) ∙ ones-mask_l_cons (is_ascii_digit b) (map is_ascii_digit bs)
    ∙ ap (λ (n : ℕ). cond (is_ascii_digit b) 1 0 + n) (ones-mask_l is_ascii_digit bs)

-- as many digits as bytes: all of them are
all_counted : (bs : List ℕ) → count_by is_ascii_digit bs ≡ length bs → digits_len bs ≡ length bs
all_counted [] h = refl
all_counted (b ∷ bs) h = go (all_counted bs) (is_ascii_digit b) (sym (count_first b bs) ∙ h)
  where
    go : (count_by is_ascii_digit bs ≡ length bs → digits_len bs ≡ length bs) → (t : Bool) → cond t 1 0 + count_by is_ascii_digit bs ≡ suc (length bs) → cond t (1 + digits_len bs) 0 ≡ suc (length bs)
    go rest true e = let r = rest (omega arith) in omega arith
    go rest false e = absurd (omega (arith, count_by-le-length is_ascii_digit bs))

-- spaces, and digits for all the rest: they stand behind the spaces
pub counted : (bs : List ℕ) (k : ℕ) → k ≤ prefix_len (λ b. b == 32) bs → k + count_by is_ascii_digit bs ≡ length bs → digits_len (drop k bs) + k ≡ length bs
counted bs zero l h = omega (arith, all_counted bs (omega arith))
counted [] (suc k) l h = absurd (omega arith)
counted (b ∷ bs) (suc k) l h = go (counted bs k) (b == 32) refl l (ap (λ (n : ℕ). suc k + n) (sym (count_first b bs)) ∙ h)
  where
    go : (k ≤ prefix_len (λ b. b == 32) bs → k + count_by is_ascii_digit bs ≡ length bs → digits_len (drop k bs) + k ≡ length bs)
        → (t : Bool) → (b == 32) ≡ t → suc k ≤ cond t (1 + prefix_len (λ b. b == 32) bs) 0 → suc k + (cond (is_ascii_digit b) 1 0 + count_by is_ascii_digit bs) ≡ suc (length bs) → digits_len (drop k bs) + suc k ≡ suc (length bs)
    go rest true e m c =
        let no : is_ascii_digit b ≡ false = grind (arith, nat_tests) in
        let same = ap (λ (t : Bool). suc k + (cond t 1 0 + count_by is_ascii_digit bs)) (sym no) ∙ c in
        let r = rest (omega arith) (omega arith) in
        omega arith
    go rest false e m c = absurd (omega arith)

-- the test of all bytes at once is the digits' own
tested : (b : ℕ) → b < 256 → nat_le (bit_xor b 48) 9 ≡ is_ascii_digit b
tested b h = beq_is _ _ (every_below (λ x. beq (nat_le (bit_xor x 48) 9) (is_ascii_digit x)) 256 tt b h)

pub tests : (bs : List ℕ) → Each1 (λ b. b < 256) bs → map (λ b. nat_le (bit_xor b 48) 9) bs ≡ map is_ascii_digit bs
tests [] h = refl
tests (b ∷ bs) h = ap₂ (λ t ts. t ∷ ts) (tested b h.0) (tests bs h.1)

-- the low half of a digit's byte is the digit, and that of a space is 0
low_half : (b : ℕ) → bit_and b 15 ≡ b % 16
low_half b = and_mask b 4

-- digits and what they write, by the low halves of their bytes
written : (bs : List ℕ) (n : ℕ) → digits_len bs ≡ length bs → number_from_digits_after 10 n (map (λ b. bit_and b 15) bs) ≡ digits_value_after 10 n bs
written [] n h = refl
written (b ∷ bs) n h = go (written bs) (is_ascii_digit b) refl h
  where
    go : ((n : ℕ) → digits_len bs ≡ length bs → number_from_digits_after 10 n (map (λ b. bit_and b 15) bs) ≡ digits_value_after 10 n bs)
        → (t : Bool) → is_ascii_digit b ≡ t → cond t (1 + digits_len bs) 0 ≡ suc (length bs) → number_from_digits_after 10 (n * 10 + bit_and b 15) (map (λ b. bit_and b 15) bs) ≡ digits_value_after 10 (n * 10 + digit_value b) bs
    go rest true e s =
        let same : bit_and b 15 ≡ digit_value b = low_half b ∙ omega (arith, is_value b (low b e) (high b e), low b e, high b e) in
        rest (n * 10 + bit_and b 15) (omega arith) ∙ ap (λ (d : ℕ). digits_value_after 10 (n * 10 + d) bs) same
    go rest false e s = absurd (omega arith)

below_ten : (bs : List ℕ) → digits_len bs ≡ length bs → AllBelowBase 10 (map (λ b. bit_and b 15) bs)
below_ten [] h = tt
below_ten (b ∷ bs) h = go (below_ten bs) (is_ascii_digit b) refl h
  where
    go : (digits_len bs ≡ length bs → AllBelowBase 10 (map (λ b. bit_and b 15) bs)) → (t : Bool) → is_ascii_digit b ≡ t → cond t (1 + digits_len bs) 0 ≡ suc (length bs) → (bit_and b 15 < 10) × AllBelowBase 10 (map (λ b. bit_and b 15) bs)
    go rest true e s = (omega (arith, low_half b, low b e, high b e), rest (omega arith))
    go rest false e s = absurd (omega arith)

-- the same behind spaces, which count as zeros
pub behind : (bs : List ℕ) (k : ℕ) → k ≤ prefix_len (λ b. b == 32) bs → digits_len (drop k bs) + k ≡ length bs
    → AllBelowBase 10 (map (λ b. bit_and b 15) bs) × (number_from_digits 10 (map (λ b. bit_and b 15) bs) ≡ digits_value 10 (drop k bs))
behind bs zero l h = (below_ten bs (omega arith), written bs 0 (omega arith))
behind [] (suc k) l h = absurd (omega arith)
behind (b ∷ bs) (suc k) l h = go (behind bs k) (b == 32) refl l h
  where
    go : (k ≤ prefix_len (λ b. b == 32) bs → digits_len (drop k bs) + k ≡ length bs → AllBelowBase 10 (map (λ b. bit_and b 15) bs) × (number_from_digits 10 (map (λ b. bit_and b 15) bs) ≡ digits_value 10 (drop k bs)))
        → (t : Bool) → (b == 32) ≡ t → suc k ≤ cond t (1 + prefix_len (λ b. b == 32) bs) 0 → digits_len (drop k bs) + suc k ≡ suc (length bs)
        → ((bit_and b 15 < 10) × AllBelowBase 10 (map (λ b. bit_and b 15) bs)) × (number_from_digits_after 10 (0 * 10 + bit_and b 15) (map (λ b. bit_and b 15) bs) ≡ digits_value 10 (drop k bs))
    go rest true e m c =
        let space : b ≡ 32 = eqb-true b 32 e in
        let zero_here : bit_and b 15 ≡ 0 = ap (λ (x : ℕ). bit_and x 15) space in
        let r = rest (omega arith) (omega arith) in (
          (omega arith, r.0),
          ap (λ (d : ℕ). number_from_digits_after 10 (0 * 10 + d) (map (λ b. bit_and b 15) bs)) zero_here ∙ r.1,
        )
    go rest false e m c = absurd (omega arith)

below-take : (k : ℕ) (ds : List ℕ) → AllBelowBase 10 ds → AllBelowBase 10 (take k ds)
below-take zero ds h = tt
below-take (suc k) [] h = tt
below-take (suc k) (d ∷ ds) h = (h.0, below-take k ds h.1)

below-drop : (k : ℕ) (ds : List ℕ) → AllBelowBase 10 ds → AllBelowBase 10 (drop k ds)
below-drop zero ds h = h
below-drop (suc k) [] h = tt
below-drop (suc k) (d ∷ ds) h = below-drop k ds h.1

-- eight digits more
eight_more : (n : ℕ) (ds : List ℕ) → length ds ≡ 8 → number_from_digits_after 10 n ds ≡ n * 100000000 + number_from_digits 10 ds
eight_more n [] h = absurd (omega arith)
eight_more n (a ∷ []) h = absurd (omega arith)
eight_more n (a ∷ b ∷ []) h = absurd (omega arith)
eight_more n (a ∷ b ∷ c ∷ []) h = absurd (omega arith)
eight_more n (a ∷ b ∷ c ∷ d ∷ []) h = absurd (omega arith)
eight_more n (a ∷ b ∷ c ∷ d ∷ e ∷ []) h = absurd (omega arith)
eight_more n (a ∷ b ∷ c ∷ d ∷ e ∷ f ∷ []) h = absurd (omega arith)
eight_more n (a ∷ b ∷ c ∷ d ∷ e ∷ f ∷ g ∷ []) h = absurd (omega arith)
eight_more n (a ∷ b ∷ c ∷ d ∷ e ∷ f ∷ g ∷ i ∷ []) h = omega arith
eight_more n (a ∷ b ∷ c ∷ d ∷ e ∷ f ∷ g ∷ i ∷ j ∷ ds) h = absurd (omega arith)

-- sixteen digits are eight and eight
pub halves : (ds : List ℕ) → length ds ≡ 16 → AllBelowBase 10 ds
    → IsEightDigits (take 8 ds) × IsEightDigits (take 8 (drop 8 ds)) × (number_from_digits 10 (take 8 ds) * 100000000 + number_from_digits 10 (take 8 (drop 8 ds)) ≡ number_from_digits 10 ds) × (number_from_digits 10 ds < 10 ^ 16)
halves ds l h =
    let first : length (take 8 ds) ≡ 8 = length-take-le 8 ds (omega arith) in
    let rest : length (drop 8 ds) ≡ 8 = omega (arith, length-drop 8 ds) in
    let whole : take 8 (drop 8 ds) ≡ drop 8 ds = take_all 8 (drop 8 ds) (omega arith) in
    rw whole (
      (first, below-take 8 ds h),
      (rest, below-drop 8 ds h),
      sym (eight_more (number_from_digits 10 (take 8 ds)) (drop 8 ds) rest) ∙ sym (number_after_append 10 0 (take 8 ds) (drop 8 ds)) ∙ ap (number_from_digits 10) (take-append-drop 8 ds),
      subst (λ (n : ℕ). number_from_digits 10 ds < 10 ^ n) l (number_lt 10 ds h),
    )

pub as_bytes : (ds : List ℕ) → AllBelowBase 10 ds → Each1 (λ x. x < 256) ds
as_bytes [] h = tt
as_bytes (d ∷ ds) h = (omega (arith, h.0), as_bytes ds h.1)

-- behind eight spaces or more there are eight digits at the most
pub few : (bs : List ℕ) (k : ℕ) → 8 ≤ k → length bs ≡ 16 → digits_len (drop k bs) + k ≡ 16 → digits_value 10 (drop k bs) < 10 ^ 8
few bs k l n h =
    let rest : length (drop k bs) ≡ 16 - k = length-drop k bs ∙ omega arith in
    let all : digits_len (drop k bs) ≡ length (drop k bs) = omega arith in
    let halves_of = map (λ b. bit_and b 15) (drop k bs) in
    let size : length halves_of ≡ 16 - k = length-map (drop k bs) (λ b. bit_and b 15) ∙ rest in
    let most = subst (λ (m : ℕ). number_from_digits 10 halves_of < 10 ^ m) size (number_lt 10 halves_of (below_ten (drop k bs) all)) in
    omega (arith, most, written (drop k bs) 0 all, pow-le-pow_right {n = 10} (omega arith) {i = 16 - k} {j = 8} (omega arith))
