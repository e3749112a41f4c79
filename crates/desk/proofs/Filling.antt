-- A line is filled from its right end.
use Rattle.std.proofs.Common.{◌<◌, ◌^◌, [], cond, decimal, subst, ◌≡◌, ℕ, zero, suc, ◌+◌, ◌-◌, ◌≤◌, Bool, true, false, List, ◌∷◌, ◌++◌, length, take, drop, replicate, sym, refl, ap, ◌∙◌, append_assoc, arith, lit<, rules, ℤ, pos, negsuc, unsigned_abs}
use Rattle.std.proofs.lemmas.List.{length-append, length-replicate, replicate-append-replicate, take-append-drop}
use Rattle.std.proofs.lemmas.Fmt.{length-decimal-le}
use Rattle.std.specs.Int.{is_negative}
use Rattle.fields.specs.Written.{columned, in_columns}
use Rattle.desk.specs.Printed.{Filled, signed, signed_columns}

-- spaces before a text fill its columns
pub in_field : (bytes s text : List ℕ) (first r : ℕ) → first ≡ r + (16 - length s) → Filled bytes first (s ++ text) → Filled bytes r (columned 16 s ++ text)
in_field bytes s text first r same filled =
    filled ∙ (ap (λ n. replicate n 32 ++ (s ++ text)) same ∙ (ap (λ t. t ++ (s ++ text)) (sym (replicate-append-replicate r (16 - length s) 32))
    ∙ (append_assoc (replicate r 32) (replicate (16 - length s) 32) (s ++ text) ∙ ap (λ t. replicate r 32 ++ t) (sym (append_assoc (replicate (16 - length s) 32) s text)))))

kept_before : (f n : ℕ) (text : List ℕ) → f ≤ n → take f (replicate {A = ℕ} n 32 ++ text) ≡ replicate f 32
kept_before zero n text le = refl
kept_before (suc f) zero text le = grind (arith, le)
kept_before (suc f) (suc n) text le = ap (λ t. 32 ∷ t) (kept_before f n text (grind (arith, le)))

kept_after : (n : ℕ) (text : List ℕ) → drop n (replicate n 32 ++ text) ≡ text
kept_after zero text = refl
kept_after (suc n) text = kept_after n text

-- digits that are written before a text, behind spaces
pub digits_before : (old new digits text : List ℕ) (first end : ℕ) → first + length digits ≡ end → drop first new ≡ digits ++ drop end old → take first new ≡ take first old → Filled old end text → Filled new first (digits ++ text)
digits_before old new digits text first end start written before filled =
    let front = before ∙ (ap (take first) filled ∙ kept_before first end text (grind (arith, start))) in
    let back = written ∙ ap (λ t. digits ++ t) (ap (drop end) filled ∙ kept_after end text) in
    sym (take-append-drop first new) ∙ (ap (λ t. t ++ drop first new) front ∙ ap (λ t. replicate first 32 ++ t) back)

-- a number in columns has no minus
pub plain : (n : ℕ) → columned 16 (signed false n) ≡ in_columns 16 n
unfolding in_columns
plain n = refl

-- a signed number in columns
pub with_minus : (z : ℤ) (below : Bool) (n : ℕ) → below ≡ is_negative z → n ≡ unsigned_abs z → columned 16 (signed below n) ≡ signed_columns z
with_minus (pos m) below n b a = let plus : is_negative (pos m) ≡ false = search rules in rw (b ∙ plus, a) refl
with_minus (negsuc m) below n b a = let minus : is_negative (negsuc m) ≡ true = search rules in rw (b ∙ minus, a) refl

-- how long a text in columns is
pub length_columned : (s : List ℕ) → length (columned 16 s) ≡ 16 - length s + length s
length_columned s = length-append (replicate (16 - length s) 32) s ∙ ap (λ (n : ℕ). n + length s) (length-replicate (16 - length s) 32)

-- a number that has room in its columns fills them
pub room_enough : (below : Bool) (n : ℕ) → n < 2 ^ 64 → n < cond below 1000000000000000 10000000000000000 → length (columned 16 (signed below n)) ≡ 16
room_enough true n h l = omega (arith, length_columned (45 ∷ decimal n), length-decimal-le 15 n (omega arith) (omega arith) h)
room_enough false n h l = omega (arith, length_columned (decimal n), length-decimal-le 16 n (omega arith) (omega arith) h)

-- and no number takes more than twenty digits
pub signed_most : (below : Bool) (n : ℕ) → n < 2 ^ 64 → length (columned 16 (signed below n)) ≤ 21
signed_most true n h = omega (arith, length_columned (45 ∷ decimal n), length-decimal-le 20 n (omega arith) (omega arith) h)
signed_most false n h = omega (arith, length_columned (decimal n), length-decimal-le 20 n (omega arith) (omega arith) h)

pub columns_most : (n : ℕ) → n < 2 ^ 64 → length (in_columns 16 n) ≤ 21
columns_most n h = subst (λ (t : List ℕ). length t ≤ 21) (plain n) (signed_most false n h)

-- a balance that has room in its columns fills them
pub balance_room : (z : ℤ) (below : Bool) (n : ℕ) → below ≡ is_negative z → n ≡ unsigned_abs z → length (columned 16 (signed below n)) ≡ 16 → length (signed_columns z) ≡ 16
balance_room z below n sign size room = sym (ap length (with_minus z below n sign size)) ∙ room

-- a balance of 0 has room
pub zero_room : length (signed_columns (pos 0)) ≡ 16
zero_room = balance_room (pos 0) false 0 (search rules) refl (room_enough false 0 (lit< tt) (lit< tt))

-- a balance that fills its columns stands behind spaces alone
pub on_form : (line : List ℕ) (z : ℤ) (r : ℕ) → r + length (signed_columns z) ≡ 49 → length (signed_columns z) ≡ 16 → Filled line r (signed_columns z ++ (10 ∷ [])) → Filled line 33 (signed_columns z ++ (10 ∷ []))
on_form line z r begins size filled =
    let place : r ≡ 33 = omega (arith, begins, size) in
    subst (λ (k : ℕ). Filled line k (signed_columns z ++ (10 ∷ []))) place filled
