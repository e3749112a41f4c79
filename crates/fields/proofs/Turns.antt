-- The scan's turns, at an index of the field.
use Rattle.std.proofs.Common.{◌≡◌, ℕ, zero, suc, ◌+◌, ◌-◌, ◌*◌, ◌^◌, ◌<◌, ◌≤◌, ◌==◌, ◌≢◌, min, false, List, length, get_or, drop, Some, None, Ok, Err, Option, sym, refl, ap, ◌∙◌, subst, ⊎_elim, add-one, arith}
use Rattle.std.proofs.lemmas.Bool.{eqb-true}
use Rattle.std.proofs.lemmas.Bool.Decides.{nat_tests}
use Rattle.std.proofs.lemmas.List.Sums.{prefix_len_passes, prefix_len_stops}
use Rattle.std.specs.List.{prefix_len}
use Rattle.std.proofs.lemmas.List.{drop_more, drop_all}
use Rattle.std.proofs.lemmas.Result.{MatchResult-at_ok, MatchResult-at_err}
use Rattle.fields.specs.Scan.{scan, step}
use Rattle.fields.specs.Written.{Spells, RulesOut}
use Rattle.fields.proofs.Meaning.{after, does, Does, ten_more, scan_means, pow_pos_ten}

turn : (bs : List ℕ) (n i : ℕ) (o : Option ℕ) → i < length bs → o ≡ step n i (get_or bs i 0) → scan n i (drop i bs) ≡ after i (drop (i + 1) bs) o
unfolding scan after
turn bs n i o h e = ap (scan n i) (drop_more bs i 0 h) ∙ ap (after i (drop (i + 1) bs)) (sym e)

pub stops : (bs : List ℕ) (n i : ℕ) → i < length bs → None ≡ step n i (get_or bs i 0) → scan n i (drop i bs) ≡ Err i
unfolding after
stops bs n i h e = turn bs n i None h e

pub goes : (bs : List ℕ) (n i m : ℕ) → i < length bs → Some m ≡ step n i (get_or bs i 0) → scan n i (drop i bs) ≡ scan m (i + 1) (drop (i + 1) bs)
unfolding after
goes bs n i m h e = turn bs n i (Some m) h e

pub ends : (bs : List ℕ) (n i : ℕ) → length bs ≤ i → scan n i (drop i bs) ≡ Ok n
unfolding scan
ends bs n i h = ap (scan n i) (drop_all i bs h)

pub grows : (n i b m : ℕ) → n < 10 ^ i → Some m ≡ step n i b → m < 10 ^ (i + 1)
grows n i b m h e =
    let t = ten_more i in
    let p = pow_pos_ten i in
    let d : Does n i b (Some m) = subst (Does n i b) (sym e) (does n i b) in
    ⊎_elim (λ u. omega (arith, u.0, u.1)) (λ u. omega (arith, u.0, u.2)) d

pub spelt : (bs : List ℕ) (n : ℕ) → length bs ≡ 16 → scan 0 0 bs ≡ Ok n → Spells bs n
spelt bs n h e = MatchResult-at_ok (λ m. Spells bs m) (λ k. RulesOut bs k) n e (scan_means bs h)

pub ruled : (bs : List ℕ) (k : ℕ) → length bs ≡ 16 → scan 0 0 bs ≡ Err k → RulesOut bs k
ruled bs k h e = MatchResult-at_err (λ m. Spells bs m) (λ j. RulesOut bs j) k e (scan_means bs h)

-- no space and no leading zero stands here any more: a digit has come, or this byte is one, or the last place is reached
abbrev pub Begun : ℕ → ℕ → ℕ → Type 0
Begun n k b = n ≡ 0 → k < 15 → (b ≢ 32) × (b ≢ 48)

pub digit_step : (n k b : ℕ) → Begun n k b → 48 ≤ b → b ≤ 57 → Some (n * 10 + (b - 48)) ≡ step n k b
digit_step n k b g lo hi = grind (arith, nat_tests)

pub other_step : (n k b : ℕ) → Begun n k b → (48 ≤ b → b ≤ 57 → ⊥) → None ≡ step n k b
other_step n k b g h = grind (arith, nat_tests)

pub zero_step : (k : ℕ) → k < 15 → None ≡ step 0 k 48
zero_step k h = grind (arith, nat_tests)

space_step : (k : ℕ) → k < 15 → Some 0 ≡ step 0 k 32
space_step k h = grind (arith, nat_tests)

-- spaces at the front leave the number 0
pub past_spaces : (bs : List ℕ) (k : ℕ) → length bs ≡ 16 → k ≤ 15 → k ≤ prefix_len (λ b. b == 32) bs → scan 0 k (drop k bs) ≡ scan 0 0 bs
past_spaces bs zero l h p = refl
past_spaces bs (suc k) l h p =
    let space : get_or bs k 0 ≡ 32 = eqb-true (get_or bs k 0) 32 (prefix_len_passes (λ b. b == 32) bs k 0 (omega arith)) in
    let next = goes bs 0 k 0 (omega arith) (space_step k (omega arith) ∙ ap (step 0 k) (sym space)) in
    rw (← add-one k) (sym next ∙ past_spaces bs k l (omega arith) (omega arith))

-- the byte behind the leading spaces is no space, unless it is the last one
pub behind_spaces : (bs : List ℕ) (k : ℕ) → length bs ≡ 16 → k < 15 → k ≡ min (prefix_len (λ b. b == 32) bs) 15 → get_or bs k 0 ≢ 32
behind_spaces bs k l h e s =
    let p : k ≡ prefix_len (λ b. b == 32) bs = omega arith in
    let other = prefix_len_stops (λ b. b == 32) bs 0 (omega arith) in
    let at : (get_or bs k 0 == 32) ≡ false = ap (λ (j : ℕ). get_or bs j 0 == 32) p ∙ other in
    grind (arith, nat_tests)
