use Rattle.std.proofs.Common.{◌≡◌, ℕ, zero, suc, ◌+◌, not, cond, eqb, min, ◌==◌, List, [], ◌∷◌, refl, sym, ap, ap₂, ◌∙◌, w8, arith}
use Rattle.std.proofs.Math.Bool.{not-not}
use Rattle.std.proofs.lemmas.Bool.{ne_eqb}
use Rattle.std.proofs.lemmas.Simd.{bitmask_splat, first_set_mask_l}
use Rattle.std.specs.List.{prefix_len}
use lib.Count.{count_trailing_zeros}
use Rattle.fields.proofs.digits.leading_spaces.Goals as goal

-- the lowest bit of the mask is the first byte that is no space; with no bit, all sixteen are spaces
counted : (m p : ℕ) → cond (eqb m 0) 16 (count_trailing_zeros 64 m) ≡ p → min (count_trailing_zeros 64 m) 15 ≡ min p 15
unfolding count_trailing_zeros
counted zero p e = ap (λ (k : ℕ). min k 15) e
counted (suc m) p e =
    let bit = ap (λ b. cond b 16 (count_trailing_zeros 64 (suc m))) (ne_eqb (suc m) 0 (λ z. omega arith)) in
    ap (λ (k : ℕ). min k 15) (sym bit ∙ e)

same_spaces : (xs : List ℕ) → prefix_len (λ x. not (not (x == 32))) xs ≡ prefix_len (λ b. b == 32) xs
same_spaces [] = refl
same_spaces (x ∷ xs) = ap₂ (λ b n. cond b (1 + n) 0) (not-not (x == 32)) (same_spaces xs)

pub returns : goal.returns
returns c =
    let bs = c.args.bytes.now in
    let mask = ap (count_trailing_zeros 64) (bitmask_splat w8 (λ a b. not (a == b)) bs 16 32 c.told-bytes (omega arith)) in
    let spaces = counted _ _ (first_set_mask_l (λ x. not (x == 32)) bs 16 c.told-bytes (omega arith) ∙ same_spaces bs) in
    omega arith
