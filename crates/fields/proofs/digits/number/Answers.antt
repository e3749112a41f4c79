use Rattle.std.proofs.Common.{ℕ, List, ◌≡◌, ◌/◌, ◌%◌, ◌^◌, ap, sym, ◌∙◌, map, take, drop, arith, bit_and, refl}
use lib.Lanes.{number_l}
use Rattle.core.specs.Int.Digits.{number_from_digits}
use Rattle.std.proofs.lemmas.List.{length-map}
use Rattle.std.proofs.lemmas.Simd.{zip2_splat, get_or_wider}
use Rattle.fields.specs.Scan.{spaces}
use Rattle.fields.proofs.Runs.{as_bytes, behind, few, halves}
use Rattle.fields.proofs.digits.number.Goals as goal
use Rattle.fields.proofs.digits.number.Goals.{then-start-lt8, else-start-lt8}

pub returns : goal.returns
returns c = λ h.
    let bs = c.args.bytes.now in
    let vs = map (λ b. bit_and b 15) bs in
    let told = behind bs (spaces bs) (omega arith) (h ∙ sym c.told-bytes) in
    let parts = halves vs (length-map bs (λ b. bit_and b 15) ∙ c.told-bytes) told.0 in
    let lanes = zip2_splat bit_and bs 16 15 c.told-bytes in
    let word = λ (j : ℕ). get_or_wider 256 8 (2 ^ 64) 2 vs j refl (as_bytes vs told.0) in
    let low = c.number_of_eight.ensures (take 8 (drop 8 vs)) parts.1 (ap (λ (l : List ℕ). number_l 256 l / 2 ^ 64 % 2 ^ 64) lanes ∙ word 1 (omega arith)) in
    let above : c.if-start-lt8.above ≡ number_from_digits 10 (take 8 vs) = elim c.if-start-lt8.branch [
      | then-start-lt8 w ↦ w.above-is ∙ w.number_of_eight-above.ensures (take 8 vs) parts.0 (ap (λ (l : List ℕ). number_l 256 l % 2 ^ 64) lanes ∙ word 0 (omega arith))
      | else-start-lt8 w ↦ omega (arith, w.above-is, parts.2, told.1, few bs (spaces bs) (omega arith) c.told-bytes h)
    ] in
    omega (arith, low, above, parts.2, parts.3, told.1)
