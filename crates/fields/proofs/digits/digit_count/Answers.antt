use Rattle.std.proofs.Common.{ap, ◌∙◌, map, nat_le, arith, w8}
use Rattle.core.specs.Prelude.{bit_xor}
use Rattle.core.specs.Char.{is_ascii_digit}
use lib.Count.{ones}
use lib.Lanes.{mask_l}
use mathlib.Core.List.{map-map}
use Rattle.std.proofs.lemmas.List.{length-map}
use Rattle.std.proofs.lemmas.Simd.{below_from_Fits, bitmask_splat, ones-mask_l, zip2_splat}
use Rattle.fields.proofs.Runs.{tests}
use Rattle.fields.proofs.digits.digit_count.Goals as goal

pub returns : goal.returns
returns c =
    let bs = c.args.bytes in
    let lanes = zip2_splat bit_xor bs 16 48 c.fits-bytes.0 in
    let tested = map-map (λ b. nat_le b 9) (λ b. bit_xor b 48) bs ∙ tests bs (below_from_Fits w8 bs c.fits-bytes.1) in
    rw lanes (ap ones (bitmask_splat w8 nat_le (map (λ b. bit_xor b 48) bs) 16 9 (length-map bs (λ b. bit_xor b 48) ∙ c.fits-bytes.0) (omega arith) ∙ ap mask_l tested) ∙ ones-mask_l is_ascii_digit bs)
