use Rattle.std.proofs.Common.{ℕ, ◌+◌, ◌*◌, ◌≤◌, Some, get_or, sym, ap, ◌∙◌, arith}
use Rattle.fields.specs.Scan.{step}
use Rattle.std.proofs.lemmas.Bool.Decides.{nat_tests}
use Rattle.fields.proofs.Columns.{ten_le}
use Rattle.fields.proofs.Meaning.{pow_pos_ten}
use Rattle.fields.proofs.Turns.{stops, goes, ends, grows, spelt, ruled, digit_step, other_step, zero_step, past_spaces, behind_spaces}
use Rattle.fields.proofs.digits.walk.Goals as goal
use Rattle.fields.proofs.digits.walk.Goals.{else-start-lt15-via-then-start-lt15+else-bytes-start-eq48, else-start-lt15-via-else-start-lt15}

pub returns-then-bytes-start-eq48 : goal.returns-then-bytes-start-eq48
returns-then-bytes-start-eq48 c =
    let k : ℕ = c.leading_spaces-start.result in
    let bs = c.args.bytes.now in
    let zero = zero_step k (omega arith) ∙ ap (step 0 k) (sym c.if-bytes-start-eq48.true) in
    let e = sym (past_spaces bs k c.told-bytes (omega arith) (omega arith)) ∙ stops bs 0 k (omega arith) zero in
    record { is = sym e; means = ruled bs k c.told-bytes e }

pub loop-i-init : goal.loop-i-init
loop-i-init c =
    let k : ℕ = c.leading_spaces-start.result in (
      pow_pos_ten k,
      past_spaces c.args.bytes.now k c.told-bytes (omega arith) (omega arith),
      λ z h. (
        behind_spaces c.args.bytes.now k c.told-bytes h c.leading_spaces-start.ensures,
        λ e. elim c.else-start-lt15.branch [
          | else-start-lt15-via-then-start-lt15+else-bytes-start-eq48 w ↦ w.if-bytes-start-eq48.false e
          | else-start-lt15-via-else-start-lt15 w ↦ omega arith
        ],
      ),
    )

pub returns-then-not-is_ascii_digit : goal.returns-then-not-is_ascii_digit
returns-then-not-is_ascii_digit c =
    let bs = c.args.bytes.now in
    let none = other_step c.loop-i.n c.loop-i.i (get_or bs c.loop-i.i 0) c.loop-i.invariant.2 (λ lo hi. grind (arith, nat_tests)) in
    let e = sym c.loop-i.invariant.1 ∙ stops bs c.loop-i.n c.loop-i.i (omega arith) none in
    record { is = sym e; means = ruled bs c.loop-i.i c.told-bytes e }

pub overflow_mul-n : goal.overflow_mul-n
overflow_mul-n c = omega (arith, ten_le c.loop-i.i (omega arith), c.loop-i.invariant.0)

pub overflow_add-n : goal.overflow_add-n
overflow_add-n c = omega (arith, ten_le c.loop-i.i (omega arith), c.loop-i.invariant.0, c.from.ensures)

pub loop-i-preserved : goal.loop-i-preserved
loop-i-preserved c =
    let bs = c.args.bytes.now in
    let b : ℕ = get_or bs c.loop-i.i 0 in
    let m : ℕ = c.loop-i.n * 10 + c.from.result in
    let lo : 48 ≤ b = grind (arith, nat_tests) in
    let hi : b ≤ 57 = grind (arith, nat_tests) in
    let some = ap (λ (d : ℕ). Some (c.loop-i.n * 10 + d)) c.from.ensures ∙ digit_step c.loop-i.n c.loop-i.i b c.loop-i.invariant.2 lo hi in (
      grows c.loop-i.n c.loop-i.i b m c.loop-i.invariant.0 some,
      sym (goes bs c.loop-i.n c.loop-i.i m (omega arith) some) ∙ c.loop-i.invariant.1,
      λ z h. absurd ((c.loop-i.invariant.2 (omega arith) (omega arith)).1 (omega arith)),
    )

pub returns : goal.returns
returns c =
    let e = sym c.loop-i.invariant.1 ∙ ends c.args.bytes.now c.loop-i.n c.loop-i.i (omega arith) in
    record { is = sym e; means = spelt c.args.bytes.now c.loop-i.n c.told-bytes e }
