use Rattle.std.proofs.Common.{ℕ, Ok, refl, drop, get_or, sym, ap, ◌∙◌, arith}
use Rattle.std.proofs.lemmas.List.{length-drop}
use Rattle.fields.specs.Scan.{spaces}
use Rattle.fields.proofs.Runs.{all_digits, here}
use Rattle.fields.proofs.Turns.{Begun, spelt, past_spaces, behind_spaces}
use Rattle.fields.proofs.digits.digits.Goals as goal

pub returns-then-is_written : goal.returns-then-is_written
returns-then-is_written c =
    let bs = c.args.bytes.now in
    let k : ℕ = spaces bs in
    let told = c.is_written.ensures c.if-is_written.true in
    let begun : Begun 0 k (get_or bs k 0) = λ z l. (behind_spaces bs k c.told-bytes l refl, told.1 l) in
    let e = sym (past_spaces bs k c.told-bytes (omega arith) (omega arith)) ∙ all_digits (drop k bs) 0 k (here bs 0 k begun) (omega (arith, length-drop k bs, told.0)) ∙ ap Ok (sym (c.number.ensures told.0)) in
    record { is = sym e; means = spelt bs c.number.result c.told-bytes e }
