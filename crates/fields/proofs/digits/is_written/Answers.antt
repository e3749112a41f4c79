use Rattle.std.proofs.Common.{◌∙◌, arith}
use Rattle.std.proofs.lemmas.Bool.Decides.{nat_tests}
use Rattle.fields.specs.Scan.{spaces}
use Rattle.fields.proofs.Runs.{counted}
use Rattle.fields.proofs.digits.is_written.Goals as goal

pub returns-then-start-eq15 : goal.returns-then-start-eq15
returns-then-start-eq15 c = λ e. (counted c.args.bytes.now (spaces c.args.bytes.now) (omega arith) (omega arith) ∙ c.told-bytes, λ l. absurd (omega arith))

pub returns-else-start-eq15 : goal.returns-else-start-eq15
returns-else-start-eq15 c = λ e. (
  counted c.args.bytes.now (spaces c.args.bytes.now) (omega arith) (omega arith) ∙ c.told-bytes,
  λ l z. grind (arith, nat_tests),
)
