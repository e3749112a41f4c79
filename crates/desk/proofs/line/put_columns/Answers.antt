use Rattle.std.proofs.Common.{arith}
use Rattle.desk.specs.Printed.{signed}
use Rattle.desk.proofs.Filling.{in_field, length_columned}
use Rattle.desk.proofs.line.put_columns.Goals as goal

pub returns-clause-filled : goal.returns-clause-filled
returns-clause-filled c text filled =
    let shown = signed c.args.is_negative c.args.magnitude in
    in_field c.put_signed.new.line shown text c.put_signed.result _ (omega (arith, length_columned shown, c.requires.0, c.put_signed.ensures.room)) (c.put_signed.ensures.filled text filled)
