use Rattle.std.proofs.Common.{Bool, ◌++◌, decimal, subst, sym}
use Rattle.desk.specs.Printed.{Filled, signed}
use Rattle.desk.proofs.Filling.{digits_before}
use Rattle.desk.proofs.line.put_signed.Goals as goal

pub returns-then-is_negative-clause-filled : goal.returns-then-is_negative-clause-filled
returns-then-is_negative-clause-filled c text filled =
    let digits = digits_before c.args.line.now c.write_digits-from.new.buf (decimal c.args.magnitude) text c.write_digits-from.result c.args.end c.write_digits-from.ensures.start c.write_digits-from.ensures.written c.write_digits-from.ensures.before filled in
    subst (λ (b : Bool). Filled c.put_byte.new.line c.put_byte.result (signed b c.args.magnitude ++ text)) (sym c.if-is_negative.true) (c.put_byte.ensures.filled (decimal c.args.magnitude ++ text) digits)

pub returns-else-is_negative-clause-filled : goal.returns-else-is_negative-clause-filled
returns-else-is_negative-clause-filled c text filled =
    let digits = digits_before c.args.line.now c.write_digits-from.new.buf (decimal c.args.magnitude) text c.write_digits-from.result c.args.end c.write_digits-from.ensures.start c.write_digits-from.ensures.written c.write_digits-from.ensures.before filled in
    subst (λ (b : Bool). Filled c.write_digits-from.new.buf c.write_digits-from.result (signed b c.args.magnitude ++ text)) (sym c.if-is_negative.false) digits
