use Rattle.desk.specs.Output.{Output, judged, program_orders, program_room, too_long}
use Rattle.desk.specs.Printed.{printed_fault}
use Rattle.desk.specs.declared.printing.Fault.TheVariants as fault
use Rattle.desk.proofs.Days.{from_nothing}
use Rattle.desk.proofs.output.output.Goals as goal

pub returns-then-input-gt-MOST_INPUT : goal.returns-then-input-gt-MOST_INPUT
returns-then-input-gt-MOST_INPUT c = from_nothing (Output c.args.input.now program_room program_orders) c.new-out.result.items c.write.new.out.items c.new-out.ensures.items
    (printed_fault fault.TooLong, c.in_ok-write.ensures, too_long c.if-input-gt-MOST_INPUT.true)

pub returns : goal.returns
returns c =
    let done = c.in_ok-replay.ensures in
    from_nothing (Output c.args.input.now program_room program_orders) c.new-out.result.items c.replay.new.out.items c.new-out.ensures.items
    (done.0, done.1, judged c.in_ok-replay.field-0 done.0 c.if-input-gt-MOST_INPUT.false done.2)
