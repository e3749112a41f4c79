use Rattle.std.proofs.Common.{◌∙◌}
use Rattle.desk.proofs.Lines.{event_in_of}
use Rattle.desk.proofs.reading.event.Goals as goal

pub returns-clause-is : goal.returns-clause-is
returns-clause-is c = c.event_in.ensures.is ∙ event_in_of c.args.rest.now c.in_ok-cut.field-0 c.in_ok-cut.ensures.0 c.in_ok-cut.ensures.1
