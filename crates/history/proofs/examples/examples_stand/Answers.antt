use Rattle.history.proofs.Worked.{worked}
use Rattle.history.proofs.examples.examples_stand.Goals as goal

pub returns-clause-examples : goal.returns-clause-examples
returns-clause-examples c = worked
