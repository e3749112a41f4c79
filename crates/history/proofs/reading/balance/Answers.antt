use Rattle.history.proofs.Conserve.{conserved}
use Rattle.history.proofs.reading.balance.Goals as goal

pub returns-clause-law : goal.returns-clause-law
returns-clause-law g c = conserved _
