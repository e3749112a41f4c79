use Rattle.fields.proofs.ReadBack.{reads_back}
use Rattle.fields.proofs.line.line_width.Goals as goal

pub returns-clause-back : goal.returns-clause-back
returns-clause-back c = reads_back c.args.letter
