use Rattle.std.proofs.Common.{rules}
use Rattle.std.proofs.lemmas.List.{take_rest}
use Rattle.fields.proofs.line.part.Goals as goal

pub returns : goal.returns
returns c = search (rules, take_rest)
