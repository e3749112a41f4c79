use Rattle.std.proofs.Common.{arith, rules}
use Rattle.desk.proofs.Places.{printed}
use Rattle.desk.proofs.sink.FixedText.print_whole.Goals as goal

pub returns : goal.returns
returns c =
    printed c.args.self.now.text.now _ c.put.new.line _ c.args.self.now.length _ c.put.result c.requires.room (search rules) (omega arith) (search rules) (omega (arith, c.put.ensures.begins, c.requires.refusal, c.requires.order)) (c.put.ensures.filled (search rules))
