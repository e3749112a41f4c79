use Rattle.std.proofs.Common.{rules, arith}
use Rattle.desk.proofs.Places.{whole}
use Rattle.desk.proofs.sink.FixedText.write_whole.Goals as goal

pub returns-clause-bytes : goal.returns-clause-bytes
returns-clause-bytes c = whole c.args.self.now.text.now c.args.line.now c.copy_from_slice.new.self c.args.self.now.length _ c.requires (omega arith) (search rules)
