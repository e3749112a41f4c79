use Rattle.std.proofs.Common.{refl, rules}
use Rattle.desk.proofs.Places.{beginning}
use Rattle.desk.proofs.sink.FixedText.write_beginning.Goals as goal

pub returns-then-is_whole-clause-bytes : goal.returns-then-is_whole-clause-bytes
returns-then-is_whole-clause-bytes c = beginning c.args.self.now.text.now c.args.line.now c.copy_from_slice.new.self c.args.self.now.length _ (search rules) c.requires refl (search rules)
