use Rattle.northbound.proofs.Capped.{capped}
use Rattle.northbound.proofs.read_all.Goals as goal

pub returns-clause-bytes : goal.returns-clause-bytes
returns-clause-bytes g c = capped (g.R.Read.remaining c.args.reader) 32769 c.new-input.result.items c.copy.new.writer.items c.truncate.new.self.items c.new-input.ensures.items
    (rw (← c.take.ensures.inner, ← c.take.ensures.limit) c.in_ok-copy.ensures.bytes) c.truncate.ensures.items
