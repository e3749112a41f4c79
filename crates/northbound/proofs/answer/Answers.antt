use Rattle.std.proofs.lemmas.Result.{on_ok_weaker}
use Rattle.northbound.proofs.Capped.{answered_whole}
use Rattle.northbound.proofs.answer.Goals as goal

pub returns : goal.returns
returns g c =
    on_ok_weaker c.write_text.result (λ wrote. answered_whole (g.R.Read.remaining c.args.reader) (g.W.Write.contents c.args.writer.now) (g.W.Write.contents c.write_text.new.writer) c.in_ok-input.input.items c.in_ok-text.text.items
    c.in_ok-input.ensures.bytes (rw c.deref.ensures.value at c.in_ok-text.ensures) (rw c.deref-2.ensures.value at wrote)) c.write_text.ensures
