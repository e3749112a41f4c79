use Rattle.desk.specs.declared.event.Link.TheVariants.{Up}
use Rattle.desk.specs.Effects.{session}
use Rattle.desk.specs.Output.{desk_over}
use Rattle.desk.proofs.Days.{ended, of_both}
use Rattle.desk.proofs.output.answer_loaded.Goals as goal

pub returns-in-Ok : goal.returns-in-Ok
returns-in-Ok g c =
    let start = session (desk_over c.args.loaded.day.figures c.args.tables.now c.args.book.now) Up in
    let events = c.args.loaded.events in
    of_both c.end_day.result _ _ _ (λ closed wrote ends. ended g.S.Sink.view g.S.Sink.after g.met.S.Sink.together start events.line events.bytes.now _ c.in-Ok.closing closed c.args.out.now c.answer-answered.new.out c.end_day.new.out c.in-Ok.ensures.reaches c.in-Ok.ensures.answered wrote ends) c.end_day.ensures.text c.end_day.ensures.ends
