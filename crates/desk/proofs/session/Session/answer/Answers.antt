use Rattle.std.proofs.Common.{drop, sym, ap, ◌∙◌}
use Rattle.fields.specs.Layout.{width_of}
use Rattle.desk.specs.Effects.{session_of}
use Rattle.desk.proofs.Reached.{by_turn}
use Rattle.desk.proofs.Turns.{at_close, at_end, at_fault, counted_on, one_more}
use Rattle.desk.proofs.session.Session.answer.Goals as goal

pub returns-in_err-closing-in-Ok-clause-reaches : goal.returns-in_err-closing-in-Ok-clause-reaches
returns-in_err-closing-in-Ok-clause-reaches g c =
    let seen = session_of g.P.Register.meaning g.A.Register.meaning in
    by_turn (seen c.args.self.now).desk (seen c.events.self) (seen c.respond.new.self) c.in-Ok.event c.events.invariant.0 c.respond.ensures.after

pub returns-then-closing-clause-answered : goal.returns-then-closing-clause-answered
returns-then-closing-clause-answered g c =
    let bytes = c.events.rest.bytes.now in
    let line = c.events.rest.line in
    let left = c.pass.ensures.left ∙ ap (λ l. drop (width_of l) bytes) c.letter.ensures in
    let next = counted_on c.letter.result c.in-Ok.event bytes line c.pass.new.self.line c.letter.ensures c.in-Ok.ensures.long c.pass.ensures.counted in
    at_close g.S.Sink.view g.S.Sink.after g.met.S.Sink.together _ _ _ _ line bytes c.args.out.now c.events.out c.events.invariant.1 c.in-Ok.event _ _ _ c.respond.new.out c.in-Ok.ensures.is c.respond.ensures.after next left c.in_ok-closing-in-Ok.ensures.wrote (sym c.in_ok-closing-in-Ok.ensures.closing ∙ c.if-closing.true)

pub events-preserved : goal.events-preserved
events-preserved g c =
    let bytes = c.events.rest.bytes.now in
    let line = c.events.rest.line in
    let left = c.pass.ensures.left ∙ ap (λ l. drop (width_of l) bytes) c.letter.ensures in
    let next = counted_on c.letter.result c.in-Ok.event bytes line c.pass.new.self.line c.letter.ensures c.in-Ok.ensures.long c.pass.ensures.counted in
    let seen = session_of g.P.Register.meaning g.A.Register.meaning in (
      by_turn (seen c.args.self.now).desk (seen c.events.self) (seen c.respond.new.self) c.in-Ok.event c.events.invariant.0 c.respond.ensures.after,
      one_more g.S.Sink.view g.S.Sink.after g.met.S.Sink.together _ _ _ _ line bytes c.args.out.now c.events.out c.events.invariant.1 c.in-Ok.event _ _ _ c.respond.new.out c.in-Ok.ensures.is c.respond.ensures.after next left c.in_ok-closing-in-Ok.ensures.wrote (sym c.in_ok-closing-in-Ok.ensures.closing ∙ c.if-closing.false),
    )

pub returns-in-Err-clause-answered : goal.returns-in-Err-clause-answered
returns-in-Err-clause-answered g c =
    at_fault g.S.Sink.view g.S.Sink.after g.met.S.Sink.together _ _ _ _ _ c.events.rest.bytes.now c.args.out.now c.events.out c.events.invariant.1 c.in-Err.fault c.write.new.out c.events-test.ensures c.in-Err.ensures.is c.in_ok-write-in-Err.ensures

pub returns-clause-answered : goal.returns-clause-answered
returns-clause-answered g c = at_end g.S.Sink.view g.S.Sink.after g.met.S.Sink.together _ _ _ _ _ c.events.rest.bytes.now c.args.out.now c.events.out c.events.invariant.1 c.events-test.ensures
