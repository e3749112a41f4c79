use Rattle.std.proofs.Common.{length}
use Rattle.desk.specs.Answered.{Reaches}
use Rattle.desk.specs.Effects.{session_of}
use Rattle.desk.specs.Printed.{Appends}
use Rattle.desk.proofs.Turns.{Goes}
use Rattle.desk.proofs.session.Session.answer.Given as goal

abbrev pub invariant-events : goal.invariant-events
invariant-events g l =
    Reaches (session_of g.P.Register.meaning g.A.Register.meaning l.initial.self).desk (session_of g.P.Register.meaning g.A.Register.meaning l.self).desk
    × Appends g.S.Sink.view g.S.Sink.after l.initial.out l.out (λ text. Goes (session_of g.P.Register.meaning g.A.Register.meaning l.initial.self) l.fn.events.line l.fn.events.bytes.now text (session_of g.P.Register.meaning g.A.Register.meaning l.self) l.rest.line l.rest.bytes.now)

abbrev pub decreases-events : goal.decreases-events
decreases-events g l = length l.rest.bytes.now
