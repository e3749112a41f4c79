-- Each event leads every history of its desk on.
use Rattle.std.proofs.Common.{◌≡◌, Some, None, Option, sym, refl, ap, subst}
use Rattle.rules.specs.declared.refusal.Refusal.{Refusal}
use Rattle.rules.specs.Rules.{kept_or}
use Rattle.orders.specs.declared.order.Request.{Request}
use Rattle.gate.specs.declared.pass.Pass.{Pass}
use Rattle.gate.specs.Calls.{Call, accepted, called, cancel, confirm, decline, give_back, notice, refusal_of, reserve, send, step, trade, void}
use Rattle.gate.specs.Desks.{Desk}
use Rattle.history.specs.History.{noted, one_more}
use Rattle.desk.specs.declared.event.Event.{Event}
use Rattle.desk.specs.declared.event.Event.TheVariants as event
use Rattle.desk.specs.declared.event.Link.{Link}
use Rattle.desk.specs.declared.event.Link.TheVariants.{Down, Up}
use Rattle.desk.specs.Effects.{Session, after_event, answered_request, effect, pass_for, passed_on, request_of}
use Rattle.desk.specs.Answered.{Reaches}

pub stays : (d : Desk) → Reaches d d
stays d d₀ cs ran = (cs, ran)

pub then_reaches : (a b c : Desk) → Reaches a b → Reaches b c → Reaches a c
then_reaches a b c f g d₀ cs ran = let r = f d₀ cs ran in g d₀ r.0 r.1

by_call : (d : Desk) (c : Call) → Reaches d (called d c)
by_call d c d₀ cs ran = (noted (refusal_of d c) c cs, one_more (called d c) c (refusal_of d c) ran (record { answers = refl; becomes = refl }))

by_pass : (link : Link) (d : Desk) (pass : Pass) → Reaches d (passed_on link d pass).desk
by_pass Up d pass = by_call d (send pass)
by_pass Down d pass = by_call d (void pass)

by_request : (o : Option Refusal) (link : Link) (d : Desk) (a : Request) → refusal_of d (reserve a) ≡ o → Reaches d (answered_request o link d a).desk
by_request (Some e) link d a q = stays d
by_request None link d a q =
    let taken : Reaches d (accepted d (reserve a)) = λ d₀ cs ran. (noted None (reserve a) cs, one_more (accepted d (reserve a)) (reserve a) None ran (record { answers = sym q; becomes = sym (ap (λ o. kept_or o d (accepted d (reserve a))) q) })) in
    then_reaches d (accepted d (reserve a)) (passed_on link (accepted d (reserve a)) (pass_for d)).desk taken (by_pass link (accepted d (reserve a)) (pass_for d))

-- an event's desk is reached from the desk before it
pub by_event : (s : Session) (e : Event) → Reaches s.desk (effect s e).desk
by_event s (event.Request side p a c q n) =
    let request = request_of side p a c q n in
    by_request (refusal_of s.desk (reserve request)) s.link s.desk request refl
by_event s (event.Trade order shares price) = by_call s.desk (trade order shares price)
by_event s (event.Return order) = by_call s.desk (give_back order)
by_event s (event.Confirm order) = by_call s.desk (confirm order)
by_event s (event.Decline order) = by_call s.desk (decline order)
by_event s (event.Cancel order participant) = by_call s.desk (cancel order participant)
by_event s event.Step = by_call s.desk step
by_event s (event.Notice code foreign total) = by_call s.desk (notice code foreign total)
by_event s (event.Link state) = stays s.desk
by_event s event.Close = stays s.desk

-- so is the desk that a turn leaves
pub by_turn : (d : Desk) (s s' : Session) (e : Event) → Reaches d s.desk → s' ≡ after_event s e → Reaches d s'.desk
by_turn d s s' e r q = subst (λ (x : Session). Reaches d x.desk) (sym q) (then_reaches d s.desk (effect s e).desk r (by_event s e))
