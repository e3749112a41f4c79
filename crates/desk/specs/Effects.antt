-- What events do: to the desk of the day, and to the link.
use Rattle.std.specs.Prelude.{ℕ, ◌+◌, Bool, true, false, Some, None, Ok, Err, Option, Result}
use Rattle.rules.specs.declared.refusal.Refusal.{Refusal}
use Rattle.rules.specs.declared.refusal.Refusal.TheVariants as refusal
use Rattle.rules.specs.Rules.{first_broken}
use Rattle.rules.specs.declared.side.Side.{Side}
use Rattle.tables.specs.Tables.{lines_of}
use Rattle.registers.specs.Meaning.{Meaning}
use Rattle.orders.specs.declared.order.Request.{Request}
use Rattle.gate.specs.declared.pass.Pass.{Pass}
use Rattle.gate.specs.Calls.{Call, accepted, called, cancel, confirm, decline, give_back, notice, refusal_of, reserve, send, step, trade, void}
use Rattle.gate.specs.Closed.{closing_rules}
use Rattle.gate.specs.Desks.{Desk, desk}
use Rattle.desk.specs.declared.session.Session.{Session as Open}
use Rattle.desk.specs.declared.event.Event.{Event}
use Rattle.desk.specs.declared.event.Event.TheVariants as event
use Rattle.desk.specs.declared.event.Link.{Link}
use Rattle.desk.specs.declared.event.Link.TheVariants.{Down, Up}

-- What the events work on: the day's desk, and the link to the market.
pub record Session : Type 0 where
  pub desk : Desk
  pub link : Link

-- A session of its parts.
abbrev pub session : Desk → Link → Session
session d link = record { desk = d; link = link }

-- The session that the events work on, as its day, its securities, its registers, its book and its link stand.
abbrev pub session_of : {P A : Type 0} → (P → Meaning) → (A → Meaning) → Open P A → Session
session_of participants accounts s = session (desk s.day.figures (lines_of s.list.now) (participants s.participants) (accounts s.accounts) s.book.now) s.link

-- What an event comes to: the number of the order that it shows, 0 where there is none, or the refusal; and the desk after it.
pub record Effect : Type 0 where
  pub shows : Result ℕ Refusal
  pub desk : Desk

-- The number, unless there is a refusal.
abbrev pub unless : Option Refusal → ℕ → Result ℕ Refusal
unless None n = Ok n
unless (Some e) n = Err e

-- One call: its refusal, or the number of its order where it is accepted.
abbrev pub one_call : Desk → Call → ℕ → Effect
one_call d c number = record { shows = unless (refusal_of d c) number; desk = called d c }

-- The pass that an accepted request is given.
abbrev pub pass_for : Desk → Pass
pass_for d = record { market = d.figures.market; date = d.figures.date; number = d.figures.count + 1 }

-- An order that is voided shows why: the link is down.
abbrev pub voided : Option Refusal → Result ℕ Refusal
voided None = Err refusal.Link
voided (Some e) = Err e

-- A request that was accepted: its order is sent, or voided where the link is down.
abbrev pub passed_on : Link → Desk → Pass → Effect
passed_on Up d pass = one_call d (send pass) pass.number
passed_on Down d pass = record { shows = voided (refusal_of d (void pass)); desk = called d (void pass) }

-- A request's answer, and then its pass.
abbrev pub answered_request : Option Refusal → Link → Desk → Request → Effect
answered_request (Some e) link d a = record { shows = Err e; desk = d }
answered_request None link d a = passed_on link (accepted d (reserve a)) (pass_for d)

-- The event of a request, and the request of its numbers.
abbrev pub requested : Request → Event
requested a = event.Request a.side a.participant a.account a.code a.price a.shares

abbrev pub request_of : Side → ℕ → ℕ → ℕ → ℕ → ℕ → Request
request_of side participant account code price shares = record { participant = participant; account = account; code = code; side = side; price = price; shares = shares }

-- What each event comes to.
abbrev pub effect : Session → Event → Effect
effect s event.Step = one_call s.desk step 0
effect s (event.Notice code foreign total) = one_call s.desk (notice code foreign total) 0
effect s (event.Link state) = record { shows = Ok 0; desk = s.desk }
effect s (event.Request side p a c q n) = answered_request (refusal_of s.desk (reserve (request_of side p a c q n))) s.link s.desk (request_of side p a c q n)
effect s (event.Trade order shares price) = one_call s.desk (trade order shares price) order
effect s (event.Return order) = one_call s.desk (give_back order) order
effect s (event.Confirm order) = one_call s.desk (confirm order) order
effect s (event.Decline order) = one_call s.desk (decline order) order
effect s (event.Cancel order participant) = one_call s.desk (cancel order participant) order
effect s event.Close = record { shows = unless (first_broken (closing_rules s.desk.figures s.desk.book)) 0; desk = s.desk }

-- The link after an event.
abbrev pub link_after : Link → Event → Link
link_after link event.Step = link
link_after link (event.Notice code foreign total) = link
link_after link (event.Link state) = state
link_after link (event.Request side p a c q n) = link
link_after link (event.Trade order shares price) = link
link_after link (event.Return order) = link
link_after link (event.Confirm order) = link
link_after link (event.Decline order) = link
link_after link (event.Cancel order participant) = link
link_after link event.Close = link

-- The session after an event.
abbrev pub after_event : Session → Event → Session
after_event s e = session (effect s e).desk (link_after s.link e)

-- It is no refusal.
abbrev pub is_accepted : Result ℕ Refusal → Bool
is_accepted (Ok n) = true
is_accepted (Err e) = false

-- An event that shows this is a close that is accepted.
abbrev pub closed_by : Event → Result ℕ Refusal → Bool
closed_by event.Step shows = false
closed_by (event.Notice code foreign total) shows = false
closed_by (event.Link state) shows = false
closed_by (event.Request side p a c q n) shows = false
closed_by (event.Trade order shares price) shows = false
closed_by (event.Return order) shows = false
closed_by (event.Confirm order) shows = false
closed_by (event.Decline order) shows = false
closed_by (event.Cancel order participant) shows = false
closed_by event.Close shows = is_accepted shows

-- The event closes the day of the session.
abbrev pub closes : Session → Event → Bool
closes s e = closed_by e (effect s e).shows
