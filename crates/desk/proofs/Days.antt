-- The answer to a day that is loaded, and to one that is refused.
use Rattle.std.proofs.Common.{◌≡◌, ℕ, true, List, [], ◌++◌, length, Some, None, Ok, Err, Option, Result, IfOk, OnOk, sym, refl, ap, ◌∙◌, subst, append-nil, rules}
use Rattle.rules.specs.declared.letter.Part.TheVariants as part
use Rattle.rules.specs.declared.refusal.Refusal.{Refusal}
use Rattle.rules.specs.Rules.{first_broken}
use Rattle.fields.specs.declared.fault.DayFault.{DayFault}
use Rattle.fields.specs.declared.fault.LineFault.{LineFault}
use Rattle.fields.specs.declared.rest.Rest.{Rest}
use Rattle.fields.specs.Faults.{day_at}
use Rattle.registers.specs.Meaning.{Fresh}
use Rattle.registers.specs.Registers.{account_meaning, participant_meaning}
use Rattle.orders.specs.declared.order.Order.{Order}
use Rattle.gate.specs.declared.day.LoadingDay.{LoadingDay}
use Rattle.gate.specs.declared.figures.Figures.{Figures}
use Rattle.gate.specs.Calls.{Call}
use Rattle.gate.specs.Closed.{closing_rules}
use Rattle.gate.specs.Desks.{Desk}
use Rattle.gate.specs.Opened.{OpenedBy}
use Rattle.history.specs.History.{Law, Ran, no_call}
use Rattle.history.proofs.Conserve.{conserved}
use Rattle.dayfile.specs.declared.lent.Tables.{Tables}
use Rattle.dayfile.specs.declared.loaded.Loaded.{Loaded}
use Rattle.dayfile.specs.declared.plan.Counts.{Counts}
use Rattle.dayfile.specs.DayPart.{Plan, day_part}
use Rattle.dayfile.specs.Description.{Describes, Description, described, plan_of}
use Rattle.dayfile.specs.Loads.{Holds, Load, room_of}
use Rattle.dayfile.proofs.Law.{day_written}
use Rattle.desk.specs.declared.event.Link.TheVariants.{Up}
use Rattle.desk.specs.declared.event.Event.{Event}
use Rattle.desk.specs.declared.event.Event.TheVariants as event
use Rattle.desk.specs.Answered.{Answered, Ended, EndsDay, Reaches, Stopped, closing, late_answer, next}
use Rattle.desk.specs.Effects.{Session, closes, effect, is_accepted, session, unless}
use Rattle.desk.specs.Output.{DayAnswer, answered, desk_over, morning, refused}
use Rattle.desk.specs.Printed.{Appends, Paper, shown_fault}
use Rattle.desk.specs.Covering.{bytes_of, grown}

-- an accepted close is one that no rule forbids
allowed : (o : Option Refusal) → is_accepted (unless o 0) ≡ true → o ≡ None
allowed None q = refl
allowed (Some e) q = cc

closable : (s : Session) (e : Event) → closes s e ≡ true → first_broken (closing_rules (effect s e).desk.figures (effect s e).desk.book) ≡ None
closable s event.Close q = allowed (first_broken (closing_rules s.desk.figures s.desk.book)) q
closable s event.Step q = cc
closable s (event.Notice code foreign total) q = cc
closable s (event.Link state) q = cc
closable s (event.Request side p a c r n) q = cc
closable s (event.Trade order shares price) q = cc
closable s (event.Return order) q = cc
closable s (event.Confirm order) q = cc
closable s (event.Decline order) q = cc
closable s (event.Cancel order participant) q = cc

-- where a close was accepted, no rule forbids it at the last desk
closed_well : {s : Session} {nr : ℕ} {rest text : List ℕ} {last : Desk} {figures : Figures} → Answered s nr rest text last (Some figures) → first_broken (closing_rules last.figures last.book) ≡ None
closed_well (next rest e more last closed q stays later) = closed_well later
closed_well (closing rest e q shuts) = closable _ e shuts

never : (o : Option Refusal) (e : Refusal) → o ≡ None → o ≡ Some e → ⊥
never None e q r = cc
never (Some x) e q r = cc

-- what is answered up to an accepted close or the end, and then what is printed last
module _ {O : Type 0} (view : O → Paper) (after : O → List ℕ → Paper) (together : (x y z : O) (a b : List ℕ) → view y ≡ after x a → view z ≡ after y b → view z ≡ after x (a ++ b)) where
  pub ended : (s : Session) (nr : ℕ) (rest : List ℕ) (last : Desk) (closing : Option Rest) (closed : Option Figures) (from out to : O) → Reaches s.desk last → Appends view after from out (λ text. Stopped s nr rest text last closing)
      → view to ≡ after out (late_answer closing) → EndsDay closing last.figures last.book closed → Appends view after from to (Ended s nr rest closed)
  ended s nr rest last None closed from out to reaches made wrote ends = (
    made.0,
    rw append-nil at (together from out to made.0 [] made.1 wrote),
    rw ends (record { last = last; answers = made.2; reaches = reaches; ends = tt }),
  )
  ended s nr rest last (Some late) (Some closed) from out to reaches made wrote ends = (
    made.0 ++ late_answer (Some late),
    together from out to made.0 (late_answer (Some late)) made.1 wrote,
    record { last = last; answers = rw ends.figures made.2; reaches = reaches; ends = ends },
  )
  ended s nr rest last (Some late) None from out to reaches made wrote ends = absurd (never _ ends.0 (closed_well made.2) ends.1)

-- what follows from two facts of an answer
pub of_both : {X E : Type 0} (r : Result X E) (T : Type 0) (P Q : X → Type 0) → ((x : X) → T → P x → Q x) → OnOk r T → IfOk r P → IfOk r Q
of_both (Ok x) T P Q f t p = f x t p
of_both (Err e) T P Q f t p = tt

same_plan : (r : Result Plan LineFault) (a b : Plan) → r ≡ Ok a → r ≡ Ok b → a ≡ b
same_plan r a b p q = cc

-- the description of an accepted day part is the one that is read
read_back : (input : List ℕ) (room : Counts) (made : Plan) (d : Description) → day_part input room ≡ Ok made → Describes input room d → d ≡ described input made
read_back input room made d is describes =
    let w = day_written input room d describes in
    sym w.1 ∙ ap (described input) (same_plan (day_part input room) (plan_of d) made w.0 is)

-- the desk over tables that hold a description
held : (figures : Figures) (t : Tables) (book : List Order) (d : Description) → Holds d t → desk_over figures t book ≡ morning figures d book
held figures t book d h =
    let s = h.securities in
    let p = h.holdings in
    let a = h.account_holdings in
    let g = h.designations in
    rw (s, p, a, g) refl

-- the law of a history from a morning
lawful : (figures : Figures) (market date quota : ℕ) (d : Description) (book : List Order) (last : Desk) (cs : List Call) → OpenedBy market date quota figures → Fresh (participant_meaning d.holdings) → Fresh (account_meaning d.account_holdings d.designations) → Ran (morning figures d book) last cs → Law (morning figures d book) quota cs last
lawful figures market date quota d book last cs o fp fa =
    subst (λ (f : Figures). Ran (morning f d book) last cs → Law (morning f d book) quota cs last) (sym o.figures)
    (conserved last figures.market date quota d.securities (participant_meaning d.holdings) (account_meaning d.account_holdings d.designations) book fp fa cs)

-- a day that is loaded is answered as its events are
pub day_answered : (input : List ℕ) (before after : Tables) (l : Loaded) (book : List Order) (closed : Option Figures) (text : List ℕ) → Load input before (Ok l) after → Ended (session (desk_over l.day.figures after book) Up) l.events.line l.events.bytes.now closed text → DayAnswer input (room_of before) (length book) closed text
day_answered input before after l book closed text load ended =
    let figures = l.day.figures in
    let made = load.answers.0 in
    let begins = load.answers.2 in
    let d = load.described in
    let same : d.0 ≡ described input made = read_back input (room_of before) made d.0 load.answers.1 d.1 in
    let holds : Holds (described input made) after = subst (λ (x : Description). Holds x after) same d.2 in
    let start : desk_over figures after book ≡ morning figures (described input made) book = held figures after book (described input made) holds in
    let here = rw (start, begins.first_line, begins.events_begin) at ended in
    let run = here.reaches (morning figures (described input made) book) [] no_call in
    let fresh-p : Fresh (participant_meaning (described input made).holdings) = rw (← holds.holdings) holds.participants_fresh in
    let fresh-a : Fresh (account_meaning (described input made).account_holdings (described input made).designations) = rw (← holds.account_holdings) holds.accounts_fresh in
    answered made closed text load.answers.1 (record {
      figures = figures;
      book = book;
      last = here.last;
      calls = run.0;
      opens = begins.opened;
      rows = refl;
      answers = here.answers;
      history = run.1;
      law = lawful figures made.opening.market made.opening.date made.opening.quota (described input made) book here.last run.0 begins.opened fresh-p fresh-a run.1;
      ends = here.ends;
    })

day_fault : (r : Result Plan LineFault) (fault : DayFault) → day_at part.Day r ≡ Err fault → (f : LineFault) × (r ≡ Err f) × (record { line = f; part = part.Day } ≡ fault)
day_fault (Ok p) fault e = search rules
day_fault (Err f) fault e = (f, refl, cc)

-- a day that is refused is answered by its fault
pub day_refused : (input : List ℕ) (before after : Tables) (day : LoadingDay) (fault : DayFault) (orders : ℕ) → Load input before (Err (day, fault)) after → DayAnswer input (room_of before) orders None (shown_fault fault)
day_refused input before after day fault orders load =
    let f = day_fault (day_part input (room_of before)) fault load.answers in
    subst (λ (x : DayFault). DayAnswer input (room_of before) orders None (shown_fault x)) f.2 (refused f.0 f.1)

-- what is written where nothing was
pub from_nothing : (P : List ℕ → Type 0) (before after : List ℕ) → before ≡ [] → Appends bytes_of grown before after P → P after
from_nothing P before after e made = subst P (sym (ap (λ (p : Paper). p.bytes) made.1 ∙ ap (λ (t : List ℕ). t ++ made.0) e)) made.2
