-- One turn of the event loop.
use Rattle.std.proofs.Common.{◌≡◌, ℕ, ◌+◌, ◌<◌, ◌≤◌, true, false, cond, eqb, leb, List, [], ◌∷◌, ◌++◌, length, get_or, drop, Some, None, Ok, Err, Option, Result, append_assoc, append-nil, refl, ap, ◌∙◌, arith, rules}
use Rattle.std.proofs.lemmas.Bool.{le-leb}
use Rattle.rules.specs.declared.letter.Letter.{Letter}
use Rattle.rules.specs.declared.letter.Part.TheVariants as part
use Rattle.fields.specs.declared.fault.DayFault.{DayFault}
use Rattle.fields.specs.declared.fault.FieldFault.{FieldFault}
use Rattle.fields.specs.Faults.{day_at, line_at}
use Rattle.fields.specs.Layout.{width_of}
use Rattle.gate.specs.declared.figures.Figures.{Figures}
use Rattle.gate.specs.Desks.{Desk}
use Rattle.desk.specs.declared.event.Event.{Event}
use Rattle.desk.specs.Answered.{Answered, after_close, closing, event_answer, faulty, next, over}
use Rattle.desk.specs.Effects.{Session, after_event, closes}
use Rattle.desk.specs.Events.{event_letter, event_of}
use Rattle.desk.specs.Printed.{Appends, Paper, shown_fault}

-- the event, or the fault, behind the letter, the line and the part
event_ok : (r : Result Event FieldFault) (b nr : ℕ) (e : Event) → Ok e ≡ day_at part.Event (line_at b nr r) → r ≡ Ok e
event_ok (Ok x) b nr e q = cc
event_ok (Err f) b nr e q = cc

event_err : (r : Result Event FieldFault) (b nr : ℕ) (fault : DayFault) → Err fault ≡ day_at part.Event (line_at b nr r) → (f : FieldFault) × (r ≡ Err f) × (fault ≡ record { line = record { field = f; letter = b; line = nr }; part = part.Event })
event_err (Ok x) b nr fault q = search rules
event_err (Err f) b nr fault q = search rules

-- a line that is there is passed, and counted
pub counted_on : (l : Letter) (e : Event) (bytes : List ℕ) (nr nr' : ℕ) → l ≡ event_letter e → width_of (event_letter e) ≤ length bytes → nr' ≡ cond (leb (width_of l) (length bytes)) (nr + 1) nr → nr' ≡ nr + 1
counted_on l e bytes nr nr' same long n = n ∙ ap (λ b. cond b (nr + 1) nr) (ap (λ x. leb (width_of x) (length bytes)) same ∙ le-leb (width_of (event_letter e)) (length bytes) long)

-- what is answered so far goes on to what is answered in the end
abbrev pub Goes : Session → ℕ → List ℕ → List ℕ → Session → ℕ → List ℕ → Type 0
Goes s₀ nr₀ rest₀ text s nr rest = (more : List ℕ) (last : Desk) (closed : Option Figures) → Answered s nr rest more last closed → Answered s₀ nr₀ rest₀ (text ++ more) last closed

some_left : (rest : List ℕ) → false ≡ eqb (length rest) 0 → 0 < length rest
some_left [] e = grind arith
some_left (b ∷ bs) e = omega arith

none_left : (rest : List ℕ) → true ≡ eqb (length rest) 0 → rest ≡ []
none_left [] e = refl
none_left (b ∷ bs) e = grind arith

module _ {O : Type 0} (view : O → Paper) (after : O → List ℕ → Paper) (together : (x y z : O) (a b : List ℕ) → view y ≡ after x a → view z ≡ after y b → view z ≡ after x (a ++ b))
    (s₀ : Session) (nr₀ : ℕ) (rest₀ : List ℕ) (s : Session) (nr : ℕ) (rest : List ℕ) (from out : O) (so_far : Appends view after from out (λ text. Goes s₀ nr₀ rest₀ text s nr rest)) where
  module _ (e : Event) (s' : Session) (nr' : ℕ) (rest' : List ℕ) (to : O) (q : Ok e ≡ day_at part.Event (line_at (get_or rest 0 0) nr (event_of rest))) (a : s' ≡ after_event s e) (n : nr' ≡ nr + 1) (r : rest' ≡ drop (width_of (event_letter e)) rest)
      (wrote : view to ≡ after out (event_answer s e)) where
    pub one_more : closes s e ≡ false → Appends view after from to (λ text. Goes s₀ nr₀ rest₀ text s' nr' rest')
    one_more stays = (
      so_far.0 ++ event_answer s e,
      together from out to so_far.0 (event_answer s e) so_far.1 wrote,
      λ more last closed answered. rw (append_assoc so_far.0 (event_answer s e) more) (so_far.2 _ last closed (next rest e more last closed (event_ok _ _ nr e q) stays (rw (a, n, r) at answered))),
    )

    pub at_close : closes s e ≡ true → Appends view after from to (λ text. Answered s₀ nr₀ rest₀ (text ++ after_close nr' rest') s'.desk (Some s'.desk.figures))
    at_close shuts = (
      so_far.0 ++ event_answer s e,
      together from out to so_far.0 (event_answer s e) so_far.1 wrote,
      rw (append_assoc so_far.0 (event_answer s e) (after_close nr' rest'), a, n, r) (so_far.2 _ _ _ (closing rest e (event_ok _ _ nr e q) shuts)),
    )

  pub at_fault : (fault : DayFault) (to : O) → false ≡ eqb (length rest) 0 → Err fault ≡ day_at part.Event (line_at (get_or rest 0 0) nr (event_of rest))
      → view to ≡ after out (shown_fault fault) → Appends view after from to (λ text. Answered s₀ nr₀ rest₀ text s.desk None)
  at_fault fault to some q wrote =
      let f = event_err (event_of rest) (get_or rest 0 0) nr fault q in (
        so_far.0 ++ shown_fault fault,
        together from out to so_far.0 (shown_fault fault) so_far.1 wrote,
        rw f.2 (so_far.2 _ s.desk None (faulty rest f.0 (some_left rest some) f.1)),
      )

  pub at_end : true ≡ eqb (length rest) 0 → Appends view after from out (λ text. Answered s₀ nr₀ rest₀ text s.desk None)
  at_end e = (so_far.0, so_far.1, rw append-nil at (so_far.2 [] s.desk None (rw (none_left rest e) over)))
