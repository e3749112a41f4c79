-- In a history no pool comes or goes, and none opens with another number.
use Rattle.std.proofs.Common.{◌≡◌, ℕ, Bool, true, false, cond, List, Some, None, Option, sym, refl, ap, ◌∙◌, ⊎_elim}
use Rattle.std.proofs.lemmas.Bool.{cases_eq, eq-eqb, ne_eqb}
use Rattle.rules.specs.declared.refusal.Refusal.{Refusal}
use Rattle.rules.specs.declared.side.Side.{Side}
use Rattle.rules.specs.declared.side.Side.TheVariants.{Buy, Sell}
use Rattle.rules.specs.Rules.{kept_or}
use Rattle.rules.specs.Sides.{by_side}
use Rattle.registers.specs.declared.pool.Pool.{Pool}
use Rattle.registers.specs.Meaning.{Meaning, drawn_in, opening_in, opening_of, restored_in, with_pool}
use Rattle.orders.specs.declared.order.Request.{Request}
use Rattle.orders.specs.Records.{remainder}
use Rattle.gate.specs.Calls.{Call, accepted, after_end, cancel, confirm, decline, give_back, notice, refusal_of, reserve, restored_for, send, step, trade, void}
use Rattle.gate.specs.Desks.{Desk, record_of}
use Rattle.gate.specs.Reserves.{after_reserve, drawn_for, found, or_zero}
use Rattle.history.specs.History.{Ran, no_call, one_more, register_of}
use Rattle.history.specs.Tally.{Holder, holder_of, same_holder}
use Rattle.history.proofs.Registers.{both_same, changed}

drawn_open : (o : Option Pool) (n : ℕ) → opening_in (drawn_in o n) ≡ opening_in o
drawn_open (Some p) n = refl
drawn_open None n = refl

restored_open : (o : Option Pool) (n : ℕ) → opening_in (restored_in o n) ≡ opening_in o
restored_open (Some p) n = refl
restored_open None n = refl

with_open : (m : Meaning) (k : ℕ) (o : Option Pool) (j : ℕ) → opening_in o ≡ opening_of m k → opening_of (with_pool m k o) j ≡ opening_of m j
with_open m k o j e = ⊎_elim
    (λ (q : j ≡ k). rw (eq-eqb j k q) (e ∙ ap (opening_of m) (sym q)))
    (λ (q : j ≡ k → ⊥). rw (ne_eqb j k q) refl)
    (cases_eq j k)

side_open : (s : Side) (mine : Bool) (m m' : Meaning) (j : ℕ) → opening_of m' j ≡ opening_of m j → opening_of (by_side s m (cond mine m' m)) j ≡ opening_of m j
side_open Buy mine m m' j e = refl
side_open Sell true m m' j e = e
side_open Sell false m m' j e = refl

-- the same pools, opened with the same numbers
abbrev pub SameOpenings : Desk → Desk → Type 0
SameOpenings d d' = (holder : Holder) (j : ℕ) → opening_of (register_of d' holder) j ≡ opening_of (register_of d holder) j

end_open : (d : Desk) (n : ℕ) → SameOpenings d (after_end d n)
end_open d n holder j =
    let o = record_of d.book n in
    let m = register_of d holder in
    ap (λ x. opening_of x j) (changed o.side o.account (λ x. restored_for x o) d (after_end d n) refl refl holder) ∙
    side_open o.side (same_holder holder (holder_of o.account)) m (restored_for m o) j (with_open m o.pool (restored_in (m.pools o.pool) (remainder o)) j (restored_open (m.pools o.pool) (remainder o)))

reserve_open : (d : Desk) (a : Request) → SameOpenings d (after_reserve d a)
reserve_open d a holder j =
    let m = register_of d holder in
    let k = or_zero (found m a) in
    ap (λ x. opening_of x j) (changed a.side a.account (λ x. drawn_for x a) d (after_reserve d a) refl refl holder) ∙
    side_open a.side (same_holder holder (holder_of a.account)) m (drawn_for m a) j (with_open m k (drawn_in (m.pools k) a.shares) j (drawn_open (m.pools k) a.shares))

still_open : (d d' : Desk) → d'.participants ≡ d.participants → d'.accounts ≡ d.accounts → SameOpenings d d'
still_open d d' p a holder j = ap (λ x. opening_of x j) (both_same d d' p a holder)

call_open : (d : Desk) (c : Call) → SameOpenings d (accepted d c)
call_open d (reserve a) = reserve_open d a
call_open d (send pass) = still_open d (accepted d (send pass)) refl refl
call_open d (void pass) = end_open d pass.number
call_open d (trade n k price) = still_open d (accepted d (trade n k price)) refl refl
call_open d (give_back n) = end_open d n
call_open d (cancel n participant) = still_open d (accepted d (cancel n participant)) refl refl
call_open d (confirm n) = end_open d n
call_open d (decline n) = still_open d (accepted d (decline n)) refl refl
call_open d step = still_open d (accepted d step) refl refl
call_open d (notice code foreign total) = still_open d (accepted d (notice code foreign total)) refl refl

did_open : (r : Option Refusal) (d : Desk) (c : Call) → SameOpenings d (kept_or r d (accepted d c))
did_open None d c holder j = call_open d c holder j
did_open (Some e) d c holder j = refl

-- every pool opened with the number that it still has
pub ran_open : (start : Desk) {d : Desk} {cs : List Call} → Ran start d cs → SameOpenings start d
ran_open start no_call holder j = refl
ran_open start (one_more {d} {cs} d' c answer r did) holder j =
    ap (λ x. opening_of (register_of x holder) j) did.becomes ∙ did_open (refusal_of d c) d c holder j ∙ ran_open start r holder j
