-- What a call does to the pools of the registers.
use Rattle.std.proofs.Common.{◌≡◌, ℕ, ◌+◌, Bool, true, false, cond, ◌&&◌, eqb, leb, Some, None, Ok, Err, Option, Result, sym, refl, ap, ◌∙◌, subst, ⊎_elim, arith}
use mathlib.Core.Path.{fun_ext}
use Rattle.std.proofs.lemmas.Bool.{cases_eq, eq-eqb, ne_eqb, false≢true, leb-true}
use Rattle.rules.specs.declared.refusal.Refusal.{Refusal}
use Rattle.rules.specs.declared.refusal.Refusal.TheVariants.{ShortBalance}
use Rattle.rules.specs.declared.side.Side.{Side}
use Rattle.rules.specs.declared.side.Side.TheVariants.{Buy, Sell}
use Rattle.rules.specs.Rules.{first_broken, refusal_in}
use Rattle.rules.specs.Sides.{by_side}
use Rattle.registers.specs.declared.pool.Pool.{Pool}
use Rattle.registers.specs.Meaning.{Meaning, draw_answer, draw_in, drawn, drawn_in, restored, restored_in}
use Rattle.orders.specs.declared.order.Request.{Request}
use Rattle.orders.proofs.Passed.{passed_any}
use Rattle.gate.specs.Desks.{Desk, by_account}
use Rattle.gate.specs.Reserves.{draw_rule, drawn_for, found, or_zero, sell_rules}
use Rattle.history.specs.History.{Balanced, finding_of, register_of}
use Rattle.history.specs.Shares.{SameShares}
use Rattle.history.specs.Tally.{Holder, accounts, holder_of, participants, same_holder}
use Rattle.history.proofs.Sums.{cond_none}

-- shares that are no longer reserved but sold leave a pool balanced
pub balanced_move : (o : Option Pool) (R T R' T' : ℕ) → R + T ≡ R' + T' → Balanced o R T → Balanced o R' T'
balanced_move (Some p) R T R' T' e h = omega arith
balanced_move None R T R' T' e h = (omega (arith, h.0, h.1), omega (arith, h.0, h.1))

tested : (b : Bool) (e : Refusal) → refusal_in {X = Unit {0}} (cond b (Ok tt) (Err e)) ≡ None → b ≡ true
tested true e h = refl
tested false e h = let z : ◌≡◌ {A = ℕ} 0 1 = cc in absurd (omega arith)

drawn_pool : (o : Option Pool) (n R T : ℕ) → refusal_in (draw_in o n) ≡ None → Balanced o R T → Balanced (drawn_in o n) (R + n) T
drawn_pool (Some p) n R T h e =
    let l = leb-true n p.sellable (tested (leb n p.sellable) ShortBalance h) in
    omega arith
drawn_pool None n R T h e = let z : ◌≡◌ {A = ℕ} 0 1 = cc in absurd (omega arith)

restored_pool : (o : Option Pool) (n R R' T : ℕ) → R' + n ≡ R → Balanced o R T → Balanced (restored_in o n) R' T
restored_pool (Some p) n R R' T q e = omega arith
restored_pool None n R R' T q e = (omega (arith, e.0), e.1)

-- the pool j after n shares were drawn from the pool k
drawn_at : (m : Meaning) (k n j R T : ℕ) → refusal_in (draw_answer m k n) ≡ None → Balanced (m.pools j) R T → Balanced ((drawn m k n).pools j) (R + cond (eqb j k) n 0) T
drawn_at m k n j R T h e = ⊎_elim
    (λ (q : j ≡ k). rw (eq-eqb j k q) (drawn_pool (m.pools k) n R T h (rw (← q) e)))
    (λ (q : j ≡ k → ⊥). rw (ne_eqb j k q) (balanced_move (m.pools j) R T (R + 0) T (omega arith) e))
    (cases_eq j k)

-- the pool j after n shares went back to the pool k
restored_at : (m : Meaning) (k n j R R' T : ℕ) → R' + cond (eqb j k) n 0 ≡ R → Balanced (m.pools j) R T → Balanced ((restored m k n).pools j) R' T
restored_at m k n j R R' T r e = ⊎_elim
    (λ (q : j ≡ k). rw (eq-eqb j k q) (restored_pool (m.pools k) n R R' T (rw (eq-eqb j k q) at r) (rw (← q) e)))
    (λ (q : j ≡ k → ⊥).
    let r' : R' + 0 ≡ R = rw (ne_eqb j k q) at r in
    rw (ne_eqb j k q) (balanced_move (m.pools j) R T R' T (omega arith) e))
    (cases_eq j k)

drawing_ok : (m : Meaning) (r : Result ℕ Refusal) (n : ℕ) → refusal_in r ≡ None → draw_rule m r n ≡ None → refusal_in (draw_answer m (or_zero r) n) ≡ None
drawing_ok m (Ok k) n h e = e
drawing_ok m (Err x) n h e = let z : ◌≡◌ {A = ℕ} 0 1 = cc in absurd (omega arith)

sell_ok : (m : Meaning) (a : Request) → first_broken (sell_rules m a) ≡ None → refusal_in (draw_answer m (or_zero (found m a)) a.shares) ≡ None
sell_ok m a h =
    let x = passed_any (refusal_in (found m a)) _ h in
    let y = passed_any (draw_rule m (found m a) a.shares) None x.1 in
    drawing_ok m (found m a) a.shares x.0 y.0

sell_drawn : (m : Meaning) (a : Request) (k j R T R' T' : ℕ) → first_broken (sell_rules m a) ≡ None → k ≡ or_zero (found m a) → R' ≡ R + cond (eqb j k) a.shares 0 → T' ≡ T + cond (eqb j k) 0 0 → Balanced (m.pools j) R T → Balanced ((drawn_for m a).pools j) R' T'
sell_drawn m a k j R T R' T' ok q r t e =
    let none = cond_none (eqb j k) in
    let r' : R' ≡ R + cond (eqb j (or_zero (found m a))) a.shares 0 = rw q at r in
    balanced_move ((drawn_for m a).pools j) (R + cond (eqb j (or_zero (found m a))) a.shares 0) T R' T' (omega arith) (drawn_at m (or_zero (found m a)) a.shares j R T (sell_ok m a ok) e)

-- A pool of a register after an accepted request whose entry has the pool k: the request is over its register, which may be this one.
pub reserve_pool : (s : Side) (mine : Bool) (m its : Meaning) (a : Request) (k j R T R' T' : ℕ) → (mine ≡ true → its ≡ m) → by_side s (Unit {0}) (first_broken (sell_rules its a) ≡ None) → k ≡ by_side s 0 (or_zero (found its a)) → R' ≡ R + cond (by_side s false (mine && eqb j k)) a.shares 0 → T' ≡ T + cond (by_side s false (mine && eqb j k)) 0 0 → Balanced (m.pools j) R T → Balanced ((by_side s m (cond mine (drawn_for m a) m)).pools j) R' T'
reserve_pool Buy mine m its a k j R T R' T' same ok q r t e = balanced_move (m.pools j) R T R' T' (omega arith) e
reserve_pool Sell true m its a k j R T R' T' same ok q r t e =
    sell_drawn m a k j R T R' T' (subst (λ x. first_broken (sell_rules x a) ≡ None) (same refl) ok) (q ∙ ap (λ x. or_zero (found x a)) (same refl)) r t e
reserve_pool Sell false m its a k j R T R' T' same ok q r t e = balanced_move (m.pools j) R T R' T' (omega arith) e

-- A pool of a register after n shares of a sell went back to the pool k of its register, which may be this one.
pub end_pool : (s : Side) (mine : Bool) (m : Meaning) (k n j R T R' T' : ℕ) → R' + cond (by_side s false (mine && eqb j k)) n 0 ≡ R → T' ≡ T → Balanced (m.pools j) R T → Balanced ((by_side s m (cond mine (restored m k n) m)).pools j) R' T'
end_pool Buy mine m k n j R T R' T' r t e = balanced_move (m.pools j) R T R' T' (omega arith) e
end_pool Sell true m k n j R T R' T' r t e = balanced_move ((restored m k n).pools j) R' T R' T' (omega arith) (restored_at m k n j R R' T r e)
end_pool Sell false m k n j R T R' T' r t e = balanced_move (m.pools j) R T R' T' (omega arith) e

-- the register of the holder that is named
pub register_named : (b : Bool) (d : Desk) → cond b d.participants d.accounts ≡ register_of d (cond b participants accounts)
register_named true d = refl
register_named false d = refl

-- a holder that is the one named has the register that is named
pub named : (b : Bool) (d : Desk) (holder : Holder) → same_holder holder (cond b participants accounts) ≡ true → cond b d.participants d.accounts ≡ register_of d holder
named true d participants e = refl
named false d participants e = absurd (false≢true e)
named true d accounts e = absurd (false≢true e)
named false d accounts e = refl

-- both registers are as they were
pub both_same : (d d' : Desk) → d'.participants ≡ d.participants → d'.accounts ≡ d.accounts → SameShares d d'
both_same d d' p a participants = p
both_same d d' p a accounts = a

-- in each register the same has been done, where it is the one that a sell names, and else nothing
abbrev pub Changed : Side → ℕ → (Meaning → Meaning) → Desk → Desk → Type 0
Changed s account f d d' = (holder : Holder) → register_of d' holder ≡ by_side s (register_of d holder) (cond (same_holder holder (holder_of account)) (f (register_of d holder)) (register_of d holder))

changed_at : (s : Side) (b : Bool) (f : Meaning → Meaning) (d d' : Desk) (holder : Holder) → d'.participants ≡ by_side s d.participants (cond b (f d.participants) d.participants) → d'.accounts ≡ by_side s d.accounts (cond b d.accounts (f d.accounts)) → register_of d' holder ≡ by_side s (register_of d holder) (cond (same_holder holder (cond b participants accounts)) (f (register_of d holder)) (register_of d holder))
changed_at Buy b f d d' participants p a = p
changed_at Buy b f d d' accounts p a = a
changed_at Sell true f d d' participants p a = p
changed_at Sell true f d d' accounts p a = a
changed_at Sell false f d d' participants p a = p
changed_at Sell false f d d' accounts p a = a

pub changed : (s : Side) (account : ℕ) (f : Meaning → Meaning) (d d' : Desk) → d'.participants ≡ by_side s d.participants (by_account account (f d.participants) d.participants) → d'.accounts ≡ by_side s d.accounts (by_account account d.accounts (f d.accounts)) → Changed s account f d d'
changed s account f d d' p a holder = changed_at s (eqb account 0) f d d' holder p a

finds_kept : (s : Side) (mine : Bool) (m m' : Meaning) → m'.finds ≡ m.finds → (by_side s m (cond mine m' m)).finds ≡ m.finds
finds_kept Buy mine m m' e = refl
finds_kept Sell true m m' e = e
finds_kept Sell false m m' e = refl

-- what leaves a register's finding rule leaves them all
pub changed_finding : (s : Side) (account : ℕ) (f : Meaning → Meaning) (d d' : Desk) → Changed s account f d d' → ((m : Meaning) → (f m).finds ≡ m.finds) → finding_of d' ≡ finding_of d
changed_finding s account f d d' c k = fun_ext (λ holder. ap (λ m. m.finds) (c holder) ∙ finds_kept s (same_holder holder (holder_of account)) (register_of d holder) (f (register_of d holder)) (k (register_of d holder)))

pub same_finding : (d d' : Desk) → SameShares d d' → finding_of d' ≡ finding_of d
same_finding d d' s = fun_ext (λ holder. ap (λ m. m.finds) (s holder))

-- a pool of a register that is as it was
pub same_pool : (d d' : Desk) → SameShares d d' → (holder : Holder) (j R T R' T' : ℕ) → R + T ≡ R' + T' → Balanced ((register_of d holder).pools j) R T → Balanced ((register_of d' holder).pools j) R' T'
same_pool d d' s holder j R T R' T' e b = subst (λ m. Balanced (m.pools j) R' T') (sym (s holder)) (balanced_move ((register_of d holder).pools j) R T R' T' e b)
