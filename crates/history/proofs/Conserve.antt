-- The law holds in every history: by induction over its calls.
use Rattle.std.proofs.Common.{◌≡◌, ℕ, zero, suc, ◌+◌, ◌-◌, ◌*◌, ◌<◌, ◌≤◌, Bool, true, false, cond, not, ◌&&◌, ◌||◌, eqb, ltb, leb, List, [], ◌∷◌, ◌++◌, length, get_or, drop, set, ℤ, pos, ◌+ℤ◌, ◌-ℤ◌, ◌≤ℤ◌, Some, None, Option, sym, refl, ap, ◌∙◌, subst, ap₂, ⊎_elim, arith}
use lib.Signed.{le_z}
use Rattle.std.proofs.lemmas.List.{get_or_append_left, get_or_push, get_or-set_other, get_or-set_same, length_push, length-set, set-get_or}
use Rattle.std.proofs.lemmas.Int.{ints}
use Rattle.std.proofs.lemmas.Bool.{and_from, and_parts, both_ways, cases_eq, eqb-false, false≢true, leb-false, ltb-false, or_cases, or_left, or_parts, or_right}
use Rattle.rules.specs.declared.market.Market.{Market}
use Rattle.rules.specs.declared.phase.Phase.{Phase}
use Rattle.rules.specs.declared.refusal.Refusal.{Refusal}
use Rattle.rules.specs.declared.side.Side.{Side}
use Rattle.rules.specs.declared.side.Side.TheVariants.{Buy, Sell}
use Rattle.rules.specs.Phases.{phase_rules}
use Rattle.rules.specs.Rules.{first_broken, kept_or}
use Rattle.rules.specs.Sides.{by_side}
use Rattle.tables.specs.declared.rows.Security.{Security}
use Rattle.registers.specs.declared.pool.Pool.{Pool}
use Rattle.registers.specs.Meaning.{Fresh, FreshPool, Meaning}
use Rattle.orders.specs.declared.order.Request.{Request}
use Rattle.orders.specs.declared.order.Cancel.TheVariants.{Unasked, Asked}
use Rattle.orders.specs.declared.order.Order.{Order}
use Rattle.orders.specs.declared.order.State.{State}
use Rattle.orders.specs.declared.order.State.TheVariants.{Live}
use Rattle.orders.specs.Faults.{fill_faults}
use Rattle.orders.specs.Outcomes.{ended_by, filled_by, freed, raise}
use Rattle.orders.specs.Records.{held_order, no_order, remainder, with_state}
use Rattle.orders.proofs.Passed.{passed, passed_any}
use Rattle.orders.proofs.Sound.{fitting_from, trade_passed}
use Rattle.gate.specs.declared.figures.Figures.{Figures}
use Rattle.gate.specs.Balances.{low, most_orders, raised_by, settled_at}
use Rattle.gate.specs.Calls.{Call, accepted, accounts_restored, after_end, cancel, confirm, decline, give_back, notice, noticed_at, other_day, participants_restored, refusal_of, reserve, restated, restored_for, send, step, stepped, trade, void}
use Rattle.gate.specs.Desks.{Desk, by_account, desk, line_of, listed, no_record, record_of}
use Rattle.gate.specs.Opened.{opened}
use Rattle.gate.specs.Reserves.{after_reserve, request_rules, buy_rules, buying_rule, drawn_for, found, or_zero, pool_for, sell_rules, side_faults}
use Rattle.history.specs.History.{Balanced, BeenLow, Conserved, InEveryHistory, LowAfter, Ran, finding_of, no_call, noted, one_more, register_of}
use Rattle.history.specs.Tally.{Entry, Finding, Holder, Tally, accounts, at_entry, bought, buy_reserved, entry_for, figure, holder_of, in_pool, moved, no_entry, participants, pool_found, released, same_holder, shares_reserved, shares_sold, sold, sum_of, tallied, tally}
use Rattle.history.proofs.Openings.{ran_open}
use Rattle.history.proofs.Registers.{both_same, changed, changed_finding, end_pool, named, register_named, reserve_pool, same_finding, same_pool}
use Rattle.history.proofs.Sums.{cond_none, end_entry, figure_moved, reserve_figure, sum_push, sum_set, trade_entry}

-- the record of an order and its entry say the same
pub record Same (o : Order) (e : Entry) : Type 0 where
  pub side : e.side ≡ o.side
  pub limit : e.limit ≡ o.price
  pub holder : e.holder ≡ holder_of o.account
  pub pool : e.pool ≡ o.pool
  pub reserved : e.reserved ≡ remainder o

-- each of the day's orders has an entry that says the same
abbrev pub AllSame : ℕ → List Order → List Entry → Type 0
AllSame count book es = (i : ℕ) → i < count → Same (get_or book i no_order) (get_or es i no_entry)

-- the desk and the tally agree; whether the balance has been low is beside them
pub record Inv (finds : Finding) (quota : ℕ) (d : Desk) (t : Tally) (was : Bool) : Type 0 where
  pub entries : length t.entries ≡ d.figures.count
  pub room : d.figures.count ≤ length d.book
  pub same : AllSame d.figures.count d.book t.entries
  pub phase : d.figures.phase ≡ t.phase
  pub finding : finding_of d ≡ finds
  pub balance : d.figures.balance ≡ figure quota t.entries
  pub pools : (holder : Holder) (pool : ℕ) → Balanced ((register_of d holder).pools pool) (sum_of (shares_reserved holder pool) t.entries) (sum_of (shares_sold holder pool) t.entries)
  pub shut : d.figures.shut ≡ was

-- the same after one more accepted call
abbrev Next : Finding → ℕ → Desk → Tally → Bool → Type 0
Next finds quota d t was = Inv finds quota d t (was || low t.phase (figure quota t.entries))

shut_step : {a b : Bool} {p q : Phase} {y z : ℤ} → a ≡ b → p ≡ q → y ≡ z → (a || low p y) ≡ (b || low q z)
shut_step e f g = ap₂ ◌||◌ e (ap₂ low f g)

-- an order's number has a place in the book
record Placed (f : Figures) (book : List Order) (n : ℕ) : Type 0 where
  counted : n - 1 < f.count
  there : n - 1 < length book

placed : (f : Figures) (book : List Order) (n : ℕ) → no_record f book n ≡ false → Placed f book n
placed f book n e =
    let a = or_parts (eqb n 0) _ e in
    let b = or_parts (ltb f.count n) _ a.1 in
    let some : n ≡ 0 → ⊥ = eqb-false n 0 a.0 in
    let l : n ≤ f.count = ltb-false f.count n b.0 in
    let m : n ≤ length book = ltb-false (length book) n b.1 in
    record { counted = omega arith; there = omega arith }

-- a record and its entry changed
same_set : (book : List Order) (es : List Entry) (i n : ℕ) (o : Order) (e : Entry) → i < length book → i < length es → Same o e → AllSame n book es → AllSame n (set book i o) (set es i e)
same_set book es i n o e l m here rest j h = ⊎_elim
    (λ (q : j ≡ i). rw (q, get_or-set_same book i o no_order l, get_or-set_same es i e no_entry m) here)
    (λ (q : j ≡ i → ⊥). rw (get_or-set_other book i j o no_order q, get_or-set_other es i j e no_entry q) (rest j h))
    (cases_eq j i)

-- one more record and its entry
same_push : (book : List Order) (es : List Entry) (n : ℕ) (o : Order) (e : Entry) → n < length book → length es ≡ n → Same o e → AllSame n book es → AllSame (n + 1) (set book n o) (es ++ (e ∷ []))
same_push book es n o e l q here rest j h = ⊎_elim
    (λ (x : j ≡ n). rw (x, get_or-set_same book n o no_order l, get_or_push es e no_entry n q) here)
    (λ (x : j ≡ n → ⊥).
    let k : j < length es = omega arith in
    let k' : j < n = omega arith in
    rw (get_or-set_other book n j o no_order x, get_or_append_left es (e ∷ []) no_entry j k) (rest j k'))
    (cases_eq j n)

moved_cond : (b : Bool) (r t k : ℕ) → k ≤ r → cond b r 0 + cond b t 0 ≡ cond b (r - k) 0 + cond b (t + k) 0
moved_cond true r t k h = omega arith
moved_cond false r t k h = refl

-- reserved and sold shares of a pool together, after k shares of one entry moved
moved_sums : (holder : Holder) (j : ℕ) (es : List Entry) (i k price : ℕ) → i < length es → k ≤ (get_or es i no_entry).reserved → sum_of (shares_reserved holder j) es + sum_of (shares_sold holder j) es ≡ sum_of (shares_reserved holder j) (set es i (moved (get_or es i no_entry) k price)) + sum_of (shares_sold holder j) (set es i (moved (get_or es i no_entry) k price))
moved_sums holder j es i k price l h =
    let e = get_or es i no_entry in
    let a = sum_set (shares_reserved holder j) es i (moved e k price) no_entry l in
    let b = sum_set (shares_sold holder j) es i (moved e k price) no_entry l in
    let c = moved_cond (in_pool holder j e) e.reserved e.traded k h in
    omega arith

-- reserved shares of a pool after one entry let go of its own
released_reserved : (holder : Holder) (j : ℕ) (es : List Entry) (i : ℕ) (o : Order) → i < length es → Same o (get_or es i no_entry) → sum_of (shares_reserved holder j) (set es i (released (get_or es i no_entry))) + cond (by_side o.side false (same_holder holder (holder_of o.account) && eqb j o.pool)) (remainder o) 0 ≡ sum_of (shares_reserved holder j) es
released_reserved holder j es i o l here =
    let e = get_or es i no_entry in
    let a = sum_set (shares_reserved holder j) es i (released e) no_entry l in
    let none = cond_none (in_pool holder j e) in
    let c : cond (by_side o.side false (same_holder holder (holder_of o.account) && eqb j o.pool)) (remainder o) 0 ≡ shares_reserved holder j e = rw (here.side, here.holder, here.pool, here.reserved) refl in
    omega arith

-- sold shares of a pool after one entry let go of its own
released_sold : (holder : Holder) (j : ℕ) (es : List Entry) (i : ℕ) → i < length es → sum_of (shares_sold holder j) (set es i (released (get_or es i no_entry))) ≡ sum_of (shares_sold holder j) es
released_sold holder j es i l =
    let a = sum_set (shares_sold holder j) es i (released (get_or es i no_entry)) no_entry l in
    omega arith

rules_part : (s : Side) (x y : List (Option Refusal)) → first_broken (by_side s x y) ≡ None → by_side s (Unit {0}) (first_broken y ≡ None)
rules_part Buy x y h = tt
rules_part Sell x y h = h

asked_room : (f : Figures) (security : Option Security) (room : ℕ) (a : Request) → first_broken (request_rules f security room a) ≡ None → f.count < room
asked_room f security room a h =
    let r1 = passed (not (phase_rules f.phase).orders) _ _ h in
    let r2 = passed (leb room f.count || leb most_orders f.count) _ _ r1.1 in
    leb-false room f.count (or_parts (leb room f.count) _ r2.0).0

-- the entry of an order's number
abbrev entry_at : Tally → ℕ → Entry
entry_at t n = get_or t.entries (n - 1) no_entry

-- the desk where the record of an order's number is another, the balance has risen, and the registers are these
abbrev with_record : Desk → ℕ → Order → ℕ → Meaning → Meaning → Desk
with_record d n o by p a = desk (raised_by d.figures by) d.list p a (set d.book (n - 1) o)

module _ (finds : Finding) (quota : ℕ) where
  -- nothing changes but the phase, the list and the records' states
  inv_still : (d : Desk) (t : Tally) (was : Bool) (phase phase' : Phase) (list : List Security) (book : List Order) → Inv finds quota d t was → phase ≡ phase' → length book ≡ length d.book → AllSame d.figures.count book t.entries → Next finds quota (desk (settled_at d.figures d.figures.balance phase d.figures.count) list d.participants d.accounts book) (record { phase = phase'; entries = t.entries }) was
  inv_still d t was phase phase' list book v p l s =
      let d' = desk (settled_at d.figures d.figures.balance phase d.figures.count) list d.participants d.accounts book in
      let as_it_was = both_same d d' refl refl in
      record {
        entries = v.entries;
        room = rw l v.room;
        same = s;
        phase = p;
        finding = same_finding d d' as_it_was ∙ v.finding;
        balance = v.balance;
        pools = λ holder j. same_pool d d' as_it_was holder j _ _ _ _ refl (v.pools holder j);
        shut = shut_step v.shut p v.balance;
      }

  inv_restated : (d : Desk) (t : Tally) (was : Bool) (n : ℕ) (state : State) → Inv finds quota d t was → no_record d.figures d.book n ≡ false → Next finds quota (restated d n state) t was
  inv_restated d t was n state v h =
      let at_n = placed d.figures d.book n h in
      let o = record_of d.book n in
      let here : Same o (entry_at t n) = v.same (n - 1) at_n.counted in
      let m : n - 1 < length t.entries = rw v.entries at_n.counted in
      let s = same_set d.book t.entries (n - 1) d.figures.count (with_state o state) (entry_at t n) at_n.there m (record { side = here.side; limit = here.limit; holder = here.holder; pool = here.pool; reserved = here.reserved }) v.same in
      inv_still d t was d.figures.phase t.phase d.list (set d.book (n - 1) (with_state o state)) v v.phase (length-set d.book (n - 1) (with_state o state)) (rw (set-get_or t.entries (n - 1) no_entry) at s)

  -- one record and its entry change, and the balance rises by what that sets free
  inv_rewritten : (d : Desk) (t : Tally) (was : Bool) (n by : ℕ) (o : Order) (p a : Meaning) (change : Entry → Entry) → Inv finds quota d t was → Placed d.figures d.book n → Same o (change (entry_at t n)) → by + buy_reserved (change (entry_at t n)) + bought (change (entry_at t n)) + sold (entry_at t n) ≡ buy_reserved (entry_at t n) + bought (entry_at t n) + sold (change (entry_at t n)) → finding_of (with_record d n o by p a) ≡ finding_of d → ((holder : Holder) (j : ℕ) → Balanced ((register_of (with_record d n o by p a) holder).pools j) (sum_of (shares_reserved holder j) (at_entry n change t).entries) (sum_of (shares_sold holder j) (at_entry n change t).entries)) → Next finds quota (with_record d n o by p a) (at_entry n change t) was
  inv_rewritten d t was n by o p a change v at_n here free finding pools =
      let es = t.entries in
      let e = entry_at t n in
      let new = change e in
      let es' = set es (n - 1) new in
      let m : n - 1 < length es = rw v.entries at_n.counted in
      let balance : d.figures.balance +ℤ pos by ≡ figure quota es' = figure_moved quota (sum_of buy_reserved es) (sum_of bought es) (sum_of sold es) (sum_of buy_reserved es') (sum_of bought es') (sum_of sold es') (buy_reserved e) (bought e) (sold e) (buy_reserved new) (bought new) (sold new) by d.figures.balance v.balance (sum_set buy_reserved es (n - 1) new no_entry m) (sum_set bought es (n - 1) new no_entry m) (sum_set sold es (n - 1) new no_entry m) free in
      record {
        entries = length-set es (n - 1) new ∙ v.entries;
        room = rw (length-set d.book (n - 1) o) v.room;
        same = same_set d.book es (n - 1) d.figures.count o new at_n.there m here v.same;
        phase = v.phase;
        finding = finding ∙ v.finding;
        balance = balance;
        pools = pools;
        shut = shut_step v.shut v.phase balance;
      }

  inv_trade : (d : Desk) (t : Tally) (was : Bool) (n k price : ℕ) → Inv finds quota d t was → refusal_of d (trade n k price) ≡ None → Next finds quota (accepted d (trade n k price)) (tallied finds (trade n k price) t) was
  inv_trade d t was n k price v h =
      let o = record_of d.book n in
      let e = entry_at t n in
      let d' = accepted d (trade n k price) in
      let first = passed (no_record d.figures d.book n) _ _ h in
      let rest = passed_any (first_broken (fill_faults o k price)) _ first.1 in
      let at_n = placed d.figures d.book n first.0 in
      let fill = fitting_from o k price (trade_passed o k price rest.0).fit in
      let here : Same o e = v.same (n - 1) at_n.counted in
      let m : n - 1 < length t.entries = rw v.entries at_n.counted in
      let enough : k ≤ e.reserved = rw here.reserved fill.enough in
      let one = trade_entry e.side e.limit e.reserved k price e.worth enough (rw (here.side, here.limit) fill.side) in
      let raised : raise o k price ≡ by_side e.side ((e.limit - price) * k) (price * k) = rw (here.side, here.limit) refl in
      let as_it_was = both_same d d' refl refl in
      inv_rewritten d t was n (raise o k price) (filled_by o k price) d.participants d.accounts (λ x. moved x k price) v at_n
      (record { side = here.side; limit = here.limit; holder = here.holder; pool = here.pool; reserved = omega (arith, here.reserved) })
      (subst (λ x. x + buy_reserved (moved e k price) + bought (moved e k price) + sold e ≡ buy_reserved e + bought e + sold (moved e k price)) (sym raised) one)
      (same_finding d d' as_it_was)
      (λ holder j. same_pool d d' as_it_was holder j _ _ _ _ (moved_sums holder j t.entries (n - 1) k price m enough) (v.pools holder j))

  inv_ended : (d : Desk) (t : Tally) (was : Bool) (n : ℕ) → Inv finds quota d t was → no_record d.figures d.book n ≡ false → Next finds quota (after_end d n) (at_entry n released t) was
  inv_ended d t was n v h =
      let o = record_of d.book n in
      let e = entry_at t n in
      let at_n = placed d.figures d.book n h in
      let here : Same o e = v.same (n - 1) at_n.counted in
      let m : n - 1 < length t.entries = rw v.entries at_n.counted in
      let given : freed o ≡ buy_reserved e = rw (here.side, here.limit, here.reserved) refl in
      let change = changed o.side o.account (λ x. restored_for x o) d (after_end d n) refl refl in
      inv_rewritten d t was n (freed o) (ended_by o) (participants_restored d.participants o) (accounts_restored d.accounts o) released v at_n
      (record { side = here.side; limit = here.limit; holder = here.holder; pool = here.pool; reserved = omega arith })
      (subst (λ x. x + buy_reserved (released e) + bought (released e) + sold e ≡ buy_reserved e + bought e + sold (released e)) (sym given) (end_entry e.side e.limit e.reserved e.worth))
      (changed_finding o.side o.account (λ x. restored_for x o) d (after_end d n) change (λ x. refl))
      (λ holder j. subst (λ x. Balanced (x.pools j) (sum_of (shares_reserved holder j) (at_entry n released t).entries) (sum_of (shares_sold holder j) (at_entry n released t).entries)) (sym (change holder)) (end_pool o.side (same_holder holder (holder_of o.account)) (register_of d holder) o.pool (remainder o) j _ _ _ _ (released_reserved holder j t.entries (n - 1) o m here) (released_sold holder j t.entries (n - 1) m) (v.pools holder j)))

  inv_reserve : (d : Desk) (t : Tally) (was : Bool) (a : Request) → Inv finds quota d t was → refusal_of d (reserve a) ≡ None → Next finds quota (after_reserve d a) (tallied finds (reserve a) t) was
  inv_reserve d t was a v h =
      let f = d.figures in
      let es = t.entries in
      let e = entry_for finds a in
      let es' = es ++ (e ∷ []) in
      let security = line_of d.list a.code in
      let its = by_account a.account d.participants d.accounts in
      let o = held_order a (pool_for its a) in
      let rules = passed_any (first_broken (request_rules f security (length d.book) a)) _ h in
      let sides = passed_any (first_broken (side_faults f security d.participants d.accounts a)) None rules.1 in
      let room = asked_room f security (length d.book) a rules.0 in
      let sells = rules_part a.side (buy_rules f security a) (sell_rules its a) sides.0 in
      let pool : e.pool ≡ pool_for its a = ap (λ x. pool_found x a) (sym v.finding) ∙ ap (λ x. by_side a.side 0 (or_zero (found x a))) (sym (register_named (eqb a.account 0) d)) in
      let here : Same o e = record { side = refl; limit = refl; holder = refl; pool = pool; reserved = omega arith } in
      let change = changed a.side a.account (λ x. drawn_for x a) d (after_reserve d a) refl refl in
      let balance : by_side a.side (f.balance -ℤ pos (a.price * a.shares)) f.balance ≡ figure quota es' = reserve_figure a.side quota (sum_of buy_reserved es) (sum_of bought es) (sum_of sold es) (sum_of buy_reserved es') (sum_of bought es') (sum_of sold es') (a.price * a.shares) f.balance v.balance (sum_push buy_reserved es e) (sum_push bought es e) (sum_push sold es e) in
      record {
        entries = length_push es e ∙ ap (λ x. x + 1) v.entries;
        room = rw (length-set d.book f.count o) (omega arith);
        same = same_push d.book es f.count o e room v.entries here v.same;
        phase = v.phase;
        finding = changed_finding a.side a.account (λ x. drawn_for x a) d (after_reserve d a) change (λ x. refl) ∙ v.finding;
        balance = balance;
        pools = λ holder j. subst (λ x. Balanced (x.pools j) (sum_of (shares_reserved holder j) es') (sum_of (shares_sold holder j) es')) (sym (change holder)) (reserve_pool a.side (same_holder holder (holder_of a.account)) (register_of d holder) its a e.pool j _ _ _ _ (named (eqb a.account 0) d holder) sells pool (sum_push (shares_reserved holder j) es e) (sum_push (shares_sold holder j) es e) (v.pools holder j));
        shut = shut_step v.shut v.phase balance;
      }

  inv_call : (d : Desk) (t : Tally) (was : Bool) (c : Call) → Inv finds quota d t was → refusal_of d c ≡ None → Next finds quota (accepted d c) (tallied finds c t) was
  inv_call d t was (reserve a) v h = inv_reserve d t was a v h
  inv_call d t was (send pass) v h = inv_restated d t was pass.number (Live Unasked) v (passed (no_record d.figures d.book pass.number) _ _ (passed (other_day d.figures pass) _ _ h).1).0
  inv_call d t was (void pass) v h = inv_ended d t was pass.number v (passed (no_record d.figures d.book pass.number) _ _ (passed (other_day d.figures pass) _ _ h).1).0
  inv_call d t was (trade n k price) v h = inv_trade d t was n k price v h
  inv_call d t was (give_back n) v h = inv_ended d t was n v (passed (no_record d.figures d.book n) _ _ h).0
  inv_call d t was (cancel n participant) v h = inv_restated d t was n (Live Asked) v (passed (no_record d.figures d.book n) _ _ h).0
  inv_call d t was (confirm n) v h = inv_ended d t was n v (passed (no_record d.figures d.book n) _ _ h).0
  inv_call d t was (decline n) v h = inv_restated d t was n (Live Unasked) v (passed (no_record d.figures d.book n) _ _ h).0
  inv_call d t was step v h = inv_still d t was (stepped d.figures.phase) (stepped t.phase) d.list d.book v (ap stepped v.phase) refl v.same
  inv_call d t was (notice code foreign total) v h = inv_still d t was d.figures.phase t.phase (noticed_at d.list (listed d.list code) foreign total) d.book v v.phase refl v.same

-- whether the figure has been low at some moment
abbrev been_low : Finding → ℕ → List Call → Bool
been_low finds quota [] = false
been_low finds quota (c ∷ cs) = been_low finds quota cs || low (tally finds (c ∷ cs)).phase (figure quota (tally finds (c ∷ cs)).entries)

-- desk and tally agree after the accepted calls
abbrev pub Holds : Finding → ℕ → List Call → Desk → Type 0
Holds finds quota cs d = Inv finds quota d (tally finds cs) (been_low finds quota cs)

-- one call more, accepted or refused
holds_did : (finds : Finding) (quota : ℕ) (d d' : Desk) (c : Call) (answer : Option Refusal) (cs : List Call) → Holds finds quota cs d → answer ≡ refusal_of d c → d' ≡ kept_or answer d (accepted d c) → Holds finds quota (noted answer c cs) d'
holds_did finds quota d d' c None cs v q e = subst (Holds finds quota (c ∷ cs)) (sym e) (inv_call finds quota d (tally finds cs) (been_low finds quota cs) c v (sym q))
holds_did finds quota d d' c (Some x) cs v q e = subst (Holds finds quota cs) (sym e) v

holds_ran : (finds : Finding) (quota : ℕ) (d₀ : Desk) {d : Desk} {cs : List Call} → Holds finds quota [] d₀ → Ran d₀ d cs → Holds finds quota cs d
holds_ran finds quota d₀ v no_call = v
holds_ran finds quota d₀ v (one_more {d} {cs} d' c answer r did) = holds_did finds quota d d' c answer cs (holds_ran finds quota d₀ v r) did.answers (did.becomes ∙ ap (λ x. kept_or x d (accepted d c)) (sym did.answers))

fresh_balanced : (o : Option Pool) → FreshPool o → Balanced o 0 0
fresh_balanced (Some p) e = omega arith
fresh_balanced None e = (refl, refl)

each_fresh : (market : Market) (date quota : ℕ) (list : List Security) (p a : Meaning) (book : List Order) → Fresh p → Fresh a → (holder : Holder) (j : ℕ) → Balanced ((register_of (desk (opened market date quota) list p a book) holder).pools j) 0 0
each_fresh market date quota list p a book fp fa participants j = fresh_balanced (p.pools j) (fp j)
each_fresh market date quota list p a book fp fa accounts j = fresh_balanced (a.pools j) (fa j)

-- desk and tally agree in every history
pub agree : (d : Desk) → InEveryHistory (λ start. Holds (finding_of start)) d
agree d market date quota list p a book fp fa cs r =
    let d₀ = desk (opened market date quota) list p a book in
    let start : Holds (finding_of d₀) quota [] d₀ = record {
      entries = refl;
      room = omega arith;
      same = λ i h. absurd (omega arith);
      phase = refl;
      finding = refl;
      balance = omega (arith, ints);
      pools = each_fresh market date quota list p a book fp fa;
      shut = refl;
    } in
    holds_ran (finding_of d₀) quota d₀ start r

no_buy_when_shut : (d : Desk) (a : Request) → d.figures.shut ≡ true → a.side ≡ Buy → refusal_of d (reserve a) ≡ None → ⊥
no_buy_when_shut d a shut buy h =
    let f = d.figures in
    let security = line_of d.list a.code in
    let rules = passed_any (first_broken (request_rules f security (length d.book) a)) _ h in
    let sides = passed_any (first_broken (side_faults f security d.participants d.accounts a)) None rules.1 in
    let buys : first_broken (buy_rules f security a) ≡ None = rw buy at sides.0 in
    let unnamed = passed (not (eqb a.account 0)) _ _ buys in
    let may = passed_any (buying_rule security) _ unnamed.1 in
    let left = passed (f.shut || le_z f.balance (pos 0)) _ None may.1 in
    both_ways f.shut (or_parts f.shut _ left.0).0 shut

le_from : (z : ℤ) → le_z z (pos 0) ≡ true → z ≤ℤ pos 0
le_from z e = grind (arith, ints)

le_to : (z : ℤ) → z ≤ℤ pos 0 → le_z z (pos 0) ≡ true
le_to z e = grind (arith, ints)

been_from : (finds : Finding) (quota : ℕ) (cs : List Call) → been_low finds quota cs ≡ true → BeenLow finds quota cs
been_from finds quota [] e = absurd (false≢true e)
been_from finds quota (c ∷ cs) e = ⊎_elim
    (λ (h : been_low finds quota cs ≡ true). let r = been_from finds quota cs h in (suc r.0, omega (arith, r.1), r.2))
    (λ (h : low (tally finds (c ∷ cs)).phase (figure quota (tally finds (c ∷ cs)).entries) ≡ true).
    let a = and_parts (phase_rules (tally finds (c ∷ cs)).phase).shuts _ h in
    (0, omega arith, (a.0, le_from _ a.1)))
    (or_cases (been_low finds quota cs) _ e)

been_to : (finds : Finding) (quota : ℕ) (cs : List Call) (k : ℕ) → k < length cs → LowAfter finds quota (drop k cs) → been_low finds quota cs ≡ true
been_to finds quota [] k l h = absurd (omega arith)
been_to finds quota (c ∷ cs) zero l h = or_right (been_low finds quota cs) _ (and_from (phase_rules (tally finds (c ∷ cs)).phase).shuts _ h.0 (le_to (figure quota (tally finds (c ∷ cs)).entries) h.1))
been_to finds quota (c ∷ cs) (suc k) l h = or_left (been_low finds quota cs) _ (been_to finds quota cs k (omega arith) h)

pub conserved : Conserved
conserved d market date quota list p a book fp fa cs r =
    let finds = finding_of (desk (opened market date quota) list p a book) in
    let v = agree d market date quota list p a book fp fa cs r in
    record {
      balance = v.balance;
      phase = v.phase;
      orders = sym v.entries;
      openings = ran_open (desk (opened market date quota) list p a book) r;
      pools = v.pools;
      shut_since = λ e. been_from finds quota cs (sym v.shut ∙ e);
      since_shut = λ h. v.shut ∙ been_to finds quota cs h.0 h.1 h.2;
      no_buy = λ shut x buy e. no_buy_when_shut d x shut buy e;
    }
