-- Lines that may follow one another are lines whose keys rise.
use Rattle.std.proofs.Common.{◌≡◌, ℕ, ◌+◌, ◌<◌, ◌≤◌, Bool, true, false, cond, eqb, ltb, List, [], ◌∷◌, map, Some, None, Ok, Err, Option, Ordering, sym, refl, ap, ◌∙◌, subst, ⊎_elim, arith}
use Rattle.std.specs.List.{AllByRecursion}
use Rattle.std.proofs.lemmas.Bool.{and_parts, cases_eq, eq-eqb, ne_eqb, lt-ltb}
use Rattle.std.proofs.lemmas.Bool.Decides.{nat_tests}
use Rattle.rules.specs.declared.refusal.Refusal.TheVariants as refusal
use Rattle.lookup.specs.declared.key.Pair.{Pair}
use Rattle.tables.specs.declared.rows.Designation.{Designation}
use Rattle.lookup.specs.Lookup.{is_above, rise_from}
use Rattle.lookup.specs.Orders.{pair_order}
use Rattle.tables.specs.Rows.{pair, designation_present, designation_key}
use Rattle.fields.specs.declared.fault.FieldFault.{FieldFault}
use Rattle.fields.specs.Faults.{and_then}
use Rattle.fields.proofs.Numbers.{by_then}
use Rattle.dayfile.specs.declared.run.Run.{Run}
use Rattle.dayfile.specs.Groups.{Kind}
use Rattle.dayfile.specs.Kinds.{above, naming, named_next, designation_kind, most_named}
use Rattle.dayfile.specs.Description.{named_by}
use Rattle.dayfile.proofs.Written.{Steps}

above_ok : {K : Type 0} (b : Bool) (k : K) (f : FieldFault) (t : Option K) → cond b (Ok (Some k)) (Err f) ≡ Ok t → (b ≡ true) × (t ≡ Some k)
above_ok true k f t e = (refl, let q : t ≡ Some k = cc in q)
above_ok false k f t e = cc

-- a kind whose lines only have to rise
module _ {R K : Type 0} (kind : Kind R (Option K)) (order : K → K → Ordering) (named : R → Option K) (key : R → K) (Good : R → Type 0) (has : (x : R) → Good x → named x ≡ Some (key x)) (is : (last : Option K) (x : R) → kind.step last x ≡ above order last (key x)) where
  pub steps_rise : (rows : List R) (last : Option K) → AllByRecursion Good rows → Steps kind last rows → rise_from order last (map named rows) ≡ true
  steps_rise [] last a s = refl
  steps_rise (x ∷ xs) last a s =
      let u = above_ok (is_above order last (key x)) (key x) (record { cause = refusal.Sequence; column = 1 }) s.0 (sym (is last x) ∙ s.1) in
      let more = steps_rise xs (Some (key x)) a.1 (subst (λ t. Steps kind t xs) u.1 s.2) in
      ap (λ o. rise_from order last (o ∷ map named xs)) (has x a.0) ∙ rw u.0 more

  pub rise_steps : (rows : List R) (last : Option K) → AllByRecursion Good rows → rise_from order last (map named rows) ≡ true → Steps kind last rows
  rise_steps [] last a r = tt
  rise_steps (x ∷ xs) last a r =
      let b = and_parts (is_above order last (key x)) (rise_from order (Some (key x)) (map named xs)) (sym (ap (λ o. rise_from order last (o ∷ map named xs)) (has x a.0)) ∙ r) in (
        Some (key x),
        is last x ∙ ap (λ c. cond c (Ok (Some (key x))) (Err (record { cause = refusal.Sequence; column = 1 }))) b.0,
        rise_steps xs (Some (key x)) a.1 b.1,
      )

-- designations: the account's run counts what it has named

abbrev key : Designation → Pair
key d = pair d.account d.participant

abbrev last_of : Option Run → Option Pair
last_of None = None
last_of (Some r) = Some r.last

-- how many participants each account has named so far, where the last line is of the run
abbrev Counted : Option Run → (ℕ → ℕ) → Type 0
Counted None so_far = (a : ℕ) → so_far a ≡ 0
Counted (Some r) so_far = (so_far r.last.first ≡ r.named) × ((a : ℕ) → r.last.first < a → so_far a ≡ 0) × ((a : ℕ) → so_far a ≤ most_named)

abbrev one : Designation → ℕ → ℕ
one d a = cond (eqb d.account a) 1 0

has_key : (d : Designation) → designation_present d ≡ true → designation_key d ≡ Some (key d)
has_key d e = ap (λ b. cond b (Some (key d)) None) e

one_at : (d : Designation) → one d d.account ≡ 1
one_at d = ap (λ b. cond b 1 0) (eq-eqb d.account d.account refl)

one_off : (d : Designation) (a : ℕ) → (d.account ≡ a → ⊥) → one d a ≡ 0
one_off d a n = ap (λ b. cond b 1 0) (ne_eqb d.account a n)

-- a first line of an account
fresh : (so_far : ℕ → ℕ) (d : Designation) → so_far d.account ≡ 0 → ((a : ℕ) → d.account < a → so_far a ≡ 0) → ((a : ℕ) → so_far a ≤ most_named) → Counted (Some (record { last = key d; named = 1 })) (λ a. so_far a + one d a)
fresh so_far d z hi few = (
  omega (arith, z, one_at d),
  (λ a h. omega (arith, hi a h, one_off d a (λ e. omega arith))),
  λ a. ⊎_elim (λ (e : d.account ≡ a). subst (λ (b : ℕ). so_far b + one d b ≤ most_named) e (omega (arith, z, one_at d))) (λ (n : d.account ≡ a → ⊥). omega (arith, few a, one_off d a n)) (cases_eq d.account a),
)

-- one more of the same account
further : (so_far : ℕ → ℕ) (r : Run) (d : Designation) → r.last.first ≡ d.account → r.named < most_named → Counted (Some r) so_far → Counted (Some (record { last = key d; named = r.named + 1 })) (λ a. so_far a + one d a)
further so_far r d e l c =
    let at : so_far d.account ≡ r.named = ap so_far (sym e) ∙ c.0 in (
      omega (arith, at, one_at d),
      (λ a h. omega (arith, c.1 a (omega arith), one_off d a (λ f. omega arith))),
      λ a. ⊎_elim (λ (f : d.account ≡ a). subst (λ (b : ℕ). so_far b + one d b ≤ most_named) f (omega (arith, at, one_at d))) (λ (n : d.account ≡ a → ⊥). omega (arith, c.2 a, one_off d a n)) (cases_eq d.account a),
    )

lower : (so_far : ℕ → ℕ) (r : Run) (d : Designation) → r.last.first ≤ d.account → (r.last.first ≡ d.account → ⊥) → Counted (Some r) so_far → Counted (Some (record { last = key d; named = 1 })) (λ a. so_far a + one d a)
lower so_far r d h n c =
    let lt : r.last.first < d.account = omega (arith, n) in
    fresh so_far d (c.1 d.account lt) (λ a l. c.1 a (omega arith)) c.2

next_ok : (b c : Bool) (t u : Option Run) (f : FieldFault) (w : Option Run) → cond b (cond c (Ok t) (Err f)) (Ok u) ≡ Ok w → ((b ≡ true) → (c ≡ true) × (w ≡ t)) × ((b ≡ false) → w ≡ u)
next_ok true true t u f w e = ((λ _. (refl, cc)), λ z. cc)
next_ok true false t u f w e = cc
next_ok false c t u f w e = ((λ z. cc), λ _. cc)

-- what is counted after a line that may follow
abbrev Stepped : (ℕ → ℕ) → Option Run → Designation → Option Run → Type 0
Stepped so_far s d t = (is_above pair_order (last_of s) (key d) ≡ true) × (last_of t ≡ Some (key d)) × Counted t (λ a. so_far a + one d a)

by_account : (so_far : ℕ → ℕ) (r : Run) (d : Designation) (t : Option Run) → is_above pair_order (Some r.last) (key d) ≡ true → Counted (Some r) so_far → named_next r (key d) ≡ Ok t → Stepped so_far (Some r) d t
by_account so_far r d t up c e =
    let n = next_ok (eqb r.last.first d.account) (ltb r.named most_named) (Some (record { last = key d; named = r.named + 1 })) (Some (record { last = key d; named = 1 })) (record { cause = refusal.Designations; column = 1 }) t e in
    ⊎_elim
    (λ (q : r.last.first ≡ d.account).
    let m = n.0 (eq-eqb r.last.first d.account q) in
    let lt : r.named < most_named = grind (arith, nat_tests) in
    (up, ap last_of m.1, subst (λ w. Counted w (λ a. so_far a + one d a)) (sym m.1) (further so_far r d q lt c)))
    (λ (q : r.last.first ≡ d.account → ⊥).
    let m = n.1 (ne_eqb r.last.first d.account q) in
    (up, ap last_of m, subst (λ w. Counted w (λ a. so_far a + one d a)) (sym m) (lower so_far r d (grind (arith, nat_tests)) q c)))
    (cases_eq r.last.first d.account)

stepped : (so_far : ℕ → ℕ) (s : Option Run) (d : Designation) (t : Option Run) → Counted s so_far → naming s (key d) ≡ Ok t → Stepped so_far s d t
stepped so_far None d t c e =
    let q : t ≡ Some (record { last = key d; named = 1 }) = cc in
    (refl, ap last_of q, subst (λ w. Counted w (λ a. so_far a + one d a)) (sym q) (fresh so_far d (c d.account) (λ a h. c a) (λ a. omega (arith, c a))))
stepped so_far (Some r) d t c e =
    by_then (above pair_order (Some r.last) (key d)) (λ _. named_next r (key d)) t e (λ u eu e2.
    by_account so_far r d t (above_ok (is_above pair_order (Some r.last) (key d)) (key d) (record { cause = refusal.Sequence; column = 1 }) u eu).0 c e2)

pub named_few : (rows : List Designation) (s : Option Run) (so_far : ℕ → ℕ) → AllByRecursion (λ d. designation_present d ≡ true) rows → Counted s so_far → ((a : ℕ) → so_far a ≤ most_named) → Steps designation_kind s rows → (rise_from pair_order (last_of s) (map designation_key rows) ≡ true) × ((a : ℕ) → so_far a + named_by a rows ≤ most_named)
named_few [] s so_far g c few st = (refl, λ a. omega (arith, few a))
named_few (d ∷ ds) s so_far g c few st =
    let p = stepped so_far s d st.0 c st.1 in
    let rest = named_few ds st.0 (λ a. so_far a + one d a) g.1 p.2 (counted_few st.0 (λ a. so_far a + one d a) p.1 p.2) st.2 in (
      ap (λ o. rise_from pair_order (last_of s) (o ∷ map designation_key ds)) (has_key d g.0) ∙ rw p.0 (ap (λ o. rise_from pair_order o (map designation_key ds)) (sym p.1) ∙ rest.0),
      λ a. omega (arith, rest.1 a),
    )
  where
    counted_few : (t : Option Run) (f : ℕ → ℕ) {k : Pair} → last_of t ≡ Some k → Counted t f → (a : ℕ) → f a ≤ most_named
    counted_few None f e c = cc
    counted_few (Some r) f e c = c.2

-- a line that rises and is not one too many may follow
may_follow : (so_far : ℕ → ℕ) (s : Option Run) (d : Designation) → Counted s so_far → is_above pair_order (last_of s) (key d) ≡ true → so_far d.account < most_named → (t : Option Run) × (naming s (key d) ≡ Ok t)
may_follow so_far None d c up l = (Some (record { last = key d; named = 1 }), refl)
may_follow so_far (Some r) d c up l =
    let first = ap (λ b. and_then (cond b (Ok (Some (key d))) (Err (record { cause = refusal.Sequence; column = 1 }))) (λ _. named_next r (key d))) up in
    ⊎_elim
    (λ (q : r.last.first ≡ d.account).
    let at : so_far d.account ≡ r.named = ap so_far (sym q) ∙ c.0 in
    let lt : ltb r.named most_named ≡ true = lt-ltb r.named most_named (omega (arith, at)) in
    (Some (record { last = key d; named = r.named + 1 }), first ∙ rw (eq-eqb r.last.first d.account q, lt) refl))
    (λ (q : r.last.first ≡ d.account → ⊥).
    (Some (record { last = key d; named = 1 }), first ∙ rw (ne_eqb r.last.first d.account q) refl))
    (cases_eq r.last.first d.account)

pub few_named : (rows : List Designation) (s : Option Run) (so_far : ℕ → ℕ) → AllByRecursion (λ d. designation_present d ≡ true) rows → Counted s so_far → rise_from pair_order (last_of s) (map designation_key rows) ≡ true → ((a : ℕ) → so_far a + named_by a rows ≤ most_named) → Steps designation_kind s rows
few_named [] s so_far g c up few = tt
few_named (d ∷ ds) s so_far g c up few =
    let b = and_parts (is_above pair_order (last_of s) (key d)) (rise_from pair_order (Some (key d)) (map designation_key ds)) (sym (ap (λ o. rise_from pair_order (last_of s) (o ∷ map designation_key ds)) (has_key d g.0)) ∙ up) in
    let m = may_follow so_far s d c b.0 (omega (arith, few d.account, one_at d)) in
    let p = stepped so_far s d m.0 c m.1 in
    (m.0, m.1, few_named ds m.0 (λ a. so_far a + one d a) g.1 p.2 (ap (λ o. rise_from pair_order o (map designation_key ds)) p.1 ∙ b.1) (λ a. omega (arith, few a)))

-- the whole group: it rises, and no account names too many
pub designations_step : (rows : List Designation) → AllByRecursion (λ d. designation_present d ≡ true) rows → Steps designation_kind None rows → (rise_from pair_order None (map designation_key rows) ≡ true) × ((a : ℕ) → named_by a rows ≤ most_named)
designations_step rows g st =
    let r = named_few rows None (λ _. 0) g (λ a. refl) (λ a. omega arith) st in
    (r.0, λ a. omega (arith, r.1 a))

pub designations_follow : (rows : List Designation) → AllByRecursion (λ d. designation_present d ≡ true) rows → rise_from pair_order None (map designation_key rows) ≡ true → ((a : ℕ) → named_by a rows ≤ most_named) → Steps designation_kind None rows
designations_follow rows g up few = few_named rows None (λ _. 0) g (λ a. refl) up (λ a. omega (arith, few a))
