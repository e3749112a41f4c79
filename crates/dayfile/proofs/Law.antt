-- A day part is accepted exactly where the input begins with the written form of a description that is well formed and fits.
use Rattle.std.proofs.Common.{◌≡◌, ℕ, zero, suc, ◌+◌, ◌*◌, ◌≤◌, Bool, true, false, cond, eqb, List, [], ◌∷◌, ◌++◌, map, length, get_or, take, drop, Some, None, Ok, Option, Result, Ordering, sym, refl, ap, ◌∙◌, subst, append_assoc, arith}
use Rattle.std.specs.List.{flat_map, AllByRecursion}
use Rattle.std.proofs.lemmas.List.{take-append-drop, drop-drop, drop_at}
use Rattle.std.proofs.lemmas.Bool.{and_parts}
use Rattle.std.proofs.lemmas.Bool.Decides.{nat_tests}
use Rattle.rules.specs.declared.letter.Letter.{Letter}
use Rattle.rules.specs.declared.letter.Letter.TheVariants as letter
use Rattle.rules.specs.Letters.{letter_rules}
use Rattle.tables.specs.declared.rows.Security.{Security}
use Rattle.tables.specs.declared.rows.Holding.{Holding}
use Rattle.tables.specs.declared.owner.Participant.{Participant}
use Rattle.tables.specs.declared.owner.Account.{Account}
use Rattle.tables.specs.declared.rows.Designation.{Designation}
use Rattle.lookup.specs.Lookup.{is_above, rise_from}
use Rattle.std.specs.Ordering.{nat_cmp}
use Rattle.lookup.specs.Orders.{TotalOrder, pair_order}
use Rattle.tables.specs.Rows.{pair, security_present, security_key, held_present, held_key, holding_key, account_holding_key, designation_present, designation_key}
use Rattle.rules.specs.declared.range.Quantity.{Quantity}
use Rattle.rules.specs.declared.range.Quantity.TheVariants as quantity
use Rattle.lookup.proofs.Rise.{rising_means, words_mean}
use Rattle.lookup.proofs.Holders.{pairs_total}
use Rattle.fields.specs.declared.fault.LineFault.{LineFault}
use Rattle.fields.specs.Faults.{line_at}
use Rattle.fields.specs.Layout.{width_of}
use Rattle.fields.specs.Numbers.{Within, WrittenAs, written_line}
use Rattle.fields.proofs.Numbers.{by_then}
use Rattle.fields.proofs.ReadBack.{written_wide}
use Rattle.dayfile.specs.declared.plan.Opening.{Opening}
use Rattle.dayfile.specs.declared.plan.Counts.{Counts}
use Rattle.dayfile.specs.Groups.{Kind, group, rows_of, starts, turn}
use Rattle.dayfile.specs.Kinds.{security_kind, holding_kind, account_holding_kind, designation_kind}
use Rattle.dayfile.specs.Rows.{line_of}
use Rattle.dayfile.specs.DayPart.{Plan, securities_at, holdings_at, account_holdings_at, designations_at, end_at, events_at, end_line, opening_of, agreed, ending_of, counts, plan, day_part}
use Rattle.dayfile.specs.Description.{Description, security_numbers, holding_numbers, account_holding_numbers, designation_numbers, opening_numbers, end_numbers, counts_of, written, WellFormed, Fits, Describes, described, plan_of}
use Rattle.dayfile.proofs.Written.{Grouped, grouped, accepted, rows_written, joined_wide, beside_ok}
use Rattle.dayfile.proofs.Reading.{within_long, three, four, line_read, line_written, GoodSecurity, GoodHeld, GoodHolding, GoodAccountHolding, GoodDesignation, security_lined, holding_lined, account_holding_lined, designation_lined}
use Rattle.dayfile.proofs.Following.{steps_rise, rise_steps, designations_step, designations_follow}

numbers_total : TotalOrder nat_cmp
numbers_total = record {
  same = λ a b e. grind (arith, nat_tests);
  itself = λ a. grind (arith, nat_tests);
  after = λ a b e. grind (arith, nat_tests);
  before = λ a b e. grind (arith, nat_tests);
  through = λ a b c e f. grind (arith, nat_tests);
}

-- the lines of each group, as they are written
abbrev security_line : Security → List ℕ
security_line s = written_line letter.Security (security_numbers s)

abbrev holding_line : Holding Participant → List ℕ
holding_line h = written_line letter.Holding (holding_numbers h)

abbrev account_holding_line : Holding Account → List ℕ
account_holding_line h = written_line letter.AccountHolding (account_holding_numbers h)

abbrev designation_line : Designation → List ℕ
designation_line d = written_line letter.Designation (designation_numbers d)

-- keys of good rows
security_has : (s : Security) → GoodSecurity s → security_key s ≡ Some s.code
security_has s g = ap (λ b. cond b (Some s.code) None) g

held_has : {O : Type 0} (numbers : Quantity) (number : O → ℕ) (h : Holding O) → GoodHeld numbers number h → held_key numbers number h ≡ Some (pair (number h.owner) h.code)
held_has numbers number h g = ap (λ b. cond b (Some (pair (number h.owner) h.code)) None) g.0

holding_has : (h : Holding Participant) → GoodHolding h → holding_key h ≡ Some (pair h.owner.0 h.code)
holding_has = held_has quantity.Participant (λ p. p.0)

account_holding_has : (h : Holding Account) → GoodAccountHolding h → account_holding_key h ≡ Some (pair h.owner.0 h.code)
account_holding_has = held_has quantity.Account (λ a. a.0)

all_fresh : {X : Type 0} (P Q : X → Type 0) (xs : List X) → AllByRecursion (λ x. P x × Q x) xs → AllByRecursion Q xs
all_fresh P Q [] a = tt
all_fresh P Q (x ∷ xs) a = (a.0.1, all_fresh P Q xs a.1)

-- what stands at a place goes on after it
split : (input w : List ℕ) (n at : ℕ) → take n (drop at input) ≡ w → drop at input ≡ w ++ drop (at + n) input
split input w n at e =
    sym (take-append-drop n (drop at input))
    ∙ ap (λ (t : List ℕ). t ++ drop n (drop at input)) e
    ∙ ap (λ (t : List ℕ). w ++ t) (drop-drop n at input)

counts_agree : (said is column : ℕ) (u : Unit {0}) → agreed column said is ≡ Ok u → said ≡ is
counts_agree said is column u e = grind (arith, nat_tests)

ending_is : (c : Counts) (ns : List ℕ) (u : Unit {0}) → length ns ≡ 4 → ending_of c ns ≡ Ok u → ns ≡ end_numbers c
ending_is c ns u l e =
    by_then (agreed 2 (get_or ns 0 0) c.securities) _ u e (λ u0 e0 r0.
    by_then (agreed 18 (get_or ns 1 0) c.holdings) _ u r0 (λ u1 e1 r1.
    by_then (agreed 34 (get_or ns 2 0) c.account_holdings) _ u r1 (λ u2 e2 r2.
    let a = counts_agree (get_or ns 0 0) c.securities 2 u0 e0 in
    let b = counts_agree (get_or ns 1 0) c.holdings 18 u1 e1 in
    let d = counts_agree (get_or ns 2 0) c.account_holdings 34 u2 e2 in
    let f = counts_agree (get_or ns 3 0) c.designations 50 u r2 in
    four ns l ∙ (let q : get_or ns 0 0 ∷ (get_or ns 1 0 ∷ (get_or ns 2 0 ∷ (get_or ns 3 0 ∷ []))) ≡ end_numbers c = cc in q))))

six : (a b c d e f t : List ℕ) → (a ++ (b ++ (c ++ (d ++ (e ++ f))))) ++ t ≡ a ++ (b ++ (c ++ (d ++ (e ++ (f ++ t)))))
six a b c d e f t = simp append_assoc

-- the pieces of an accepted day part
module _ (input : List ℕ) (room : Counts) (o : Opening) (c : Counts)
    (d_line : WrittenAs letter.Day (o.market ∷ (o.date ∷ (o.quota ∷ []))) input)
    (ss : Grouped security_kind security_line GoodSecurity None (drop securities_at input) c.securities)
    (ps : Grouped holding_kind holding_line GoodHolding None (drop (holdings_at c) input) c.holdings)
    (hs : Grouped account_holding_kind account_holding_line GoodAccountHolding None (drop (account_holdings_at c) input) c.account_holdings)
    (gs : Grouped designation_kind designation_line GoodDesignation None (drop (designations_at c) input) c.designations)
    (e_line : WrittenAs letter.End (end_numbers c) (drop (end_at c) input))
    (fit : Fits room (described input (plan o c))) where
  abbrev day : Description
  day = described input (plan o c)

  same_counts : counts_of day ≡ c
  same_counts = rw (ss.long, ps.long, hs.long, gs.long) refl

  form : input ≡ written day ++ drop (events_at c) input
  form =
      let f0 : input ≡ written_line letter.Day (opening_numbers day) ++ drop securities_at input = split input (written_line letter.Day (opening_numbers day)) 50 0 d_line.form in
      let f1 = split input (flat_map security_line day.securities) (66 * c.securities) securities_at ss.form in
      let f2 = split input (flat_map holding_line day.holdings) (50 * c.holdings) (holdings_at c) ps.form in
      let f3 = split input (flat_map account_holding_line day.account_holdings) (50 * c.account_holdings) (account_holdings_at c) hs.form in
      let f4 = split input (flat_map designation_line day.designations) (34 * c.designations) (designations_at c) gs.form in
      let f5 = split input (written_line letter.End (end_numbers c)) 66 (end_at c) e_line.form in
      f0
      ∙ ap (λ (t : List ℕ). written_line letter.Day (opening_numbers day) ++ t)
      (f1 ∙ ap (λ (t : List ℕ). flat_map security_line day.securities ++ t)
      (f2 ∙ ap (λ (t : List ℕ). flat_map holding_line day.holdings ++ t)
      (f3 ∙ ap (λ (t : List ℕ). flat_map account_holding_line day.account_holdings ++ t)
      (f4 ∙ ap (λ (t : List ℕ). flat_map designation_line day.designations ++ t)
      (f5 ∙ ap (λ k. written_line letter.End (end_numbers k) ++ drop (events_at c) input) (sym same_counts))))))
      ∙ sym (six (written_line letter.Day (opening_numbers day)) (flat_map security_line day.securities) (flat_map holding_line day.holdings) (flat_map account_holding_line day.account_holdings) (flat_map designation_line day.designations) (written_line letter.End (end_numbers (counts_of day))) (drop (events_at c) input))

  well_formed : WellFormed day
  well_formed =
      let g = designations_step day.designations gs.good gs.steps in
      record {
        opening = d_line.within;
        securities = rising_means nat_cmp numbers_total (map security_key day.securities) (steps_rise security_kind nat_cmp security_key (λ s. s.code) GoodSecurity security_has (λ last s. refl) day.securities None ss.good ss.steps);
        holdings = rising_means pair_order pairs_total (map holding_key day.holdings) (steps_rise holding_kind pair_order holding_key (λ h. pair h.owner.0 h.code) GoodHolding holding_has (λ last h. refl) day.holdings None ps.good ps.steps);
        holdings_fresh = all_fresh (λ h. held_present quantity.Participant (λ p. p.0) h ≡ true) (λ h. h.sellable ≡ h.opening) day.holdings ps.good;
        account_holdings = rising_means pair_order pairs_total (map account_holding_key day.account_holdings) (steps_rise account_holding_kind pair_order account_holding_key (λ h. pair h.owner.0 h.code) GoodAccountHolding account_holding_has (λ last h. refl) day.account_holdings None hs.good hs.steps);
        account_holdings_fresh = all_fresh (λ h. held_present quantity.Account (λ a. a.0) h ≡ true) (λ h. h.sellable ≡ h.opening) day.account_holdings hs.good;
        designations = rising_means pair_order pairs_total (map designation_key day.designations) g.0;
        few_named = g.1;
        ending = subst (λ k. Within (letter_rules letter.End).fields (end_numbers k)) (sym same_counts) e_line.within;
      }

  pieces : Describes input room day
  pieces = record { well_formed = well_formed; fits = fit; events = drop (events_at c) input; form = form }

opening_is : (ns : List ℕ) (o : Opening) → length ns ≡ 3 → opening_of ns ≡ Ok o → ns ≡ o.market ∷ (o.date ∷ (o.quota ∷ []))
opening_is ns o l e =
    let q : record { market = get_or ns 0 0; date = get_or ns 1 0; quota = get_or ns 2 0 } ≡ o = cc in
    three ns l ∙ ap (λ (p : Opening). p.market ∷ (p.date ∷ (p.quota ∷ []))) q

-- a group that is accepted fits its table
after_few : {S : Type 0} (next : S → Result ℕ LineFault) (count room n : ℕ) (o : Option S) → ◌≡◌ {A = Result ℕ LineFault} (elim o [ None ↦ Ok count | Some t ↦ next t ]) (Ok n) → ((t : S) → next t ≡ Ok n → n ≤ count + 1 + room) → n ≤ count + suc room
after_few next count room n None e more = let q : count ≡ n = cc in omega arith
after_few next count room n (Some t) e more = omega (arith, more t e)

group_few : {R S : Type 0} (kind : Kind R S) (room count nr n : ℕ) (s : S) (line : List ℕ) → group kind room count s nr line ≡ Ok n → n ≤ count + room
unfolding group
group_few kind zero count nr n s line e = by_then (turn kind true s nr line) (λ o. Ok count) n e (λ o eo e2. let q : count ≡ n = cc in omega arith)
group_few kind (suc room) count nr n s line e =
    by_then (turn kind false s nr line) (λ o. elim o [ None ↦ Ok count | Some t ↦ group kind room (count + 1) t (nr + 1) (drop (width_of kind.letter) line) ]) n e (λ o eo e2.
    after_few (λ t. group kind room (count + 1) t (nr + 1) (drop (width_of kind.letter) line)) count room n o e2 (λ t et. group_few kind room (count + 1) (nr + 1) n t (drop (width_of kind.letter) line) et))

-- an accepted day part is described
pub day_read : (input : List ℕ) (room : Counts) (made : Plan) → day_part input room ≡ Ok made → Describes input room (described input made)
day_read input room made e =
    by_then (line_at (get_or input 0 0) 1 (line_of letter.Day opening_of input)) _ made e (λ o eo r0.
    by_then (group security_kind room.securities 0 None 2 (drop securities_at input)) _ made r0 (λ s es r1.
    by_then (group holding_kind room.holdings 0 None (2 + s) (drop (holdings_at (counts s 0 0 0)) input)) _ made r1 (λ p ep r2.
    by_then (group account_holding_kind room.account_holdings 0 None (2 + s + p) (drop (account_holdings_at (counts s p 0 0)) input)) _ made r2 (λ a ea r3.
    by_then (group designation_kind room.designations 0 None (2 + s + p + a) (drop (designations_at (counts s p a 0)) input)) _ made r3 (λ g eg r4.
    by_then (line_at (get_or (drop (end_at (counts s p a g)) input) 0 0) (end_line (counts s p a g)) (line_of letter.End (ending_of (counts s p a g)) (drop (end_at (counts s p a g)) input))) _ made r4 (λ u eu r5.
    let c = counts s p a g in
    let q : plan o (counts s p a g) ≡ made = cc in
    let d = line_read letter.Day opening_of refl input o (beside_ok (line_of letter.Day opening_of input) _ o eo) in
    let dn = opening_is d.0 o (within_long (letter_rules letter.Day).fields d.0 d.1.within) d.2 in
    let z = line_read letter.End (ending_of c) refl (drop (end_at c) input) u (beside_ok (line_of letter.End (ending_of c) (drop (end_at c) input)) _ u eu) in
    let zn = ending_is c z.0 u (within_long (letter_rules letter.End).fields z.0 z.1.within) z.2 in
    let ss = grouped security_kind security_line GoodSecurity security_lined room.securities None 2 (drop securities_at input) s es in
    let ps = grouped holding_kind holding_line GoodHolding holding_lined room.holdings None (2 + s) (drop (holdings_at c) input) p ep in
    let hs = grouped account_holding_kind account_holding_line GoodAccountHolding account_holding_lined room.account_holdings None (2 + s + p) (drop (account_holdings_at c) input) a ea in
    let gs = grouped designation_kind designation_line GoodDesignation designation_lined room.designations None (2 + s + p + a) (drop (designations_at c) input) g eg in
    let fit : Fits room (described input (plan o c)) = record {
      securities = omega (arith, ss.long, group_few security_kind room.securities 0 2 s None (drop securities_at input) es);
      holdings = omega (arith, ps.long, group_few holding_kind room.holdings 0 (2 + s) p None (drop (holdings_at c) input) ep);
      account_holdings = omega (arith, hs.long, group_few account_holding_kind room.account_holdings 0 (2 + s + p) a None (drop (account_holdings_at c) input) ea);
      designations = omega (arith, gs.long, group_few designation_kind room.designations 0 (2 + s + p + a) g None (drop (designations_at c) input) eg);
    } in
    subst (λ (k : Plan). Describes input room (described input k)) q
    (pieces input room o c
    (subst (λ (ns : List ℕ). WrittenAs letter.Day ns input) dn d.1)
    ss ps hs gs
    (subst (λ (ns : List ℕ). WrittenAs letter.End ns (drop (end_at c) input)) zn z.1)
    fit)))))))

-- rows whose keys rise are present
module _ {R K : Type 0} (order : K → K → Ordering) (present : R → Bool) (key : R → K) where
  abbrev named : R → Option K
  named x = cond (present x) (Some (key x)) None

  by_presence : (b : Bool) (x : R) (ks : List (Option K)) (last : Option K) → rise_from order last (cond b (Some (key x)) None ∷ ks) ≡ true → (b ≡ true) × (rise_from order (Some (key x)) ks ≡ true)
  by_presence true x ks last e = (refl, (and_parts (is_above order last (key x)) (rise_from order (Some (key x)) ks) e).1)
  by_presence false x ks last e = cc

  all_present : (rows : List R) (last : Option K) → rise_from order last (map named rows) ≡ true → AllByRecursion (λ x. present x ≡ true) rows
  all_present [] last e = tt
  all_present (x ∷ xs) last e = let b = by_presence (present x) x (map named xs) last e in (b.0, all_present xs (Some (key x)) b.1)

all_both : {X : Type 0} (P Q : X → Type 0) (xs : List X) → AllByRecursion P xs → AllByRecursion Q xs → AllByRecursion (λ x. P x × Q x) xs
all_both P Q [] a b = tt
all_both P Q (x ∷ xs) a b = ((a.0, b.0), all_both P Q xs a.1 b.1)

-- lines of another letter do not go on a group
not_first : (l : Letter) (b : ℕ) (rest : List ℕ) → eqb b (letter_rules l).byte ≡ false → starts l (b ∷ rest) ≡ false
not_first l b rest e = grind (arith, nat_tests)

skips : {X : Type 0} (l m : Letter) (numbers : X → List ℕ) (xs : List X) (more : List ℕ) → eqb (letter_rules m).byte (letter_rules l).byte ≡ false → starts l more ≡ false → starts l (flat_map (λ x. written_line m (numbers x)) xs ++ more) ≡ false
skips l m numbers [] more e s = s
skips l m numbers (x ∷ xs) more e s = not_first l (letter_rules m).byte _ e

ending_agrees : (c : Counts) → ending_of c (end_numbers c) ≡ Ok tt
ending_agrees c = grind (arith, nat_tests)

description_same : (d : Description) {ss : List Security} {hs : List (Holding Participant)} {accounts : List (Holding Account)} {gs : List Designation} → ss ≡ d.securities → hs ≡ d.holdings → accounts ≡ d.account_holdings → gs ≡ d.designations → record { market = d.market; date = d.date; quota = d.quota; securities = ss; holdings = hs; account_holdings = accounts; designations = gs } ≡ d
description_same d a b c e = rw (a, b, c, e) refl

-- the input, from each group on
module _ (d : Description) (events : List ℕ) (w : WellFormed d) where
  abbrev from_end : List ℕ
  from_end = written_line letter.End (end_numbers (counts_of d)) ++ events

  abbrev from_designations : List ℕ
  from_designations = flat_map designation_line d.designations ++ from_end

  abbrev from_account_holdings : List ℕ
  from_account_holdings = flat_map account_holding_line d.account_holdings ++ from_designations

  abbrev from_holdings : List ℕ
  from_holdings = flat_map holding_line d.holdings ++ from_account_holdings

  abbrev from_securities : List ℕ
  from_securities = flat_map security_line d.securities ++ from_holdings

  abbrev whole : List ℕ
  whole = written_line letter.Day (opening_numbers d) ++ from_securities

  whole_is : written d ++ events ≡ whole
  whole_is = six (written_line letter.Day (opening_numbers d)) (flat_map security_line d.securities) (flat_map holding_line d.holdings) (flat_map account_holding_line d.account_holdings) (flat_map designation_line d.designations) (written_line letter.End (end_numbers (counts_of d))) events

  good_securities : AllByRecursion GoodSecurity d.securities
  good_securities = all_present nat_cmp security_present (λ s. s.code) d.securities None (words_mean nat_cmp numbers_total (map security_key d.securities) w.securities)

  good_holdings : AllByRecursion GoodHolding d.holdings
  good_holdings = all_both (λ h. held_present quantity.Participant (λ p. p.0) h ≡ true) (λ h. h.sellable ≡ h.opening) d.holdings (all_present pair_order (held_present quantity.Participant (λ p. p.0)) (λ h. pair h.owner.0 h.code) d.holdings None (words_mean pair_order pairs_total (map holding_key d.holdings) w.holdings)) w.holdings_fresh

  good_account_holdings : AllByRecursion GoodAccountHolding d.account_holdings
  good_account_holdings = all_both (λ h. held_present quantity.Account (λ a. a.0) h ≡ true) (λ h. h.sellable ≡ h.opening) d.account_holdings (all_present pair_order (held_present quantity.Account (λ a. a.0)) (λ h. pair h.owner.0 h.code) d.account_holdings None (words_mean pair_order pairs_total (map account_holding_key d.account_holdings) w.account_holdings)) w.account_holdings_fresh

  good_designations : AllByRecursion GoodDesignation d.designations
  good_designations = all_present pair_order designation_present (λ g. pair g.account g.participant) d.designations None (words_mean pair_order pairs_total (map designation_key d.designations) w.designations)

  -- where each group begins
  at_securities : drop securities_at whole ≡ from_securities
  at_securities = drop_at (written_line letter.Day (opening_numbers d)) from_securities 50 (written_wide letter.Day (opening_numbers d) w.opening)

  next_group : {X : Type 0} (line : X → List ℕ) (xs : List X) (n at : ℕ) (more : List ℕ) → length (flat_map line xs) ≡ n → drop at whole ≡ flat_map line xs ++ more → drop (at + n) whole ≡ more
  next_group line xs n at more l e = sym (drop-drop n at whole) ∙ ap (drop n) e ∙ drop_at (flat_map line xs) more n l

  at_holdings : drop (holdings_at (counts_of d)) whole ≡ from_holdings
  at_holdings = next_group security_line d.securities (66 * length d.securities) securities_at from_holdings
      (joined_wide security_kind security_line GoodSecurity security_lined d.securities good_securities)
      at_securities

  at_account_holdings : drop (account_holdings_at (counts_of d)) whole ≡ from_account_holdings
  at_account_holdings = next_group holding_line d.holdings (50 * length d.holdings) (holdings_at (counts_of d)) from_account_holdings
      (joined_wide holding_kind holding_line GoodHolding holding_lined d.holdings good_holdings)
      at_holdings

  at_designations : drop (designations_at (counts_of d)) whole ≡ from_designations
  at_designations = next_group account_holding_line d.account_holdings (50 * length d.account_holdings) (account_holdings_at (counts_of d)) from_designations
      (joined_wide account_holding_kind account_holding_line GoodAccountHolding account_holding_lined d.account_holdings good_account_holdings)
      at_account_holdings

  at_end : drop (end_at (counts_of d)) whole ≡ from_end
  at_end = next_group designation_line d.designations (34 * length d.designations) (designations_at (counts_of d)) from_end
      (joined_wide designation_kind designation_line GoodDesignation designation_lined d.designations good_designations)
      at_designations

  -- each group is accepted with its rows
  module _ (room : Counts) (f : Fits room d) where
    opens_day : line_of letter.Day opening_of whole ≡ Ok (plan_of d).opening
    opens_day = line_written letter.Day opening_of refl (opening_numbers d) from_securities (plan_of d).opening w.opening refl

    takes_securities : group security_kind room.securities 0 None 2 (drop securities_at whole) ≡ Ok (length d.securities)
    takes_securities =
        ap (group security_kind room.securities 0 None 2) at_securities
        ∙ accepted security_kind security_line GoodSecurity security_lined d.securities room.securities None 2 from_holdings good_securities
        (rise_steps security_kind nat_cmp security_key (λ s. s.code) GoodSecurity security_has (λ last s. refl) d.securities None good_securities (words_mean nat_cmp numbers_total (map security_key d.securities) w.securities))
        f.securities
        (skips letter.Security letter.Holding holding_numbers d.holdings from_account_holdings refl (skips letter.Security letter.AccountHolding account_holding_numbers d.account_holdings from_designations refl (skips letter.Security letter.Designation designation_numbers d.designations from_end refl (not_first letter.Security 69 _ refl))))

    takes_holdings : group holding_kind room.holdings 0 None (2 + length d.securities) (drop (holdings_at (counts_of d)) whole) ≡ Ok (length d.holdings)
    takes_holdings =
        ap (group holding_kind room.holdings 0 None (2 + length d.securities)) at_holdings
        ∙ accepted holding_kind holding_line GoodHolding holding_lined d.holdings room.holdings None (2 + length d.securities) from_account_holdings good_holdings
        (rise_steps holding_kind pair_order holding_key (λ h. pair h.owner.0 h.code) GoodHolding holding_has (λ last h. refl) d.holdings None good_holdings (words_mean pair_order pairs_total (map holding_key d.holdings) w.holdings))
        f.holdings
        (skips letter.Holding letter.AccountHolding account_holding_numbers d.account_holdings from_designations refl (skips letter.Holding letter.Designation designation_numbers d.designations from_end refl (not_first letter.Holding 69 _ refl)))

    takes_account_holdings : group account_holding_kind room.account_holdings 0 None (2 + length d.securities + length d.holdings) (drop (account_holdings_at (counts_of d)) whole) ≡ Ok (length d.account_holdings)
    takes_account_holdings =
        ap (group account_holding_kind room.account_holdings 0 None (2 + length d.securities + length d.holdings)) at_account_holdings
        ∙ accepted account_holding_kind account_holding_line GoodAccountHolding account_holding_lined d.account_holdings room.account_holdings None (2 + length d.securities + length d.holdings) from_designations good_account_holdings
        (rise_steps account_holding_kind pair_order account_holding_key (λ h. pair h.owner.0 h.code) GoodAccountHolding account_holding_has (λ last h. refl) d.account_holdings None good_account_holdings (words_mean pair_order pairs_total (map account_holding_key d.account_holdings) w.account_holdings))
        f.account_holdings
        (skips letter.AccountHolding letter.Designation designation_numbers d.designations from_end refl (not_first letter.AccountHolding 69 _ refl))

    takes_designations : group designation_kind room.designations 0 None (2 + length d.securities + length d.holdings + length d.account_holdings) (drop (designations_at (counts_of d)) whole) ≡ Ok (length d.designations)
    takes_designations =
        ap (group designation_kind room.designations 0 None (2 + length d.securities + length d.holdings + length d.account_holdings)) at_designations
        ∙ accepted designation_kind designation_line GoodDesignation designation_lined d.designations room.designations None (2 + length d.securities + length d.holdings + length d.account_holdings) from_end good_designations
        (designations_follow d.designations good_designations (words_mean pair_order pairs_total (map designation_key d.designations) w.designations) w.few_named)
        f.designations
        (not_first letter.Designation 69 _ refl)

    ends_day : line_of letter.End (ending_of (counts_of d)) (drop (end_at (counts_of d)) whole) ≡ Ok tt
    ends_day =
        ap (line_of letter.End (ending_of (counts_of d))) at_end
        ∙ line_written letter.End (ending_of (counts_of d)) refl (end_numbers (counts_of d)) events tt w.ending (ending_agrees (counts_of d))

    taken : day_part whole room ≡ Ok (plan_of d)
    taken = rw (opens_day, takes_securities, takes_holdings, takes_account_holdings, takes_designations, ends_day) refl

    same_day : described whole (plan_of d) ≡ d
    same_day = description_same d
        (ap (rows_of security_kind (length d.securities)) at_securities ∙ rows_written security_kind security_line GoodSecurity security_lined d.securities from_holdings good_securities)
        (ap (rows_of holding_kind (length d.holdings)) at_holdings ∙ rows_written holding_kind holding_line GoodHolding holding_lined d.holdings from_account_holdings good_holdings)
        (ap (rows_of account_holding_kind (length d.account_holdings)) at_account_holdings ∙ rows_written account_holding_kind account_holding_line GoodAccountHolding account_holding_lined d.account_holdings from_designations good_account_holdings)
        (ap (rows_of designation_kind (length d.designations)) at_designations ∙ rows_written designation_kind designation_line GoodDesignation designation_lined d.designations from_end good_designations)

-- the written form of a description that fits is accepted, and read back as that description
pub day_written : (input : List ℕ) (room : Counts) (d : Description) → Describes input room d → (day_part input room ≡ Ok (plan_of d)) × (described input (plan_of d) ≡ d)
day_written input room d is =
    let e : input ≡ whole d is.events is.well_formed = is.form ∙ whole_is d is.events is.well_formed in (
      ap (λ (t : List ℕ). day_part t room) e ∙ taken d is.events is.well_formed room is.fits,
      ap (λ (t : List ℕ). described t (plan_of d)) e ∙ same_day d is.events is.well_formed room is.fits,
    )
