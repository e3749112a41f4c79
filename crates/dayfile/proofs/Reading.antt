-- What a line of the day part gives is what it is the written form of, once for every kind of line.
use Rattle.std.proofs.Common.{◌≡◌, ℕ, suc, Bool, true, false, cond, eqb, List, [], ◌∷◌, ◌++◌, length, get_or, take, Some, None, Ok, Err, Option, Result, sym, refl, ap, ◌∙◌, subst, arith}
use Rattle.std.proofs.lemmas.Bool.{eqb-true, eq-eqb, and_parts, le-leb}
use Rattle.std.proofs.lemmas.Bool.Decides.{nat_tests}
use Rattle.rules.specs.declared.letter.Letter.{Letter}
use Rattle.rules.specs.declared.letter.Letter.TheVariants as letter
use Rattle.rules.specs.declared.letter.Part.TheVariants as part
use Rattle.rules.specs.declared.range.Quantity.{Quantity}
use Rattle.rules.specs.declared.range.Quantity.TheVariants as quantity
use Rattle.rules.specs.declared.buying.Buying.{Buying}
use Rattle.rules.specs.declared.price.PriceBand.{PriceBand}
use Rattle.rules.specs.Buyings.{buying_rules, buying_numbered}
use Rattle.rules.specs.Letters.{letter_rules}
use Rattle.rules.specs.Prices.{band_percent, band_of_percent}
use Rattle.rules.specs.Ranges.{in_range, range_of}
use Rattle.tables.specs.declared.rows.Security.{Security}
use Rattle.tables.specs.declared.rows.Holding.{Holding}
use Rattle.tables.specs.declared.owner.Participant.{Participant}
use Rattle.tables.specs.declared.owner.Account.{Account}
use Rattle.tables.specs.declared.rows.Designation.{Designation}
use Rattle.tables.specs.Owners.{participant, account}
use Rattle.tables.specs.Rows.{security_present, held_bounds, held_present, designation_present}
use Rattle.fields.specs.declared.fault.FieldFault.{FieldFault}
use Rattle.fields.specs.Faults.{and_then}
use Rattle.fields.specs.Layout.{opening, closed, letter_in, letters_of, day_letters, width_of}
use Rattle.fields.specs.Numbers.{numbers_from, written_line, Within, WrittenAs}
use Rattle.fields.proofs.Numbers.{by_then}
use Rattle.fields.proofs.ReadBack.{opened, read_is_written, letter_found, written_wide, written_is_read}
use Rattle.dayfile.specs.Groups.{starts}
use Rattle.dayfile.specs.Rows.{line_of, misplaced, named_case, security_of, held_of, holding_of, account_holding_of, designation_of}
use Rattle.dayfile.specs.Description.{security_numbers, held_numbers, holding_numbers, account_holding_numbers, designation_numbers}
use Rattle.dayfile.specs.Kinds.{security_kind, holding_kind, account_holding_kind, designation_kind}
use Rattle.dayfile.proofs.Written.{Lined}

cond_ok : {T E : Type 0} (b : Bool) (r : Result T E) (f : E) (x : T) → cond b r (Err f) ≡ Ok x → (b ≡ true) × (r ≡ Ok x)
cond_ok true r f x e = (refl, e)
cond_ok false r f x e = cc

cond_err : {T E : Type 0} (b : Bool) (r : Result T E) (f : E) (x : T) → cond b (Err f) r ≡ Ok x → r ≡ Ok x
cond_err b r f x e = grind arith

-- the letter that opens a line is that of its byte
closed_letter : (line : List ℕ) (o : Option Letter) (l : Letter) → closed line o ≡ Ok l → o ≡ Some l
closed_letter line None l e = cc
closed_letter line (Some m) l e = by_then _ (λ _. Ok m) l e (λ u eu e2. ap Some (cc))

byte_letter : (letters : List Letter) (line : List ℕ) (l : Letter) → opening letters line ≡ Ok l → letter_in letters (get_or line 0 0) ≡ Some l
byte_letter letters line l e = closed_letter line (letter_in letters (get_or line 0 0)) l (cond_err (eqb (length line) 0) (closed line (letter_in letters (get_or line 0 0))) _ l e)

pub within_long : (qs : List Quantity) (ns : List ℕ) → Within qs ns → length ns ≡ length qs
within_long [] [] w = refl
within_long [] (n ∷ ns) w = absurd w
within_long (q ∷ qs) [] w = absurd w
within_long (q ∷ qs) (n ∷ ns) w = ap suc (within_long qs ns w.1)

module _ {X : Type 0} (l : Letter) (make : List ℕ → Result X FieldFault) (day : (letter_rules l).part ≡ part.Day) where
  -- a line of the letter, by its numbers
  pub line_read : (line : List ℕ) (x : X) → line_of l make line ≡ Ok x → (ns : List ℕ) × WrittenAs l ns line × (make ns ≡ Ok x)
  line_read line x e =
      by_then (opening day_letters line) (λ k. cond (eqb (letter_rules k).byte (letter_rules l).byte) (and_then (numbers_from 0 (letter_rules l).fields line) make) (Err (misplaced line))) x e (λ k ek e2.
      let c = cond_ok (eqb (letter_rules k).byte (letter_rules l).byte) (and_then (numbers_from 0 (letter_rules l).fields line) make) (misplaced line) x e2 in
      let b : get_or line 0 0 ≡ (letter_rules l).byte = (opened day_letters line k ek).0 ∙ eqb-true (letter_rules k).byte (letter_rules l).byte c.0 in
      let f : letter_in day_letters (letter_rules l).byte ≡ Some l = ap (λ p. letter_in (letters_of p) (letter_rules l).byte) (sym day) ∙ letter_found l in
      let s : Some k ≡ Some l = sym (byte_letter day_letters line k ek) ∙ ap (letter_in day_letters) b ∙ f in
      let q : k ≡ l = cc in
      by_then (numbers_from 0 (letter_rules l).fields line) make x c.1 (λ ns en ex.
      (ns, read_is_written day_letters l ns line (ek ∙ ap Ok q) en, ex)))

  -- and the line that is written of good numbers
  pub line_written : (ns more : List ℕ) (x : X) → Within (letter_rules l).fields ns → make ns ≡ Ok x → line_of l make (written_line l ns ++ more) ≡ Ok x
  line_written ns more x w e =
      let r = written_is_read l ns more w in
      let o : opening day_letters (written_line l ns ++ more) ≡ Ok l = ap (λ p. opening (letters_of p) (written_line l ns ++ more)) (sym day) ∙ r.opens in
      rw (o, eq-eqb (letter_rules l).byte (letter_rules l).byte refl, r.numbers) e

pub starts_written : (l : Letter) (ns more : List ℕ) → starts l (written_line l ns ++ more) ≡ true
starts_written l ns more = grind (arith, nat_tests)

pub two : (ns : List ℕ) → length ns ≡ 2 → ns ≡ get_or ns 0 0 ∷ (get_or ns 1 0 ∷ [])
two [] e = absurd (omega arith)
two (a ∷ []) e = absurd (omega arith)
two (a ∷ (b ∷ [])) e = refl
two (a ∷ (b ∷ (c ∷ ns))) e = absurd (omega arith)

pub three : (ns : List ℕ) → length ns ≡ 3 → ns ≡ get_or ns 0 0 ∷ (get_or ns 1 0 ∷ (get_or ns 2 0 ∷ []))
three [] e = absurd (omega arith)
three (a ∷ ns) e = ap (λ ms. a ∷ ms) (two ns (omega arith))

pub four : (ns : List ℕ) → length ns ≡ 4 → ns ≡ get_or ns 0 0 ∷ (get_or ns 1 0 ∷ (get_or ns 2 0 ∷ (get_or ns 3 0 ∷ [])))
four [] e = absurd (omega arith)
four (a ∷ ns) e = ap (λ ms. a ∷ ms) (three ns (omega arith))

-- the cases that numbers name
named_ok : {X : Type 0} (column : ℕ) (o : Option X) (x : X) → named_case column o ≡ Ok x → o ≡ Some x
named_ok column o x e = grind arith

buying_back : (b : Buying) → buying_numbered (buying_rules b).number ≡ Some b
buying_back b = grind arith

band_back : (b : PriceBand) → band_of_percent (band_percent b) ≡ Some b
band_back b = grind arith

buying_is : (n : ℕ) (b : Buying) → buying_numbered n ≡ Some b → (buying_rules b).number ≡ n
buying_is n b e = grind (arith, nat_tests)

band_is : (n : ℕ) (b : PriceBand) → band_of_percent n ≡ Some b → band_percent b ≡ n
band_is n b e = grind (arith, nat_tests)

-- a row, the numbers of its line, and what makes it good
pub record Said {X : Type 0} (l : Letter) (make : List ℕ → Result X FieldFault) (numbers : X → List ℕ) (Good : X → Type 0) : Type 0 where
  pub read : (ns : List ℕ) (x : X) → Within (letter_rules l).fields ns → make ns ≡ Ok x → (ns ≡ numbers x) × Good x
  pub within : (x : X) → Good x → Within (letter_rules l).fields (numbers x)
  pub back : (x : X) → Good x → make (numbers x) ≡ Ok x

abbrev pub GoodSecurity : Security → Type 0
GoodSecurity s = security_present s ≡ true

abbrev pub GoodHeld : {O : Type 0} → Quantity → (O → ℕ) → Holding O → Type 0
GoodHeld numbers number h = (held_present numbers number h ≡ true) × (h.sellable ≡ h.opening)

abbrev pub GoodHolding : Holding Participant → Type 0
GoodHolding = GoodHeld quantity.Participant (λ p. p.0)

abbrev pub GoodAccountHolding : Holding Account → Type 0
GoodAccountHolding = GoodHeld quantity.Account (λ a. a.0)

abbrev pub GoodDesignation : Designation → Type 0
GoodDesignation d = designation_present d ≡ true

mode_in : (b : Buying) → in_range (range_of quantity.Mode) (buying_rules b).number ≡ true
mode_in b = grind arith

band_in : (b : PriceBand) → in_range (range_of quantity.Band) (band_percent b) ≡ true
band_in b = grind arith

security_read : (ns : List ℕ) (x : Security) → Within (letter_rules letter.Security).fields ns → security_of ns ≡ Ok x → (ns ≡ security_numbers x) × GoodSecurity x
security_read ns x w e =
    let f = four ns (within_long (letter_rules letter.Security).fields ns w) in
    let w4 = subst (Within (letter_rules letter.Security).fields) f w in
    by_then (named_case 18 (buying_numbered (get_or ns 1 0))) (λ b. and_then (named_case 50 (band_of_percent (get_or ns 3 0))) (λ d. Ok (record { code = get_or ns 0 0; buying = b; close = get_or ns 2 0; band = d }))) x e (λ b eb e2.
    by_then (named_case 50 (band_of_percent (get_or ns 3 0))) (λ d. Ok (record { code = get_or ns 0 0; buying = b; close = get_or ns 2 0; band = d })) x e2 (λ d ed e3.
    let q : record { code = get_or ns 0 0; buying = b; close = get_or ns 2 0; band = d } ≡ x = cc in
    let m = buying_is (get_or ns 1 0) b (named_ok 18 (buying_numbered (get_or ns 1 0)) b eb) in
    let p = band_is (get_or ns 3 0) d (named_ok 50 (band_of_percent (get_or ns 3 0)) d ed) in (
      f ∙ ap (λ (n : ℕ). get_or ns 0 0 ∷ (n ∷ (get_or ns 2 0 ∷ (get_or ns 3 0 ∷ [])))) (sym m) ∙ ap (λ (n : ℕ). get_or ns 0 0 ∷ ((buying_rules b).number ∷ (get_or ns 2 0 ∷ (n ∷ [])))) (sym p) ∙ ap security_numbers q,
      subst GoodSecurity q (rw (w4.0, w4.1.1.0) refl),
    )))

security_back : (x : Security) → security_of (security_numbers x) ≡ Ok x
security_back x = rw (buying_back x.buying, band_back x.band) refl

security_said : Said letter.Security security_of security_numbers GoodSecurity
security_said = record {
  read = security_read;
  within = λ x g. ((and_parts _ _ g).0, (mode_in x.buying, ((and_parts (in_range (range_of quantity.Code) x.code) _ g).1, (band_in x.band, tt))));
  back = λ x g. security_back x;
}

-- the holdings of owners that have such numbers
module _ {O : Type 0} (l : Letter) (numbers : Quantity) (owner : ℕ → O) (number : O → ℕ) (fields : (letter_rules l).fields ≡ numbers ∷ (quantity.Code ∷ (quantity.Holding ∷ []))) (back : (n : ℕ) → number (owner n) ≡ n) (forth : (o : O) → owner (number o) ≡ o) where
  held_read : (ns : List ℕ) (x : Holding O) → Within (letter_rules l).fields ns → held_of owner ns ≡ Ok x → (ns ≡ held_numbers number x) × GoodHeld numbers number x
  held_read ns x within e =
      let w = subst (λ qs. Within qs ns) fields within in
      let f = three ns (within_long (numbers ∷ (quantity.Code ∷ (quantity.Holding ∷ []))) ns w) in
      let w3 = subst (Within (numbers ∷ (quantity.Code ∷ (quantity.Holding ∷ [])))) f w in
      let q : record { owner = owner (get_or ns 0 0); code = get_or ns 1 0; opening = get_or ns 2 0; sellable = get_or ns 2 0 } ≡ x = cc in (
        f ∙ ap (λ (n : ℕ). n ∷ (get_or ns 1 0 ∷ (get_or ns 2 0 ∷ []))) (sym (back (get_or ns 0 0))) ∙ ap (held_numbers number) q,
        subst (GoodHeld numbers number) q (rw (back (get_or ns 0 0), w3.0, w3.1.0, w3.1.1.0) (le-leb (get_or ns 2 0) (get_or ns 2 0) (omega arith)), refl),
      )

  held_within : (x : Holding O) → held_present numbers number x ≡ true → Within (letter_rules l).fields (held_numbers number x)
  held_within x g =
      let a = and_parts (held_bounds numbers number x) _ g in
      let b = and_parts _ _ a.0 in
      let c = and_parts _ _ b.0 in
      subst (λ qs. Within qs (held_numbers number x)) (sym fields) (c.0, (c.1, (b.1, tt)))

  held_said : Said l (held_of owner) (held_numbers number) (GoodHeld numbers number)
  held_said = record {
    read = held_read;
    within = λ x g. held_within x g.0;
    back = λ x g. ap (λ (o : O). Ok (record { owner = o; code = x.code; opening = x.opening; sellable = x.opening })) (forth x.owner) ∙ ap (λ (n : ℕ). Ok (record { owner = x.owner; code = x.code; opening = x.opening; sellable = n })) (sym g.1);
  }

designation_read : (ns : List ℕ) (x : Designation) → Within (letter_rules letter.Designation).fields ns → designation_of ns ≡ Ok x → (ns ≡ designation_numbers x) × GoodDesignation x
designation_read ns x w e =
    let f = two ns (within_long (letter_rules letter.Designation).fields ns w) in
    let w2 = subst (Within (letter_rules letter.Designation).fields) f w in
    let q : record { account = get_or ns 0 0; participant = get_or ns 1 0 } ≡ x = cc in
    (f ∙ ap designation_numbers q, subst GoodDesignation q (rw (w2.0, w2.1.0) refl))

designation_said : Said letter.Designation designation_of designation_numbers GoodDesignation
designation_said = record {
  read = designation_read;
  within = λ x g. let a = and_parts _ _ g in (a.0, (a.1, tt));
  back = λ x g. refl;
}

-- what a group needs to know of its lines
module _ {X : Type 0} (l : Letter) (make : List ℕ → Result X FieldFault) (numbers : X → List ℕ) (Good : X → Type 0) (said : Said l make numbers Good) (day : (letter_rules l).part ≡ part.Day) where
  row_read : (line : List ℕ) (x : X) → line_of l make line ≡ Ok x → (take (width_of l) line ≡ written_line l (numbers x)) × Good x
  row_read line x e =
      let r = line_read l make day line x e in
      let s = said.read r.0 x r.1.within r.2 in
      (r.1.form ∙ ap (written_line l) s.0, s.1)

  row_back : (x : X) (more : List ℕ) → Good x → line_of l make (written_line l (numbers x) ++ more) ≡ Ok x
  row_back x more g = line_written l make day (numbers x) more x (said.within x g) (said.back x g)

  row_opens : (x : X) (more : List ℕ) → Good x → starts l (written_line l (numbers x) ++ more) ≡ true
  row_opens x more g = starts_written l (numbers x) more

  row_wide : (x : X) → Good x → length (written_line l (numbers x)) ≡ width_of l
  row_wide x g = written_wide l (numbers x) (said.within x g)

  pub row_lined : {S : Type 0} (first : S) (step : S → X → Result S FieldFault) → Lined (record { letter = l; reads = line_of l make; first = first; step = step }) (λ x. written_line l (numbers x)) Good
  row_lined first step = record { read = row_read; back = row_back; opens = row_opens; wide = row_wide }

pub security_lined : Lined security_kind (λ s. written_line letter.Security (security_numbers s)) GoodSecurity
security_lined = row_lined letter.Security security_of security_numbers GoodSecurity security_said refl security_kind.first security_kind.step

pub holding_lined : Lined holding_kind (λ h. written_line letter.Holding (holding_numbers h)) GoodHolding
holding_lined = row_lined letter.Holding holding_of holding_numbers GoodHolding (held_said letter.Holding quantity.Participant participant (λ p. p.0) refl (λ n. refl) (λ p. refl)) refl holding_kind.first holding_kind.step

pub account_holding_lined : Lined account_holding_kind (λ h. written_line letter.AccountHolding (account_holding_numbers h)) GoodAccountHolding
account_holding_lined = row_lined letter.AccountHolding account_holding_of account_holding_numbers GoodAccountHolding (held_said letter.AccountHolding quantity.Account account (λ a. a.0) refl (λ n. refl) (λ a. refl)) refl account_holding_kind.first account_holding_kind.step

pub designation_lined : Lined designation_kind (λ d. written_line letter.Designation (designation_numbers d)) GoodDesignation
designation_lined = row_lined letter.Designation designation_of designation_numbers GoodDesignation designation_said refl designation_kind.first designation_kind.step
