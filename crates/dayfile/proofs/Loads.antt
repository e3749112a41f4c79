-- What a load leaves, in the file's own terms.
use Rattle.std.proofs.Common.{◌≡◌, ℕ, zero, suc, ◌*◌, ◌<◌, true, List, [], ◌∷◌, length, drop, is_ok, Ok, Err, Result, sym, refl, ap, ◌∙◌, subst, arith}
use Rattle.std.specs.List.{AllByRecursion}
use Rattle.std.proofs.lemmas.List.{length-append, take_at}
use Rattle.rules.specs.declared.letter.Part.TheVariants as part
use Rattle.tables.specs.declared.rows.Holding.{Holding}
use Rattle.registers.specs.Registers.{FreshHoldings, own_finds, designated_finds, participant_meaning, account_meaning}
use Rattle.registers.proofs.Fresh.{fresh_lines}
use Rattle.registers.specs.Meaning.{Fresh}
use Rattle.fields.specs.declared.fault.DayFault.{DayFault}
use Rattle.fields.specs.declared.fault.LineFault.{LineFault}
use Rattle.fields.specs.Faults.{day_at}
use Rattle.fields.specs.Layout.{width_of}
use Rattle.gate.specs.declared.day.LoadingDay.{LoadingDay}
use Rattle.dayfile.specs.declared.loaded.Loaded.{Loaded}
use Rattle.rules.specs.declared.range.Quantity.TheVariants as quantity
use Rattle.tables.specs.Tables.{Lent, lines_of}
use Rattle.dayfile.specs.declared.lent.Tables.{Tables}
use Rattle.dayfile.specs.DayPart.{Plan, day_part, Planned, securities_at, holdings_at, account_holdings_at, designations_at}
use Rattle.dayfile.specs.Description.{Describes, described, plan_of}
use Rattle.dayfile.specs.Groups.{Kind, Lines, filled, oks, rows_of}
use Rattle.dayfile.specs.Kinds.{security_kind, holding_kind, account_holding_kind, designation_kind}
use Rattle.dayfile.specs.Loads.{Begins, Load, filled_by, Holds, loaded, room_of}
use Rattle.dayfile.proofs.Law.{day_read, day_written}

ok_one : {R E : Type 0} (r : Result R E) → is_ok r ≡ true → length (oks r) ≡ 1
ok_one r e = grind arith

module _ {R S : Type 0} (kind : Kind R S) where
  -- each good line gives a row
  rows_long : (n : ℕ) (line : List ℕ) → ((i : ℕ) → i < n → is_ok (kind.reads (drop (width_of kind.letter * i) line)) ≡ true) → length (rows_of kind n line) ≡ n
  rows_long zero line good = refl
  rows_long (suc n) line good =
      length-append (rows_of kind n line) (oks (kind.reads (drop (width_of kind.letter * n) line)))
      ∙ omega (arith, rows_long n line (λ i l. good i (omega arith)), ok_one (kind.reads (drop (width_of kind.letter * n) line)) (good n (omega arith)))

  -- the lines of a table that was filled are those rows
  filled_lines : (room at : ℕ) (input : List ℕ) (n : ℕ) (old : Lent R) → Lines kind room at input n → lines_of (filled kind n (drop at input) old) ≡ rows_of kind n (drop at input)
  filled_lines room at input n old l = take_at (rows_of kind n (drop at input)) (drop n old.rows) n (rows_long n (drop at input) l.good)

fresh_holdings : {O : Type 0} (hs : List (Holding O)) → AllByRecursion (λ h. h.sellable ≡ h.opening) hs → FreshHoldings hs
fresh_holdings [] a = tt
fresh_holdings (h ∷ hs) a = (a.0, fresh_holdings hs a.1)

day_err : (r : Result Plan LineFault) (f : DayFault) (made : Plan) → day_at part.Day r ≡ Err f → r ≡ Ok made → ⊥
day_err r f made e q = grind arith

same_tables : (r : Result Plan LineFault) (f : DayFault) (input : List ℕ) (before : Tables) → day_at part.Day r ≡ Err f → before ≡ loaded r input before
same_tables (Ok p) f input before e = cc
same_tables (Err g) f input before e = refl

-- a load that is refused
pub refused : (input : List ℕ) (before : Tables) (day : LoadingDay) (f : DayFault) → day_at part.Day (day_part input (room_of before)) ≡ Err f → Load input before (Err (day, f)) before
refused input before day f e = record {
  answers = e;
  leaves = same_tables (day_part input (room_of before)) f input before e;
  described = tt;
  accepts = λ d is. absurd (day_err (day_part input (room_of before)) f (plan_of d) e (day_written input (room_of before) d is).0);
}

-- the tables hold the lines of what the day part is the written form of
holds_described : (input : List ℕ) (before : Tables) (made : Plan) → Planned input (room_of before) made → Describes input (room_of before) (described input made) → Holds (described input made) (filled_by made input before)
holds_described input before made p is =
    let s = filled_lines security_kind _ securities_at input made.counts.securities before.securities p.securities in
    let h = filled_lines holding_kind _ (holdings_at made.counts) input made.counts.holdings before.holdings p.holdings in
    let a = filled_lines account_holding_kind _ (account_holdings_at made.counts) input made.counts.account_holdings before.account_holdings p.account_holdings in
    let g = filled_lines designation_kind _ (designations_at made.counts) input made.counts.designations before.designations p.designations in
    record {
      securities = s;
      holdings = h;
      account_holdings = a;
      designations = g;
      participants_fresh = subst (λ hs. Fresh (participant_meaning hs)) (sym h) (fresh_lines quantity.Participant (λ p. p.0) own_finds (described input made).holdings (fresh_holdings (described input made).holdings is.well_formed.holdings_fresh));
      accounts_fresh = subst (λ hs. Fresh (account_meaning hs (lines_of (filled_by made input before).designations))) (sym a) (fresh_lines quantity.Account (λ a. a.0) (designated_finds (lines_of (filled_by made input before).designations)) (described input made).account_holdings (fresh_holdings (described input made).account_holdings is.well_formed.account_holdings_fresh));
    }

-- a load that is accepted
pub taken : (input : List ℕ) (before after : Tables) (l : Loaded) (made : Plan) → day_part input (room_of before) ≡ Ok made → Planned input (room_of before) made → Begins input made l.day.figures l.events.bytes.now l.events.line → after ≡ filled_by made input before → Load input before (Ok l) after
taken input before after l made is p b f =
    let d = day_read input (room_of before) made is in
    let h : Holds (described input made) after = subst (Holds (described input made)) (sym f) (holds_described input before made p d) in
    record {
      answers = (made, is, b);
      leaves = f ∙ sym (ap (λ r. loaded r input before) is);
      described = (described input made, d, h);
      accepts = λ other o.
          let w = day_written input (room_of before) other o in
          let q : made ≡ plan_of other = cc (is, w.0) in
          let same : described input made ≡ other = ap (described input) q ∙ w.1 in
          (refl, subst (λ x. Holds x after) same h);
    }
