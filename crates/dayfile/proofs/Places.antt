-- Where the groups of a day part stand in the input.
use Rattle.std.proofs.Common.{◌≡◌, ℕ, ◌+◌, ◌*◌, ◌≤◌, List, length, drop, get_or, Ok, Result, ap, sym, refl, ◌∙◌, subst, arith}
use Rattle.tables.specs.declared.owner.Participant.{Participant}
use Rattle.tables.specs.declared.owner.Account.{Account}
use Rattle.tables.specs.declared.rows.Security.{Security}
use Rattle.tables.specs.declared.rows.Holding.{Holding}
use Rattle.tables.specs.declared.rows.Designation.{Designation}
use Rattle.tables.specs.Tables.{Lent}
use Rattle.dayfile.specs.declared.lent.Tables.{Tables}
use Rattle.std.proofs.lemmas.List.{drop-drop, length-drop}
use Rattle.fields.specs.declared.fault.FieldFault.{FieldFault}
use Rattle.fields.specs.declared.fault.LineFault.{LineFault}
use Rattle.fields.specs.Faults.{line_at}
use Rattle.dayfile.specs.Groups.{Kind, Lines, group}
use Rattle.dayfile.specs.declared.plan.Counts.{Counts}
use Rattle.dayfile.specs.DayPart.{securities_at, holdings_at, account_holdings_at, designations_at}
use Rattle.fields.specs.Layout.{width_of}

-- what is left of the input from a place on, and the number of its first line
pub record At (input : List ℕ) (at nr : ℕ) (bytes : List ℕ) (line : ℕ) : Type 0 where
  pub left : bytes ≡ drop at input
  pub numbered : line ≡ nr

pub begins : {input bytes : List ℕ} {line : ℕ} → bytes ≡ input → line ≡ 1 → At input 0 1 bytes line
begins l e = record { left = l; numbered = e }

-- so many bytes and lines further
further : {input : List ℕ} {at nr : ℕ} {bytes bytes' : List ℕ} {line line' : ℕ} (wide n : ℕ) → At input at nr bytes line → bytes' ≡ drop wide bytes → line' ≡ line + n → At input (at + wide) (nr + n) bytes' line'
further {input = input} {at = at} wide n a l e = record { left = l ∙ ap (drop wide) a.left ∙ drop-drop wide at input; numbered = omega (arith, e, a.numbered) }

-- what was read of one line where it stands, and of a group
pub line_read_at : {X : Type 0} (read : List ℕ → Result X FieldFault) {input : List ℕ} {at nr : ℕ} {bytes : List ℕ} {line : ℕ} {r : Result X LineFault} → At input at nr bytes line → r ≡ line_at (get_or bytes 0 0) line (read bytes) → line_at (get_or (drop at input) 0 0) nr (read (drop at input)) ≡ r
line_read_at read a e = rw (← a.left, ← a.numbered) (sym e)

pub read_at : {R S : Type 0} (kind : Kind R S) (room : ℕ) {input : List ℕ} {at nr : ℕ} {bytes : List ℕ} {line : ℕ} {r : Result ℕ LineFault} → At input at nr bytes line → r ≡ group kind room 0 kind.first line bytes → group kind room 0 kind.first nr (drop at input) ≡ r
read_at kind room a e = rw (← a.left, ← a.numbered) (sym e)

-- and where what is left after it stands
pub past_line : {X : Type 0} (read : List ℕ → Result X FieldFault) (wide : ℕ) {input : List ℕ} {at nr : ℕ} {bytes bytes' : List ℕ} {line line' : ℕ} {r : Result X LineFault} → At input at nr bytes line → r ≡ line_at (get_or bytes 0 0) line (read bytes) → bytes' ≡ drop wide bytes → line' ≡ line + 1 → (line_at (get_or (drop at input) 0 0) nr (read (drop at input)) ≡ r) × At input (at + wide) (nr + 1) bytes' line'
past_line read wide a e l n = (line_read_at read a e, further wide 1 a l n)

pub past_group : {R S : Type 0} (kind : Kind R S) (room n : ℕ) {input : List ℕ} {at nr : ℕ} {bytes bytes' : List ℕ} {line line' : ℕ} → At input at nr bytes line → Ok n ≡ group kind room 0 kind.first line bytes → bytes' ≡ drop (width_of kind.letter * n) bytes → line' ≡ line + n → (group kind room 0 kind.first nr (drop at input) ≡ Ok n) × At input (at + width_of kind.letter * n) (nr + n) bytes' line'
past_group kind room n a e l m = (read_at kind room a e, further (width_of kind.letter * n) n a l m)

-- lines that stand at a place stand whole at the front of what is left there, and the other way round
pub front : {R S : Type 0} (kind : Kind R S) {room at n : ℕ} {input bytes : List ℕ} → bytes ≡ drop at input → Lines kind room at input n → Lines kind room 0 bytes n
front kind {at = at} {input = input} left l = rw left (record { few = l.few; within = let w = l.within in let d = length-drop at input in omega arith; good = l.good })

pub placed : {R S : Type 0} (kind : Kind R S) {room at nr n line : ℕ} {input bytes : List ℕ} → At input at nr bytes line → at ≤ length input → Lines kind room 0 bytes n → Lines kind room at input n
placed kind {room = room} {at = at} {n = n} {input = input} a h l =
    let m = subst (λ (b : List ℕ). Lines kind room 0 b n) a.left l in
    record { few = m.few; within = let w = m.within in let d = length-drop at input in omega (arith, h); good = m.good }

-- what is left of the input after its first line, and after each group
module _ (input : List ℕ) (c : Counts) {whole b0 : List ℕ} (all : whole ≡ input) (e0 : b0 ≡ drop securities_at whole) where
  pub left0 : b0 ≡ drop securities_at input
  left0 = rw (← all) e0

  module _ {b1 : List ℕ} (e1 : b1 ≡ drop (66 * c.securities) b0) where
    pub left1 : b1 ≡ drop (holdings_at c) input
    left1 = e1 ∙ rw left0 (drop-drop (66 * c.securities) securities_at input)

    module _ {b2 : List ℕ} (e2 : b2 ≡ drop (50 * c.holdings) b1) where
      pub left2 : b2 ≡ drop (account_holdings_at c) input
      left2 = e2 ∙ rw left1 (drop-drop (50 * c.holdings) (holdings_at c) input)

      pub left3 : {b3 : List ℕ} → b3 ≡ drop (50 * c.account_holdings) b2 → b3 ≡ drop (designations_at c) input
      left3 e3 = e3 ∙ rw left2 (drop-drop (50 * c.account_holdings) (account_holdings_at c) input)

-- four tables that are each the same
pub same_tables : {s s' : Lent Security} {p p' : Lent (Holding Participant)} {a a' : Lent (Holding Account)} {g g' : Lent Designation} → s ≡ s' → p ≡ p' → a ≡ a' → g ≡ g' → ◌≡◌ {A = Tables} (record { securities = s; holdings = p; account_holdings = a; designations = g }) (record { securities = s'; holdings = p'; account_holdings = a'; designations = g' })
same_tables es ep ea eg = rw (es, ep, ea, eg) refl
