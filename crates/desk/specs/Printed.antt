-- The lines that are printed, in the input's own layout.
use Rattle.std.specs.Prelude.{◌≡◌, ℕ, zero, suc, Bool, true, false, List, [], ◌∷◌, ◌++◌, replicate, decimal, ℤ, Ok, Err, Result}
use Rattle.std.specs.Fmt.{signed_decimal}
use Rattle.rules.specs.declared.letter.Letter.{Letter}
use Rattle.rules.specs.declared.refusal.Refusal.{Refusal}
use Rattle.rules.specs.declared.refusal.Refusal.TheVariants as refusal
use Rattle.rules.specs.Letters.{letter_rules, part_number}
use Rattle.rules.specs.Refusals.{refusal_number}
use Rattle.fields.specs.declared.fault.DayFault.{DayFault}
use Rattle.fields.specs.Written.{columned, in_columns}
use Rattle.desk.specs.declared.printing.Fault.{Fault}
use Rattle.desk.specs.declared.printing.Fault.TheVariants as fault

-- A refusal's number, 0 where there is none.
abbrev pub refusal_shown : Result ℕ Refusal → ℕ
refusal_shown (Ok n) = 0
refusal_shown (Err e) = refusal_number e

-- The number of an order, 0 where there is a refusal.
abbrev pub order_shown : Result ℕ Refusal → ℕ
order_shown (Ok n) = n
order_shown (Err e) = 0

-- A signed number in sixteen columns: a minus stands straight before the digits.
abbrev pub signed_columns : ℤ → List ℕ
signed_columns z = columned 16 (signed_decimal z)

-- An event's line: its letter, the refusal or 0, the order's number or 0, the balance.
abbrev pub event_line : Letter → Result ℕ Refusal → ℤ → List ℕ
event_line l shows balance =
    (letter_rules l).byte ∷ (in_columns 16 (refusal_shown shows) ++ (in_columns 16 (order_shown shows) ++ (signed_columns balance ++ (10 ∷ []))))

-- A fault's line: an exclamation mark, the cause, the column, the letter's byte, the line, the part.
abbrev pub fault_line : ℕ → ℕ → ℕ → ℕ → ℕ → List ℕ
fault_line cause column letter line part =
    33 ∷ (in_columns 16 cause ++ (in_columns 16 column ++ (in_columns 16 letter ++ (in_columns 16 line ++ (in_columns 16 part ++ (10 ∷ []))))))

-- The line of a fault.
abbrev pub shown_fault : DayFault → List ℕ
shown_fault f = fault_line (refusal_number f.line.field.cause) f.line.field.column f.line.letter f.line.line (part_number f.part)

-- The line of a fault, and of an input that is too long: the cause is room, and nothing else is known.
abbrev pub printed_fault : Fault → List ℕ
printed_fault fault.TooLong = fault_line (refusal_number refusal.Room) 0 0 0 0
printed_fault (fault.Day f) = shown_fault f

-- The digits of a number, behind a minus where it is below 0.
abbrev pub signed : Bool → ℕ → List ℕ
signed true n = 45 ∷ decimal n
signed false n = decimal n

-- The bytes are spaces, and from a place on this text.
abbrev pub Filled : List ℕ → ℕ → List ℕ → Type 0
Filled bytes from text = bytes ≡ replicate from 32 ++ text

-- A text with another one written over it from a place on, as far as it goes.
abbrev pub over : ℕ → List ℕ → List ℕ → List ℕ
over at line [] = []
over (suc at) line (b ∷ text) = b ∷ over at line text
over zero [] (b ∷ text) = b ∷ text
over zero (c ∷ line) (b ∷ text) = c ∷ over zero line text

-- What an answer is written on: its bytes, how long what was written is, and which lent text it is, 0 where none is lent.
pub record Paper : Type 0 where
  pub bytes : List ℕ
  pub size : ℕ
  pub lent : ℕ

-- What was written stays, and behind it one more text is written, of which this holds.
abbrev pub Appends : {O : Type 0} → (O → Paper) → (O → List ℕ → Paper) → O → O → (List ℕ → Type 0) → Type 0
Appends view after from to Holds = (text : List ℕ) × (view to ≡ after from text) × Holds text
