-- How a line lies in the input: a letter, fields of sixteen columns, a line feed.
use Rattle.std.specs.Prelude.{◌≡◌, ℕ, zero, suc, ◌+◌, ◌*◌, cond, ◌&&◌, List, [], ◌∷◌, length, take, drop, Some, None, Ok, Err, Option, Result, ◌==◌, nat_lt, slice_index}
use Rattle.std.specs.Array.{IsElementAt}
use Rattle.rules.specs.declared.refusal.Refusal.TheVariants as refusal
use Rattle.rules.specs.declared.letter.Letter.{Letter}
use Rattle.rules.specs.declared.letter.Letter.TheVariants as letter
use Rattle.rules.specs.declared.letter.Part.{Part}
use Rattle.rules.specs.declared.letter.Part.TheVariants as part
use Rattle.rules.specs.Cases.{numbered}
use Rattle.rules.specs.Letters.{letter_rules}
use Rattle.fields.specs.declared.fault.FieldFault.{FieldFault}
use Rattle.fields.specs.declared.field.Field.{Field}
use Rattle.fields.specs.Faults.{and_then}

-- The sixteen bytes of field j, counted from 0.
abbrev pub part_of : List ℕ → ℕ → List ℕ
part_of line j = take 16 (drop (1 + 16 * j) line)

-- The field is the line's field j, and names its first column, counted from 1.
pub record FieldAt (line : List ℕ) (j : ℕ) (f : Field) : Type 0 where
  pub bytes : f.bytes.now ≡ part_of line j
  pub column : f.column ≡ 2 + 16 * j

-- Each of n values is made of the line's field at its place, from place j on.
abbrev pub MadeFrom : {T : Type 0} → (Field → T → Type 0) → List ℕ → List T → ℕ → ℕ → Type 0
MadeFrom R line xs j zero = Unit {0}
MadeFrom {T} R line xs j (suc n) = (f : Field) × (x : T) × FieldAt line j f × R f x × IsElementAt xs j x × MadeFrom R line xs (j + 1) n

-- A line feed has to stand straight after n fields.
abbrev pub closing : List ℕ → ℕ → Result (Unit {0}) FieldFault
closing line n =
    cond (nat_lt (1 + 16 * n) (length line) && slice_index line (1 + 16 * n) == 10) (Ok tt)
    (Err (record { cause = refusal.Length; column = 1 }))

-- The bytes that a line of the letter takes.
abbrev pub width_of : Letter → ℕ
width_of l = 2 + 16 * length (letter_rules l).fields

-- A line of the letter ends where its fields do; a line without a letter is refused.
abbrev pub closed : List ℕ → Option Letter → Result Letter FieldFault
closed line None = Err (record { cause = refusal.Letter; column = 1 })
closed line (Some l) = and_then (closing line (length (letter_rules l).fields)) (λ _. Ok l)

-- The letter of the list that a byte is.
abbrev pub letter_in : List Letter → ℕ → Option Letter
letter_in = numbered (λ l. (letter_rules l).byte)

-- The letter of the line that the input goes on with, or the fault by which it is refused before its fields are read.
abbrev pub opening : List Letter → List ℕ → Result Letter FieldFault
opening letters line =
    cond (length line == 0) (Err (record { cause = refusal.Length; column = 1 }))
    (closed line (letter_in letters (slice_index line 0)))

-- The letters of the day part.
abbrev pub day_letters : List Letter
day_letters = letter.Day ∷ (letter.Security ∷ (letter.Holding ∷ (letter.AccountHolding ∷ (letter.Designation ∷ (letter.End ∷ [])))))

-- The letters of the event part.
abbrev pub event_letters : List Letter
event_letters = letter.Step ∷ (letter.Notice ∷ (letter.Link ∷ (letter.Buy ∷ (letter.Sell ∷ (letter.Trade ∷ (letter.Return ∷ (letter.Confirm ∷ (letter.Decline ∷ (letter.Cancel ∷ (letter.Close ∷ []))))))))))

-- Each part's letters.
abbrev pub letters_of : Part → List Letter
letters_of part.Day = day_letters
letters_of part.Event = event_letters
