-- The lines of a day's input.
use Rattle.std.specs.Prelude.{ℕ, List, [], ◌∷◌}
use Rattle.rules.specs.declared.letter.Letter.{Letter}
use Rattle.rules.specs.declared.letter.Letter.TheVariants as letter
use Rattle.rules.specs.declared.letter.Part.{Part}
use Rattle.rules.specs.declared.letter.Part.TheVariants as part
use Rattle.rules.specs.declared.range.Quantity.{Quantity}
use Rattle.rules.specs.declared.range.Quantity.TheVariants as field

-- Each part's number.
abbrev pub part_number : Part → ℕ
part_number part.Day = 1
part_number part.Event = 2

-- What the rules say of a kind of line: the byte of its letter, the part that it stands in, and its fields.
pub record LetterRules : Type 0 where
  pub byte : ℕ
  pub part : Part
  pub fields : List Quantity

-- Each kind of line.
abbrev pub letter_rules : Letter → LetterRules
letter_rules letter.Day = record { byte = 68; part = part.Day; fields = field.Market ∷ (field.Date ∷ (field.Quota ∷ [])) }
letter_rules letter.Security = record { byte = 83; part = part.Day; fields = field.Code ∷ (field.Mode ∷ (field.Close ∷ (field.Band ∷ []))) }
letter_rules letter.Holding = record { byte = 80; part = part.Day; fields = field.Participant ∷ (field.Code ∷ (field.Holding ∷ [])) }
letter_rules letter.AccountHolding = record { byte = 65; part = part.Day; fields = field.Account ∷ (field.Code ∷ (field.Holding ∷ [])) }
letter_rules letter.Designation = record { byte = 71; part = part.Day; fields = field.Account ∷ (field.Participant ∷ []) }
letter_rules letter.End = record { byte = 69; part = part.Day; fields = field.Lines ∷ (field.Lines ∷ (field.Lines ∷ (field.Lines ∷ []))) }
letter_rules letter.Step = record { byte = 72; part = part.Event; fields = [] }
letter_rules letter.Notice = record { byte = 70; part = part.Event; fields = field.AnyNumber ∷ (field.AnyNumber ∷ (field.AnyNumber ∷ [])) }
letter_rules letter.Link = record { byte = 85; part = part.Event; fields = field.Link ∷ [] }
letter_rules letter.Buy = record { byte = 66; part = part.Event; fields = field.AnyNumber ∷ (field.AnyNumber ∷ (field.AnyNumber ∷ (field.AnyNumber ∷ (field.AnyNumber ∷ [])))) }
letter_rules letter.Sell = record { byte = 76; part = part.Event; fields = field.AnyNumber ∷ (field.AnyNumber ∷ (field.AnyNumber ∷ (field.AnyNumber ∷ (field.AnyNumber ∷ [])))) }
letter_rules letter.Trade = record { byte = 84; part = part.Event; fields = field.AnyNumber ∷ (field.AnyNumber ∷ (field.AnyNumber ∷ [])) }
letter_rules letter.Return = record { byte = 82; part = part.Event; fields = field.AnyNumber ∷ [] }
letter_rules letter.Confirm = record { byte = 89; part = part.Event; fields = field.AnyNumber ∷ [] }
letter_rules letter.Decline = record { byte = 78; part = part.Event; fields = field.AnyNumber ∷ [] }
letter_rules letter.Cancel = record { byte = 67; part = part.Event; fields = field.AnyNumber ∷ (field.AnyNumber ∷ []) }
letter_rules letter.Close = record { byte = 90; part = part.Event; fields = [] }
