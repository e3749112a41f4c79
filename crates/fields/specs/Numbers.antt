-- The numbers of a line, and the line that is written of them.
use Rattle.std.specs.Prelude.{◌≡◌, ℕ, ◌+◌, ◌*◌, ◌≤◌, true, List, [], ◌∷◌, ◌++◌, length, take, Ok, Result}
use Rattle.std.specs.List.{flat_map}
use Rattle.rules.specs.declared.letter.Letter.{Letter}
use Rattle.rules.specs.declared.range.Quantity.{Quantity}
use Rattle.rules.specs.Letters.{letter_rules}
use Rattle.rules.specs.Ranges.{in_range, range_of}
use Rattle.fields.specs.declared.fault.FieldFault.{FieldFault}
use Rattle.fields.specs.Faults.{and_then}
use Rattle.fields.specs.Layout.{part_of, opening, letters_of, width_of}
use Rattle.fields.specs.Reading.{ranging}
use Rattle.fields.specs.Written.{in_columns}

-- The number of a line's field j, in the range of its quantity.
abbrev pub field_in : List ℕ → ℕ → Quantity → Result ℕ FieldFault
field_in line j quantity = ranging quantity (part_of line j) (2 + 16 * j)

-- The numbers of a line's fields from j on, judged from the left, each in the range of its quantity.
abbrev pub numbers_from : ℕ → List Quantity → List ℕ → Result (List ℕ) FieldFault
numbers_from j [] line = Ok []
numbers_from j (q ∷ qs) line = and_then (field_in line j q) (λ n. and_then (numbers_from (j + 1) qs line) (λ ns. Ok (n ∷ ns)))

-- A line as it is written: its letter, each number in sixteen columns, a line feed.
abbrev pub written_line : Letter → List ℕ → List ℕ
written_line l ns = (letter_rules l).byte ∷ (flat_map (in_columns 16) ns ++ (10 ∷ []))

-- There are as many numbers as quantities, and each is in its quantity's range.
abbrev pub Within : List Quantity → List ℕ → Type 0
Within [] [] = Unit {0}
Within [] (n ∷ ns) = ⊥
Within (q ∷ qs) [] = ⊥
Within (q ∷ qs) (n ∷ ns) = (in_range (range_of q) n ≡ true) × Within qs ns

-- The input goes on with a line of the letter, and its fields give these numbers.
pub record ReadAs (letters : List Letter) (l : Letter) (ns line : List ℕ) : Type 0 where
  pub opens : opening letters line ≡ Ok l
  pub numbers : numbers_from 0 (letter_rules l).fields line ≡ Ok ns

-- The input begins with the written line of the letter and these numbers, each in its range.
pub record WrittenAs (l : Letter) (ns line : List ℕ) : Type 0 where
  pub within : Within (letter_rules l).fields ns
  pub long : width_of l ≤ length line
  pub form : take (width_of l) line ≡ written_line l ns

-- What is read of a line of the letter is what was written, whatever follows the line.
pub record ReadsBack (l : Letter) : Type 0 where
  pub read : (letters : List Letter) (ns line : List ℕ) → ReadAs letters l ns line → WrittenAs l ns line
  pub written : (ns more : List ℕ) → Within (letter_rules l).fields ns → ReadAs (letters_of (letter_rules l).part) l ns (written_line l ns ++ more)
  pub wide : (ns : List ℕ) → Within (letter_rules l).fields ns → length (written_line l ns) ≡ width_of l
