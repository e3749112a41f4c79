-- A group of the day part: lines of one letter that follow one another.
use Rattle.std.specs.Prelude.{◌≡◌, ℕ, zero, suc, ◌+◌, ◌*◌, ◌<◌, ◌≤◌, Bool, true, false, cond, ◌&&◌, List, [], ◌∷◌, ◌++◌, length, drop, is_ok, Some, None, Ok, Err, Option, Result, ◌==◌, nat_lt, slice_index}
use Rattle.rules.specs.declared.letter.Letter.{Letter}
use Rattle.rules.specs.declared.refusal.Refusal.TheVariants as refusal
use Rattle.rules.specs.Letters.{letter_rules}
use Rattle.tables.specs.Tables.{Lent}
use Rattle.fields.specs.declared.fault.FieldFault.{FieldFault}
use Rattle.fields.specs.declared.fault.LineFault.{LineFault}
use Rattle.fields.specs.Faults.{and_then, line_at}
use Rattle.fields.specs.Layout.{width_of}

-- A kind of line whose rows fill a table: its letter, the row that a line gives, what is known before the first line,
-- and what is known after a row, or why the row may not follow.
pub record Kind (R S : Type 0) : Type 0 where
  pub letter : Letter
  pub reads : List ℕ → Result R FieldFault
  pub first : S
  pub step : S → R → Result S FieldFault

-- The input goes on with a line of the letter.
abbrev pub starts : Letter → List ℕ → Bool
starts l line = nat_lt 0 (length line) && slice_index line 0 == (letter_rules l).byte

-- What is known after the next line: its fields are judged first, then whether it may follow.
abbrev pub following : {R S : Type 0} → Kind R S → S → List ℕ → Result S FieldFault
following kind s line = and_then (kind.reads line) (λ x. kind.step s x)

-- The fault of a line that the table has no room for.
abbrev pub no_room : Letter → ℕ → LineFault
no_room l nr = record { field = record { cause = refusal.Room; column = 1 }; letter = (letter_rules l).byte; line = nr }

-- One line of the group, numbered nr: none where the group is over.
abbrev pub turn : {R S : Type 0} → Kind R S → Bool → S → ℕ → List ℕ → Result (Option S) LineFault
turn kind full s nr line =
    cond (starts kind.letter line)
    (and_then (line_at (letter_rules kind.letter).byte nr (following kind s line)) (λ t. cond full (Err (no_room kind.letter nr)) (Ok (Some t))))
    (Ok None)

-- How many lines the group has, with room for so many more after those counted, or its first fault.
unfoldable pub group : {R S : Type 0} → Kind R S → ℕ → ℕ → S → ℕ → List ℕ → Result ℕ LineFault
group kind zero count s nr line = and_then (turn kind true s nr line) (λ o. Ok count)
group kind (suc room) count s nr line =
    and_then (turn kind false s nr line) (λ o. elim o [ None ↦ Ok count | Some t ↦ group kind room (count + 1) t (nr + 1) (drop (width_of kind.letter) line) ])

-- The row of a line that is read without a fault.
abbrev pub oks : {R E : Type 0} → Result R E → List R
oks (Ok x) = x ∷ []
oks (Err e) = []

-- The rows of the next n lines.
abbrev pub rows_of : {R S : Type 0} → Kind R S → ℕ → List ℕ → List R
rows_of kind zero line = []
rows_of kind (suc n) line = rows_of kind n line ++ oks (kind.reads (drop (width_of kind.letter * n) line))

-- n lines of the kind stand whole at a place of the input, and fit a table of so much room.
pub record Lines {R S : Type 0} (kind : Kind R S) (room at : ℕ) (input : List ℕ) (n : ℕ) : Type 0 where
  pub few : n ≤ room
  pub within : at + width_of kind.letter * n ≤ length input
  pub good : (i : ℕ) → i < n → is_ok (kind.reads (drop (width_of kind.letter * i) (drop at input))) ≡ true

-- A table whose lines are the next n lines of the kind, and whose rows past them are as they were.
abbrev pub filled : {R S : Type 0} → Kind R S → ℕ → List ℕ → Lent R → Lent R
filled kind n input old = record { rows = rows_of kind n input ++ drop n old.rows; count = n }
