-- The rows that the lines of the day part give.
use Rattle.std.specs.Prelude.{ℕ, cond, List, Some, None, Ok, Err, Option, Result, ◌==◌, slice_index}
use Rattle.rules.specs.declared.letter.Letter.{Letter}
use Rattle.rules.specs.declared.refusal.Refusal.TheVariants as refusal
use Rattle.rules.specs.Buyings.{buying_numbered}
use Rattle.rules.specs.Letters.{letter_rules}
use Rattle.rules.specs.Prices.{band_of_percent}
use Rattle.tables.specs.declared.rows.Security.{Security}
use Rattle.tables.specs.declared.rows.Holding.{Holding}
use Rattle.tables.specs.declared.owner.Participant.{Participant}
use Rattle.tables.specs.declared.owner.Account.{Account}
use Rattle.tables.specs.Owners.{participant, account}
use Rattle.tables.specs.declared.rows.Designation.{Designation}
use Rattle.fields.specs.declared.fault.FieldFault.{FieldFault}
use Rattle.fields.specs.Faults.{and_then}
use Rattle.fields.specs.Layout.{opening, day_letters}
use Rattle.fields.specs.Numbers.{numbers_from}

-- The case that a number names, or a fault of range at the field's first column.
abbrev pub named_case : {X : Type 0} → ℕ → Option X → Result X FieldFault
named_case column (Some x) = Ok x
named_case column None = Err (record { cause = refusal.Range; column = column })

-- The row of an S line's numbers.
abbrev pub security_of : List ℕ → Result Security FieldFault
security_of ns =
    and_then (named_case 18 (buying_numbered (slice_index ns 1))) (λ buying.
    and_then (named_case 50 (band_of_percent (slice_index ns 3))) (λ band.
    Ok (record { code = slice_index ns 0; buying = buying; close = slice_index ns 2; band = band })))

-- The row of the numbers of an owner's holding: all of the shares may be sold.
abbrev pub held_of : {O : Type 0} → (ℕ → O) → List ℕ → Result (Holding O) FieldFault
held_of owner ns = Ok (record { owner = owner (slice_index ns 0); code = slice_index ns 1; opening = slice_index ns 2; sellable = slice_index ns 2 })

-- The row of a P line's numbers.
abbrev pub holding_of : List ℕ → Result (Holding Participant) FieldFault
holding_of = held_of participant

-- The row of an A line's numbers.
abbrev pub account_holding_of : List ℕ → Result (Holding Account) FieldFault
account_holding_of = held_of account

-- The row of a G line's numbers.
abbrev pub designation_of : List ℕ → Result Designation FieldFault
designation_of ns = Ok (record { account = slice_index ns 0; participant = slice_index ns 1 })

-- The fault of a good line out of its place.
abbrev pub out_of_place : {X : Type 0} → Result X FieldFault → FieldFault
out_of_place (Ok x) = record { cause = refusal.Sequence; column = 1 }
out_of_place (Err f) = f

-- The fault of a line where another kind has to stand: a fault of its own fields comes first.
abbrev pub misplaced : List ℕ → FieldFault
misplaced line = out_of_place (and_then (opening day_letters line) (λ l. numbers_from 0 (letter_rules l).fields line))

-- What a line gives where one of the letter has to stand.
abbrev pub line_of : {X : Type 0} → Letter → (List ℕ → Result X FieldFault) → List ℕ → Result X FieldFault
line_of wanted make line =
    and_then (opening day_letters line) (λ l.
    cond ((letter_rules l).byte == (letter_rules wanted).byte)
    (and_then (numbers_from 0 (letter_rules wanted).fields line) make)
    (Err (misplaced line)))
