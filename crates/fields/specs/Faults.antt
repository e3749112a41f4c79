-- Each layer hands the fault of the layer below on whole.
use Rattle.std.specs.Prelude.{ℕ, Ok, Err, Result}
use Rattle.rules.specs.declared.letter.Part.{Part}
use Rattle.fields.specs.declared.fault.FieldFault.{FieldFault}
use Rattle.fields.specs.declared.fault.LineFault.{LineFault}
use Rattle.fields.specs.declared.fault.DayFault.{DayFault}

-- One thing read after another: the first fault stands.
abbrev pub and_then : {A B E : Type 0} → Result A E → (A → Result B E) → Result B E
and_then (Ok x) next = next x
and_then (Err e) next = Err e

-- The same value, or the fault with something put beside it.
abbrev pub beside_of : {T E F : Type 0} → Result T E → (E → F) → Result T F
beside_of (Ok x) put = Ok x
beside_of (Err f) put = Err (put f)

-- A field's fault becomes that of a line, with the line's letter and number.
abbrev pub line_at : {T : Type 0} → ℕ → ℕ → Result T FieldFault → Result T LineFault
line_at letter line r = beside_of r (λ f. record { field = f; letter = letter; line = line })

-- A line's fault becomes that of the day's input, with the part that the line stands in.
abbrev pub day_at : {T : Type 0} → Part → Result T LineFault → Result T DayFault
day_at part r = beside_of r (λ f. record { line = f; part = part })
