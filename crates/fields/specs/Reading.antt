-- A field's number, or the fault that it is refused by.
use Rattle.std.specs.Prelude.{ℕ, ◌+◌, cond, List, Ok, Err, Result}
use Rattle.rules.specs.declared.range.Quantity.{Quantity}
use Rattle.rules.specs.declared.refusal.Refusal.TheVariants as refusal
use Rattle.rules.specs.Ranges.{in_range, range_of}
use Rattle.fields.specs.declared.fault.FieldFault.{FieldFault}
use Rattle.fields.specs.Faults.{and_then, beside_of}
use Rattle.fields.specs.Scan.{scan}

-- The place that rules a field out, as a fault at its column.
abbrev pub digits_fault : ℕ → ℕ → FieldFault
digits_fault column k = record { cause = refusal.Digits; column = column + k }

-- The number that sixteen bytes spell, or the fault at the first byte that rules every number out.
abbrev pub reading : List ℕ → ℕ → Result ℕ FieldFault
reading bs column = beside_of (scan 0 0 bs) (digits_fault column)

-- A number in its quantity's range, or the fault at its field's first column.
abbrev pub bounded : Quantity → ℕ → ℕ → Result ℕ FieldFault
bounded quantity column n = cond (in_range (range_of quantity) n) (Ok n) (Err (record { cause = refusal.Range; column = column }))

-- A field read and then held to its quantity's range.
abbrev pub ranging : Quantity → List ℕ → ℕ → Result ℕ FieldFault
ranging quantity bs column = and_then (reading bs column) (bounded quantity column)
