use Rattle.std.proofs.Common.{vec_items}
use Rattle.day_cases.specs.Written.{Grown}
use Rattle.day_cases.proofs.escapes.put_bytes.Given as goal

-- What was there before the loop stays.
abbrev pub invariant-loop-b : goal.invariant-loop-b
invariant-loop-b l = Grown (vec_items l.initial.out) (vec_items l.out)
