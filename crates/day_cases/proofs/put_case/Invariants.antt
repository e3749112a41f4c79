use Rattle.std.proofs.Common.{vec_items}
use Rattle.day_cases.specs.Written.{Grown}
use Rattle.day_cases.proofs.put_case.Given as goal

-- What was there before the loop stays.
abbrev pub invariant-loop-line : goal.invariant-loop-line
invariant-loop-line l = Grown (vec_items l.initial.out) (vec_items l.out)
