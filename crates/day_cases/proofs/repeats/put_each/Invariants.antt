use Rattle.std.proofs.Common.{vec_items}
use Rattle.day_cases.specs.Written.{Grown}
use Rattle.day_cases.proofs.repeats.put_each.Given as goal

-- What was there before the loop stays.
abbrev pub invariant-loop-n : goal.invariant-loop-n
invariant-loop-n l = Grown (vec_items l.initial.out) (vec_items l.out)
