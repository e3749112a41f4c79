use Rattle.std.proofs.Common.{vec_items}
use Rattle.day_cases.specs.Written.{Grown}
use Rattle.day_cases.proofs.closing_up.put_closed.Given as goal

-- What was there before the loop stays.
abbrev pub invariant-loop-field : goal.invariant-loop-field
invariant-loop-field l = Grown (vec_items l.initial.out) (vec_items l.out)
