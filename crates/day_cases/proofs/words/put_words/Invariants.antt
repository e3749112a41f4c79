use Rattle.std.proofs.Common.{vec_items}
use Rattle.day_cases.specs.Written.{Grown}
use Rattle.day_cases.proofs.words.put_words.Given as goal

-- What was there before the loop stays.
abbrev pub invariant-loop-word : goal.invariant-loop-word
invariant-loop-word l = Grown (vec_items l.initial.out) (vec_items l.out)
