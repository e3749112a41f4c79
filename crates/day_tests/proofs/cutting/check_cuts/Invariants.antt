use Rattle.std.proofs.Common.{◌≡◌, ◌++◌, take, vec_items}
use Rattle.day_tests.proofs.cutting.check_cuts.Given as goal

-- The bytes so far stand behind the input.
abbrev pub invariant-loop-b : goal.invariant-loop-b
invariant-loop-b l = vec_items l.input ≡ vec_items l.initial.input ++ take l.b-index l.line
