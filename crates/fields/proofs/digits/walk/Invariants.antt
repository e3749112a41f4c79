use Rattle.std.proofs.Common.{◌≡◌, ◌^◌, ◌<◌, get_or, drop}
use Rattle.fields.specs.Scan.{scan}
use Rattle.fields.proofs.Turns.{Begun}
use Rattle.fields.proofs.digits.walk.Given as goal

abbrev pub invariant-loop-i : goal.invariant-loop-i
invariant-loop-i l = (l.n < 10 ^ l.i) × (scan l.n l.i (drop l.i l.bytes) ≡ scan 0 0 l.bytes) × Begun l.n l.i (get_or l.bytes l.i 0)
