use Rattle.std.proofs.Common.{IfOk, Ok, Err, Result, MatchResult}
use Rattle.history.proofs.Clearing.{at_close}
use Rattle.history.proofs.closing.close.Goals as goal

made-from : {X E : Type 0} (r : Result X E) (P : X → Type 0) (Q : E → Type 0) (R : X → Type 0) → ((x : X) → P x → R x) → MatchResult r P Q → IfOk r R
made-from (Ok x) P Q R f h = f x h
made-from (Err e) P Q R f h = tt

pub returns-clause-law : goal.returns-clause-law
returns-clause-law g c = made-from c.close.result _ _ _ (λ closed h. at_close _ h.flight) c.close.ensures
