use Rattle.std.proofs.Common.{◌∷◌, [], refl, rules}
use Rattle.desk.proofs.Filling.{on_form}
use Rattle.desk.proofs.printing.Form.of.Goals as goal

pub invariant_of-result : goal.invariant_of-result
invariant_of-result c = record { filled = on_form _ _ _ c.put_balance.ensures.room (search rules) (c.put_balance.ensures.filled (10 ∷ []) refl) }
