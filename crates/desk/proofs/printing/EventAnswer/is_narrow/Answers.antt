use Rattle.std.proofs.Common.{arith, ap, length, sym, ◌∙◌}
use Rattle.std.proofs.lemmas.Bool.{and_parts}
use Rattle.fields.specs.Written.{in_columns}
use Rattle.desk.proofs.Filling.{plain}
use Rattle.desk.proofs.printing.EventAnswer.is_narrow.Goals as goal

pub returns-clause-refusal : goal.returns-clause-refusal
returns-clause-refusal c e = sym (ap length (plain c.numbers-refusal.result.0 ∙ ap (in_columns 16) c.numbers-refusal.ensures.refusal)) ∙ c.has_room.ensures.room (and_parts _ _ e).0

pub returns-clause-order : goal.returns-clause-order
returns-clause-order c e = sym (ap length (plain c.numbers-refusal.result.1 ∙ ap (in_columns 16) c.numbers-refusal.ensures.order)) ∙ c.has_room-2.ensures.room (and_parts _ _ e).1

pub returns-clause-most : goal.returns-clause-most
returns-clause-most c =
    let refusal = ap length (plain c.numbers-refusal.result.0 ∙ ap (in_columns 16) c.numbers-refusal.ensures.refusal) in
    let order = ap length (plain c.numbers-refusal.result.1 ∙ ap (in_columns 16) c.numbers-refusal.ensures.order) in
    omega (arith, refusal, order, c.has_room.ensures.most, c.has_room-2.ensures.most)
