use Rattle.std.proofs.Common.{Bool, Some, None, cond, length, ap, ◌∙◌}
use Rattle.orders.specs.Records.{held_order}
use Rattle.gate.proofs.Worth.{request_fits, request_most, request_worth}
use Rattle.gate.proofs.day.TradingDay.reserve.Goals as goal

pub unreachable-requires : goal.unreachable-requires
unreachable-requires g c =
    let kept = c.in_ok-security.ensures in
    let most = request_most c.args.self.now.figures _ c.in_ok-security.security (length c.args.book.now) c.args.request kept.line kept.present kept.answer in
    let held = held_order c.args.request c.in_ok-pool.pool in
    c.in_default.not-Some held (c.held.ensures ∙ ap (λ (b : Bool). cond b (Some held) None) (request_fits c.args.request most))

pub reserved-self-requires-clause-small : goal.reserved-self-requires-clause-small
reserved-self-requires-clause-small g c =
    let kept = c.in_ok-security.ensures in
    request_worth c.args.self.now.figures _ c.in_ok-security.security (length c.args.book.now) c.args.request kept.line kept.present kept.answer
