use Rattle.std.proofs.Common.{◌≤◌, arith}
use Rattle.orders.proofs.Sound.{fine_from, worth_most}
use Rattle.orders.proofs.order.Order.freed.Goals as goal

pub returns-in-Buy-clause-small : goal.returns-in-Buy-clause-small
returns-in-Buy-clause-small c =
    let fine = fine_from c.args.self c.requires in
    let few : c.remainder.result ≤ 1000000 = omega arith in
    let most : c.from.result ≤ 999999 = omega (arith, fine.price_most, c.from.ensures) in
    worth_most c.from.result c.remainder.result most few
