use Rattle.std.proofs.Common.{◌-◌, ◌≤◌, arith}
use Rattle.orders.proofs.Sound.{fine_from, fitting_from, worth_most}
use Rattle.orders.proofs.order.Order.raise.Goals as goal

pub returns-in-Buy-clause-small : goal.returns-in-Buy-clause-small
returns-in-Buy-clause-small c =
    let fine = fine_from c.args.self c.requires.sound in
    let fit = fitting_from c.args.self c.args.shares c.args.price c.requires.fits in
    let less : c.from.result - c.args.price ≤ 999999 = omega (arith, fine.price_most, c.from.ensures) in
    let few : c.args.shares ≤ 1000000 = omega arith in
    worth_most (c.from.result - c.args.price) c.args.shares less few

pub returns-in-Sell-clause-small : goal.returns-in-Sell-clause-small
returns-in-Sell-clause-small c =
    let fine = fine_from c.args.self c.requires.sound in
    let fit = fitting_from c.args.self c.args.shares c.args.price c.requires.fits in
    let few : c.args.shares ≤ 1000000 = omega arith in
    worth_most c.args.price c.args.shares fit.price_most few
