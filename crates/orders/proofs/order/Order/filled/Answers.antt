use Rattle.std.proofs.Common.{◌≤◌, arith}
use Rattle.orders.proofs.Sound.{fine_from, fitting_from, worth_most}
use Rattle.orders.proofs.order.Order.filled.Goals as goal

pub overflow_mul-result : goal.overflow_mul-result
overflow_mul-result c =
    let fine = fine_from c.args.self c.requires.sound in
    let fit = fitting_from c.args.self c.args.shares c.args.price c.requires.fits in
    let few : c.args.shares ≤ 1000000 = omega arith in
    omega (arith, worth_most c.args.price c.args.shares fit.price_most few)

pub overflow_add-result-2 : goal.overflow_add-result-2
overflow_add-result-2 c =
    let fine = fine_from c.args.self c.requires.sound in
    let fit = fitting_from c.args.self c.args.shares c.args.price c.requires.fits in
    let few : c.args.shares ≤ 1000000 = omega arith in
    omega (arith, worth_most c.args.price c.args.shares fit.price_most few)
