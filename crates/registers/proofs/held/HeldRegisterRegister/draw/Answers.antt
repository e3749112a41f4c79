use Rattle.std.proofs.Common.{sym, ◌∙◌}
use Rattle.tables.specs.Tables.{lines_of}
use Rattle.registers.proofs.Pools.{draw_means}
use Rattle.registers.proofs.held.HeldRegisterRegister.draw.Goals as goal

pub returns-clause-after : goal.returns-clause-after
returns-clause-after g c = draw_means g.O.Owner.NUMBERS g.O.Owner.number (g.F.Finding.finds c.args.self.now.rule) (lines_of c.args.self.now.holdings.now) c.args.pool c.in_ok-drawn.drawn c.args.shares c.in_ok-left.left c.set_sellable.result _ (sym c.pool.ensures ∙ c.in_ok-drawn.ensures.ok_part) c.in_ok-left.ensures c.set_sellable.ensures.done c.set_sellable.ensures.lines
