use Rattle.std.proofs.Common.{ℕ, List, ap, ◌∙◌}
use Rattle.dayfile.specs.Groups.{filled}
use Rattle.dayfile.specs.Kinds.{security_kind, holding_kind, account_holding_kind, designation_kind}
use Rattle.dayfile.proofs.Places.{front, left0, left1, left2, left3, same_tables}
use Rattle.dayfile.proofs.loading.write.Goals as goal

pub fill-requires : goal.fill-requires
fill-requires c = front security_kind (left0 c.args.input.now c.args.made.now.counts c.whole-rest.ensures.all c.pass.ensures.left) c.requires.securities

pub fill-requires-2 : goal.fill-requires-2
fill-requires-2 c = front holding_kind (left1 c.args.input.now c.args.made.now.counts c.whole-rest.ensures.all c.pass.ensures.left c.fill.ensures.passed) c.requires.holdings

pub fill-requires-3 : goal.fill-requires-3
fill-requires-3 c = front account_holding_kind (left2 c.args.input.now c.args.made.now.counts c.whole-rest.ensures.all c.pass.ensures.left c.fill.ensures.passed c.fill-2.ensures.passed) c.requires.account_holdings

pub fill-requires-4 : goal.fill-requires-4
fill-requires-4 c = front designation_kind (left3 c.args.input.now c.args.made.now.counts c.whole-rest.ensures.all c.pass.ensures.left c.fill.ensures.passed c.fill-2.ensures.passed c.fill-3.ensures.passed) c.requires.designations

pub returns : goal.returns
returns c =
    same_tables
    (c.fill.ensures.filled ∙ ap (λ (b : List ℕ). filled security_kind c.args.made.now.counts.securities b c.args.tables.now.securities) (left0 c.args.input.now c.args.made.now.counts c.whole-rest.ensures.all c.pass.ensures.left))
    (c.fill-2.ensures.filled ∙ ap (λ (b : List ℕ). filled holding_kind c.args.made.now.counts.holdings b c.args.tables.now.holdings) (left1 c.args.input.now c.args.made.now.counts c.whole-rest.ensures.all c.pass.ensures.left c.fill.ensures.passed))
    (c.fill-3.ensures.filled ∙ ap (λ (b : List ℕ). filled account_holding_kind c.args.made.now.counts.account_holdings b c.args.tables.now.account_holdings) (left2 c.args.input.now c.args.made.now.counts c.whole-rest.ensures.all c.pass.ensures.left c.fill.ensures.passed c.fill-2.ensures.passed))
    (c.fill-4.ensures.filled ∙ ap (λ (b : List ℕ). filled designation_kind c.args.made.now.counts.designations b c.args.tables.now.designations) (left3 c.args.input.now c.args.made.now.counts c.whole-rest.ensures.all c.pass.ensures.left c.fill.ensures.passed c.fill-2.ensures.passed c.fill-3.ensures.passed))
