use Rattle.std.proofs.Common.{ℕ, List, ◌+◌, ◌≤◌, ◌≡◌, ◌++◌, length, subst, sym}
use Rattle.desk.specs.Printed.{Filled}
use Rattle.desk.proofs.Filling.{plain}
use Rattle.desk.proofs.line.put.Goals as goal

pub put_columns-requires : goal.put_columns-requires
put_columns-requires c = (subst (λ (columns : List ℕ). length columns ≤ c.args.end) (sym (plain c.args.n)) c.requires.0, c.requires.1)

pub returns-clause-filled : goal.returns-clause-filled
returns-clause-filled c text filled = subst (λ (columns : List ℕ). Filled c.put_columns.new.line c.put_columns.result (columns ++ text)) (plain c.args.n) (c.put_columns.ensures.filled text filled)

pub returns-clause-room : goal.returns-clause-room
returns-clause-room c = subst (λ (columns : List ℕ). c.put_columns.result + length columns ≡ c.args.end) (plain c.args.n) c.put_columns.ensures.room
