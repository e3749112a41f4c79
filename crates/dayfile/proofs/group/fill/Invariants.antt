use Rattle.std.proofs.Common.{◌≡◌, ◌*◌, ◌++◌, length, drop}
use Rattle.fields.specs.Layout.{width_of}
use Rattle.dayfile.specs.Groups.{rows_of}
use Rattle.dayfile.proofs.group.fill.Given as goal

abbrev pub invariant-loop : goal.invariant-loop
invariant-loop g l =
    (l.rest.bytes.now ≡ drop (width_of g.R.Entry.kind.letter * l.counter) l.initial.rest.bytes.now)
    × (length (rows_of g.R.Entry.kind l.counter l.initial.rest.bytes.now) ≡ l.counter)
    × (l.table.rows ≡ rows_of g.R.Entry.kind l.counter l.initial.rest.bytes.now ++ drop l.counter l.initial.table.rows)
    × (l.table.count ≡ l.counter)
