use Rattle.std.proofs.Common.{◌≡◌, ◌+◌, ◌-◌, ◌*◌, length, drop}
use Rattle.fields.specs.Layout.{width_of}
use Rattle.dayfile.specs.Groups.{group, Lines}
use Rattle.dayfile.proofs.group.counted.Given as goal

abbrev pub invariant-lines : goal.invariant-lines
invariant-lines g l =
    Lines g.R.Entry.kind l.room 0 l.initial.rest.bytes.now l.n
    × (l.rest.bytes.now ≡ drop (width_of g.R.Entry.kind.letter * l.n) l.initial.rest.bytes.now)
    × (l.rest.line ≡ l.initial.rest.line + l.n)
    × (group g.R.Entry.kind (l.room - l.n) l.n l.state l.rest.line l.rest.bytes.now ≡ group g.R.Entry.kind l.room 0 g.R.Entry.kind.first l.initial.rest.line l.initial.rest.bytes.now)

abbrev pub decreases-lines : goal.decreases-lines
decreases-lines g l = length l.rest.bytes.now
