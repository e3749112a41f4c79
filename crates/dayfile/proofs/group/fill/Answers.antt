use Rattle.std.proofs.Common.{◌≡◌, ℕ, ◌+◌, ◌*◌, ◌<◌, cond, ◌++◌, length, drop, set, Ok, Err, sym, ap, ◌∙◌, arith}
use Rattle.std.proofs.lemmas.List.{drop-drop, length-append, length_push, length-drop}
use Rattle.std.proofs.lemmas.Bool.{lt-ltb}
use Rattle.rules.specs.Rules.{if_ok}
use Rattle.rules.specs.declared.refusal.Refusal.TheVariants.{Room}
use Rattle.tables.specs.Tables.{Lent}
use Rattle.fields.specs.Layout.{width_of}
use Rattle.dayfile.specs.Groups.{rows_of}
use Rattle.dayfile.proofs.Groups.{rows_more, put, width_more, by_ok}
use Rattle.dayfile.proofs.group.fill.Goals as goal
use Rattle.dayfile.proofs.group.fill.Goals.{in-Ok, in_default}

pub loop-preserved : goal.loop-preserved
loop-preserved g c =
    let kind = g.R.Entry.kind in
    let line = c.args.rest.now.bytes.now in
    let i = c.loop.counter in
    let old = c.clear.new.self.rows in
    let table = c.loop.table in
    let good = c.requires.good i c.loop-test.true in
    let room : i < length old = omega (arith, c.requires.few, c.loop-test.true, ap length c.clear.ensures.kept) in
    let size : length table.rows ≡ length old = ap length c.loop.invariant.2 ∙ length-append (rows_of kind i line) (drop i old) ∙ omega (arith, length-drop i old, c.loop.invariant.1, room) in
    let stands : c.read.result ≡ kind.reads (drop (width_of kind.letter * i) line) = c.read.ensures ∙ ap kind.reads c.loop.invariant.0 in
    let passed = c.pass.ensures.left ∙ ap (λ l. drop (width_of l) c.loop.rest.bytes.now) c.letter.ensures ∙ ap (drop (width_of kind.letter)) c.loop.invariant.0 ∙ drop-drop (width_of kind.letter) (width_of kind.letter * i) line ∙ ap (λ (x : ℕ). drop x line) (sym (width_more kind i)) in
    elim c.match-read.branch [
      | in-Ok w ↦
          let e : kind.reads (drop (width_of kind.letter * i) line) ≡ Ok w.in-Ok.row = sym stands ∙ w.in-Ok.is in
          let more = rows_more kind i line w.in-Ok.row e in
          let len = ap length more ∙ length_push (rows_of kind i line) w.in-Ok.row in
          let answer = w.push.ensures.answer ∙ ap (λ b. cond b (Ok tt) (Err Room)) (lt-ltb table.count (length table.rows) (omega (arith, c.loop.invariant.3, size, room))) in
          let wrote = w.push.ensures.wrote ∙ ap (λ r. if_ok r (set table.rows table.count w.in-Ok.row) table.rows) answer ∙ ap (λ (k : ℕ). set table.rows k w.in-Ok.row) c.loop.invariant.3 in
          let counted = w.push.ensures.counted ∙ ap (λ r. if_ok r (table.count + 1) table.count) answer in (
            passed,
            omega (arith, c.loop.invariant.1, len),
            ap (λ (t : Lent _). t.rows) w.table-is ∙ wrote ∙ put (rows_of kind i line) old table.rows i w.in-Ok.row c.loop.invariant.1 room c.loop.invariant.2 ∙ ap (λ t. t ++ drop (i + 1) old) (sym more),
            ap (λ (t : Lent _). t.count) w.table-is ∙ counted ∙ ap (λ (k : ℕ). k + 1) c.loop.invariant.3,
          )
      | in_default w ↦ absurd (by_ok kind (kind.reads (drop (width_of kind.letter * i) line)) good (λ x e. w.in_default.not-Ok x (stands ∙ e)))
    ]
