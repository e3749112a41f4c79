use Rattle.std.specs.Prelude.{nat_le}
use Rattle.std.proofs.Common.{◌≡◌, ℕ, ◌+◌, ◌-◌, ◌*◌, ◌<◌, ◌≤◌, true, false, cond, eqb, List, length, drop, IfSome, is_ok, Ok, Option, sym, ap, ◌∙◌, subst, ⊎_elim, arith}
use Rattle.std.proofs.lemmas.Bool.{eqb-false, cases_lt, le-leb}
use Rattle.std.proofs.lemmas.List.{drop-drop}
use Rattle.std.proofs.lemmas.Result.{err_from_is_err_and}
use Rattle.fields.specs.Layout.{width_of}
use Rattle.dayfile.specs.Groups.{group}
use Rattle.dayfile.proofs.Groups.{refused, over, more, lines_more, width_more, long_if_ok}
use Rattle.dayfile.proofs.group.counted.Goals as goal

pub returns-in_err-after-clause-is : goal.returns-in_err-after-clause-is
returns-in_err-after-clause-is g c =
    let p = err_from_is_err_and c.from_residual.result c.from_residual.ensures.1 in
    let r = refused g.R.Entry.kind c.args.room c.lines.n c.lines.n c.lines.state c.lines.rest.line c.lines.rest.bytes.now c.in_err-after.field-0.0 c.lines.invariant.0.few c.in_err-after.ensures.is in
    rw (p.1, p.2) (sym r ∙ c.lines.invariant.3)

pub lines-preserved : goal.lines-preserved
lines-preserved g c =
    let kind = g.R.Entry.kind in
    let input = c.args.rest.now.bytes.now in
    let bytes = c.lines.rest.bytes.now in
    let line = c.lines.rest.line in
    let n = c.lines.n in
    let gd = subst (λ (o : Option g.row.R-State.Denot). IfSome o (λ k. (is_ok (kind.reads bytes) ≡ true) × (eqb n c.args.room ≡ false))) c.in-Some.is c.in_ok-after.ensures.good in
    let ne = eqb-false n c.args.room gd.1 in
    let few = c.lines.invariant.0.few in
    let lt : n < c.args.room = ⊎_elim (λ (q : n < c.args.room). q) (λ (q : c.args.room ≤ n). absurd (ne (omega arith))) (cases_lt n c.args.room) in
    let wide = long_if_ok kind g.met.R.Entry.long bytes gd.0 in
    let step = more kind c.args.room n n c.lines.state line bytes c.in-Some.after lt (ap Ok (sym c.in-Some.is) ∙ c.in_ok-after.ensures.is) in
    let left : c.pass.new.self.bytes.now ≡ drop (width_of kind.letter) bytes = c.pass.ensures.left ∙ ap (λ l. drop (width_of l) bytes) c.letter.ensures in
    let next : c.pass.new.self.line ≡ line + 1 = c.pass.ensures.counted ∙ ap (λ b. cond b (line + 1) line) (ap (λ l. nat_le (width_of l) (length bytes)) c.letter.ensures ∙ le-leb (width_of kind.letter) (length bytes) wide) in
    let at : bytes ≡ drop (0 + width_of kind.letter * n) input = c.lines.invariant.1 ∙ ap (λ (x : ℕ). drop x input) (omega arith) in (
      lines_more kind c.args.room 0 input n c.lines.invariant.0 lt (subst (λ (x : List ℕ). width_of kind.letter ≤ length x) at wide) (subst (λ (x : List ℕ). is_ok (kind.reads x) ≡ true) at gd.0),
      left ∙ ap (drop (width_of kind.letter)) c.lines.invariant.1 ∙ drop-drop (width_of kind.letter) (width_of kind.letter * n) input ∙ ap (λ (x : ℕ). drop x input) (sym (width_more kind n)),
      omega (arith, next, c.lines.invariant.2),
      sym (step ∙ ap (λ (s : List ℕ). group kind (c.args.room - (n + 1)) (n + 1) c.in-Some.after (line + 1) s) (sym left) ∙ ap (λ (x : ℕ). group kind (c.args.room - (n + 1)) (n + 1) c.in-Some.after x c.pass.new.self.bytes.now) (sym next)) ∙ c.lines.invariant.3,
    )

pub returns-clause-is : goal.returns-clause-is
returns-clause-is g c = sym (over g.R.Entry.kind c.args.room c.lines.n c.lines.n c.lines.state c.lines.rest.line c.lines.rest.bytes.now c.lines.invariant.0.few (ap Ok (sym c.in_default.is) ∙ c.in_ok-after.ensures.is)) ∙ c.lines.invariant.3
