use Rattle.std.proofs.Common.{rules}
use Rattle.replay.proofs.Lengths.{is_short, is_whole, is_written, same_text, told}
use Rattle.replay.proofs.northbound_replay.Goals as goal

pub returns-then-is_whole-clause-answered : goal.returns-then-is_whole-clause-answered
returns-then-is_whole-clause-answered c room =
    let before = c.args.text.now in
    let text = c.over-written.result.text.now in
    let done = c.in-Ok.ensures.answered in
    let bytes = c.replay_over.new.text.text.now in
    let n = c.replay_over.new.text.length in
    let begins = c.over-written.ensures.text in
    let empty = c.over-written.ensures.length in
    let same = same_text before text done.0 bytes n _ _ _ (search rules) begins empty done.1 in
    let written = is_written before text done.0 bytes n _ _ _ (search rules) begins empty done.1 in (
      c.in-Ok.field-0,
      done.0,
      done.2,
      told before text done.0 bytes n _ _ _ (search rules) begins empty done.1 c.min.result c.min.ensures,
      search (rules, same, written),
      is_whole before text done.0 bytes n _ _ _ (search rules) begins empty done.1 c.if-is_whole.ensures,
    )

pub returns-else-is_whole-clause-answered : goal.returns-else-is_whole-clause-answered
returns-else-is_whole-clause-answered c room =
    let before = c.args.text.now in
    let text = c.over-written.result.text.now in
    let done = c.in-Ok.ensures.answered in
    let bytes = c.replay_over.new.text.text.now in
    let n = c.replay_over.new.text.length in
    let begins = c.over-written.ensures.text in
    let empty = c.over-written.ensures.length in
    let same = same_text before text done.0 bytes n _ _ _ (search rules) begins empty done.1 in
    let written = is_written before text done.0 bytes n _ _ _ (search rules) begins empty done.1 in (
      c.in-Ok.field-0,
      done.0,
      done.2,
      told before text done.0 bytes n _ _ _ (search rules) begins empty done.1 c.min.result c.min.ensures,
      search (rules, same, written),
      is_short before text done.0 bytes n _ _ _ (search rules) begins empty done.1 c.if-is_whole.ensures,
    )
