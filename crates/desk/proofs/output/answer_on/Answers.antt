use Rattle.std.proofs.Common.{length}
use Rattle.std.proofs.lemmas.Result.{IfOk-weaker}
use Rattle.desk.specs.Printed.{shown_fault}
use Rattle.desk.proofs.Days.{day_answered, day_refused}
use Rattle.desk.proofs.output.answer_on.Goals as goal

pub returns-in-Ok : goal.returns-in-Ok
returns-in-Ok g c = IfOk-weaker c.answer_loaded.result _ _ (λ closed done. (done.0, done.1, day_answered c.args.input.now c.args.tables.now c.load.new.tables c.in-Ok.loaded c.args.book.now closed done.0 c.in-Ok.ensures done.2)) c.answer_loaded.ensures

pub returns-in_ok-write-in-Err : goal.returns-in_ok-write-in-Err
returns-in_ok-write-in-Err g c = (shown_fault c.in-Err.back.1, c.in_ok-write-in-Err.ensures, day_refused c.args.input.now c.args.tables.now c.load.new.tables c.in-Err.back.0 c.in-Err.back.1 (length c.args.book.now) c.in-Err.ensures)
