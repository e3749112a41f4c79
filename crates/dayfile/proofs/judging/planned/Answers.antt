use Rattle.std.proofs.Common.{◌≤◌, length, refl, ap, arith}
use Rattle.std.proofs.lemmas.List.{length-drop}
use Rattle.std.proofs.lemmas.Result.{err_from_is_err_and}
use Rattle.rules.specs.declared.letter.Letter.TheVariants as letter
use Rattle.dayfile.specs.DayPart.{counts, opening_of, ending_of, securities_at, end_at}
use Rattle.dayfile.specs.Kinds.{security_kind, holding_kind, account_holding_kind, designation_kind}
use Rattle.dayfile.specs.Rows.{line_of}
use Rattle.dayfile.proofs.Places.{begins, past_line, past_group, placed, read_at, line_read_at}
use Rattle.dayfile.proofs.judging.planned.Goals as goal

pub returns-in_err-counted-2-clause-is : goal.returns-in_err-counted-2-clause-is
returns-in_err-counted-2-clause-is c =
    let r0 = past_line (line_of letter.Day opening_of) 50 (begins c.whole-rest.ensures.all c.whole-rest.ensures.first) c.in_ok-opening.ensures.is c.in_ok-opening.ensures.passed c.in_ok-opening.ensures.numbered in
    let r1 = past_group security_kind c.args.room.securities c.in_ok-counted.field-0 r0.1 c.in_ok-counted.ensures.is c.in_ok-counted.ensures.passed c.in_ok-counted.ensures.numbered in
    let refusal = err_from_is_err_and c.from_residual-in_err-counted-2.result c.from_residual-in_err-counted-2.ensures.1 in
    rw (refusal.1, refusal.2, r0.0, r1.0, read_at holding_kind c.args.room.holdings r1.1 c.in_err-counted-2.ensures.is) refl

pub returns-in_err-counted-3-clause-is : goal.returns-in_err-counted-3-clause-is
returns-in_err-counted-3-clause-is c =
    let r0 = past_line (line_of letter.Day opening_of) 50 (begins c.whole-rest.ensures.all c.whole-rest.ensures.first) c.in_ok-opening.ensures.is c.in_ok-opening.ensures.passed c.in_ok-opening.ensures.numbered in
    let r1 = past_group security_kind c.args.room.securities c.in_ok-counted.field-0 r0.1 c.in_ok-counted.ensures.is c.in_ok-counted.ensures.passed c.in_ok-counted.ensures.numbered in
    let r2 = past_group holding_kind c.args.room.holdings c.in_ok-counted-2.field-0 r1.1 c.in_ok-counted-2.ensures.is c.in_ok-counted-2.ensures.passed c.in_ok-counted-2.ensures.numbered in
    let refusal = err_from_is_err_and c.from_residual-in_err-counted-3.result c.from_residual-in_err-counted-3.ensures.1 in
    rw (refusal.1, refusal.2, r0.0, r1.0, r2.0, read_at account_holding_kind c.args.room.account_holdings r2.1 c.in_err-counted-3.ensures.is) refl

pub returns-in_err-counted-4-clause-is : goal.returns-in_err-counted-4-clause-is
returns-in_err-counted-4-clause-is c =
    let r0 = past_line (line_of letter.Day opening_of) 50 (begins c.whole-rest.ensures.all c.whole-rest.ensures.first) c.in_ok-opening.ensures.is c.in_ok-opening.ensures.passed c.in_ok-opening.ensures.numbered in
    let r1 = past_group security_kind c.args.room.securities c.in_ok-counted.field-0 r0.1 c.in_ok-counted.ensures.is c.in_ok-counted.ensures.passed c.in_ok-counted.ensures.numbered in
    let r2 = past_group holding_kind c.args.room.holdings c.in_ok-counted-2.field-0 r1.1 c.in_ok-counted-2.ensures.is c.in_ok-counted-2.ensures.passed c.in_ok-counted-2.ensures.numbered in
    let r3 = past_group account_holding_kind c.args.room.account_holdings c.in_ok-counted-3.field-0 r2.1 c.in_ok-counted-3.ensures.is c.in_ok-counted-3.ensures.passed c.in_ok-counted-3.ensures.numbered in
    let refusal = err_from_is_err_and c.from_residual-in_err-counted-4.result c.from_residual-in_err-counted-4.ensures.1 in
    rw (refusal.1, refusal.2, r0.0, r1.0, r2.0, r3.0, read_at designation_kind c.args.room.designations r3.1 c.in_err-counted-4.ensures.is) refl

pub returns-in_err-ending_line-clause-is : goal.returns-in_err-ending_line-clause-is
returns-in_err-ending_line-clause-is c =
    let r0 = past_line (line_of letter.Day opening_of) 50 (begins c.whole-rest.ensures.all c.whole-rest.ensures.first) c.in_ok-opening.ensures.is c.in_ok-opening.ensures.passed c.in_ok-opening.ensures.numbered in
    let r1 = past_group security_kind c.args.room.securities c.in_ok-counted.field-0 r0.1 c.in_ok-counted.ensures.is c.in_ok-counted.ensures.passed c.in_ok-counted.ensures.numbered in
    let r2 = past_group holding_kind c.args.room.holdings c.in_ok-counted-2.field-0 r1.1 c.in_ok-counted-2.ensures.is c.in_ok-counted-2.ensures.passed c.in_ok-counted-2.ensures.numbered in
    let r3 = past_group account_holding_kind c.args.room.account_holdings c.in_ok-counted-3.field-0 r2.1 c.in_ok-counted-3.ensures.is c.in_ok-counted-3.ensures.passed c.in_ok-counted-3.ensures.numbered in
    let r4 = past_group designation_kind c.args.room.designations c.in_ok-counted-4.field-0 r3.1 c.in_ok-counted-4.ensures.is c.in_ok-counted-4.ensures.passed c.in_ok-counted-4.ensures.numbered in
    let refusal = err_from_is_err_and c.from_residual-in_err-ending_line.result c.from_residual-in_err-ending_line.ensures.1 in
    let file = counts c.in_ok-counted.field-0 c.in_ok-counted-2.field-0 c.in_ok-counted-3.field-0 c.in_ok-counted-4.field-0 in
    rw (refusal.1, refusal.2, r0.0, r1.0, r2.0, r3.0, r4.0, line_read_at (line_of letter.End (ending_of file)) r4.1 c.in_err-ending_line.ensures.is) refl

pub returns : goal.returns
returns c =
    let input = c.args.input.now in
    let r0 = past_line (line_of letter.Day opening_of) 50 (begins c.whole-rest.ensures.all c.whole-rest.ensures.first) c.in_ok-opening.ensures.is c.in_ok-opening.ensures.passed c.in_ok-opening.ensures.numbered in
    let r1 = past_group security_kind c.args.room.securities c.in_ok-counted.field-0 r0.1 c.in_ok-counted.ensures.is c.in_ok-counted.ensures.passed c.in_ok-counted.ensures.numbered in
    let r2 = past_group holding_kind c.args.room.holdings c.in_ok-counted-2.field-0 r1.1 c.in_ok-counted-2.ensures.is c.in_ok-counted-2.ensures.passed c.in_ok-counted-2.ensures.numbered in
    let r3 = past_group account_holding_kind c.args.room.account_holdings c.in_ok-counted-3.field-0 r2.1 c.in_ok-counted-3.ensures.is c.in_ok-counted-3.ensures.passed c.in_ok-counted-3.ensures.numbered in
    let r4 = past_group designation_kind c.args.room.designations c.in_ok-counted-4.field-0 r3.1 c.in_ok-counted-4.ensures.is c.in_ok-counted-4.ensures.passed c.in_ok-counted-4.ensures.numbered in
    let file = counts c.in_ok-counted.field-0 c.in_ok-counted-2.field-0 c.in_ok-counted-3.field-0 c.in_ok-counted-4.field-0 in
    let e = past_line (line_of letter.End (ending_of file)) 66 r4.1 c.in_ok-ending_line.ensures.is c.in_ok-ending_line.ensures.passed c.in_ok-ending_line.ensures.numbered in
    let long : securities_at ≤ length input = omega (arith, c.in_ok-opening.ensures.whole, ap length c.whole-rest.ensures.all) in
    let lines1 = placed security_kind r0.1 long c.in_ok-counted.ensures.lines in
    let lines2 = placed holding_kind r1.1 lines1.within c.in_ok-counted-2.ensures.lines in
    let lines3 = placed account_holding_kind r2.1 lines2.within c.in_ok-counted-3.ensures.lines in
    let lines4 = placed designation_kind r3.1 lines3.within c.in_ok-counted-4.ensures.lines in
    record {
      is = rw (r0.0, r1.0, r2.0, r3.0, r4.0, e.0) refl;
      planned = record {
        opening = c.in_ok-opening.ensures.within;
        securities = lines1;
        holdings = lines2;
        account_holdings = lines3;
        designations = lines4;
        ended = omega (arith, lines4.within, c.in_ok-ending_line.ensures.whole, ap length r4.1.left, length-drop (end_at file) input);
        numbered = omega arith;
      };
      left = e.1.left;
      numbered = e.1.numbered;
    }
