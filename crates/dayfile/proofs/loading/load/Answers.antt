use Rattle.std.proofs.Common.{◌≡◌, Ok, Err, subst, arith}
use Rattle.rules.specs.declared.letter.Part.TheVariants as part
use Rattle.fields.specs.Faults.{day_at}
use Rattle.dayfile.specs.declared.plan.Counts.{Counts}
use Rattle.dayfile.specs.DayPart.{day_part, plan, Planned}
use Rattle.dayfile.proofs.Loads.{refused, taken}
use Rattle.dayfile.proofs.loading.load.Goals as goal

pub returns-in-Ok : goal.returns-in-Ok
returns-in-Ok c =
    let p = c.in-Ok.plan in
    let made = plan p.opening p.counts in
    let planned = subst (λ (room : Counts). Planned c.args.input.now room made) c.room.ensures c.in-Ok.ensures.planned in
    taken c.args.input.now c.args.tables.now c.write.new.tables (record { day = c.opened.result; events = p.events }) made
    (subst (λ (room : Counts). day_part c.args.input.now room ≡ Ok made) c.room.ensures c.in-Ok.ensures.is)
    planned
    (record { opened = c.opened.ensures; events_begin = c.in-Ok.ensures.left; first_line = c.in-Ok.ensures.numbered; inside = planned.ended; few_lines = omega (arith, c.in-Ok.ensures.numbered, planned.numbered) })
    c.write.ensures

pub returns-in-Err : goal.returns-in-Err
returns-in-Err c =
    refused c.args.input.now c.args.tables.now c.args.day c.in-Err.fault
    (subst (λ (room : Counts). day_at part.Day (day_part c.args.input.now room) ≡ Err c.in-Err.fault) c.room.ensures c.in-Err.ensures.is)
