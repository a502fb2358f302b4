use Rattle.std.proofs.Common.{Some, None, Ok, Err, refl, sym, ap, ◌∙◌, arith}
use Rattle.i9_schedule.proofs.LineCases.{said_by}
use Rattle.i9_schedule.proofs.script_reading.take_line.Goals as goal

pub returns-in-Err-clause-refused : goal.returns-in-Err-clause-refused
returns-in-Err-clause-refused c = (refl, said_by c.args.commands.now.items c.args.line.now (Err c.in-Err.kind) c.in-Err.ensures)

pub returns-in-Ok-None-clause-taken : goal.returns-in-Ok-None-clause-taken
returns-in-Ok-None-clause-taken c = said_by c.args.commands.now.items c.args.line.now (Ok None) (ap Ok (sym c.in-Ok-None.field-0-is) ∙ c.in-Ok-None.ensures)

pub returns-in-Ok-Some-clause-refused : goal.returns-in-Ok-Some-clause-refused
returns-in-Ok-Some-clause-refused c =
    let said = said_by c.args.commands.now.items c.args.line.now (Ok (Some c.in-Ok-Some.field-0-0)) (ap Ok (sym c.in-Ok-Some.field-0-is) ∙ c.in-Ok-Some.ensures) in
    (refl, said.1 (omega (arith, c.if-len-ge-MOST_COMMANDS.true, c.len.ensures)))

pub returns-in-Ok-clause-taken : goal.returns-in-Ok-clause-taken
returns-in-Ok-clause-taken c =
    let said = said_by c.args.commands.now.items c.args.line.now (Ok (Some c.in-Ok-Some.field-0-0)) (ap Ok (sym c.in-Ok-Some.field-0-is) ∙ c.in-Ok-Some.ensures) in
    rw c.in-Ok.ensures.items (said.0 (omega (arith, c.if-len-ge-MOST_COMMANDS.false, c.len.ensures)))
