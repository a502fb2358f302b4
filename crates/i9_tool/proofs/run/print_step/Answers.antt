use Rattle.i9_lines.proofs.Prints.{prints_then, prints_stop}
use Rattle.i9_tool.proofs.TracedLines.{closed_turn}
use Rattle.i9_tool.proofs.run.print_step.Goals as goal

pub returns-in-Done : goal.returns-in-Done
returns-in-Done g c =
    let said = c.in-Done.ensures in
    record { passes = said.passes; allowed = said.allowed; prints = prints_then _ _ _ _ _ _ _ (closed_turn said.passes c.args.turn.now) said.prints c.print_lines.ensures }

pub returns-in-Write : goal.returns-in-Write
returns-in-Write g c =
    let said = c.in-Write.ensures in
    record { passes = said.passes; allowed = said.allowed; prints = prints_stop _ _ _ _ _ _ (closed_turn said.passes c.args.turn.now) (λ e. cc) said.prints }

pub returns-in-Memory : goal.returns-in-Memory
returns-in-Memory g c =
    let said = c.in-Memory.ensures in
    record { passes = said.passes; allowed = said.allowed; prints = prints_stop _ _ _ _ _ _ (closed_turn said.passes c.args.turn.now) (λ e. cc) said.prints }
