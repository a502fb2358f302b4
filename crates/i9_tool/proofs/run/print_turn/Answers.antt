use Rattle.std.proofs.Common.{true}
use Rattle.i9_lines.proofs.Prints.{prints_refused}
use Rattle.i9_tool.proofs.run.print_turn.Goals as goal

pub returns-in-Err : goal.returns-in-Err
returns-in-Err g c = record { passes = true; allowed = rw c.in-Issued.is c.in-Err.ensures; prints = prints_refused _ _ _ }
