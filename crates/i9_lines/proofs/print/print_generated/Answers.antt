use Rattle.i9_lines.proofs.Prints.{prints_refused}
use Rattle.i9_lines.proofs.print.print_generated.Goals as goal

pub returns-in-Err : goal.returns-in-Err
returns-in-Err g c = prints_refused _ _ _
