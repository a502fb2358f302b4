use Rattle.std.proofs.Common.{refl}
use Rattle.i9_lines.proofs.LineCounts.{line-refused}
use Rattle.i9_test_machine.proofs.debug.prints_what_else_there_is.Goals as goal

pub print_refusal-requires : goal.print_refusal-requires
print_refusal-requires g c = record { line = line-refused _ _ refl }
