use Rattle.std.proofs.Common.{arith}
use Rattle.std.proofs.lemmas.Bool.{and_right}
use Rattle.i9_statement.proofs.KnownNames.{known-all}
use Rattle.i9_asm.proofs.NumberedNames.{set_entered, set_kept}
use Rattle.i9_asm.proofs.naming.Naming.assigned.Goals as goal

pub returns-then-is_some : goal.returns-then-is_some
returns-then-is_some c = grind (arith, known-all, set_entered)

pub returns-else-is_name : goal.returns-else-is_name
returns-else-is_name c = grind (arith, known-all, set_kept, and_right)
