use Rattle.std.proofs.Common.{arith}
use Rattle.i9_statement.proofs.KnownNames.{known-nothing}
use Rattle.i9_asm.proofs.places.Place.size_of.Goals as goal

pub returns-in-Instruction-clause-size : goal.returns-in-Instruction-clause-size
returns-in-Instruction-clause-size c = grind (arith, known-nothing)
