use Rattle.std.proofs.Common.{arith}
use Rattle.i9_statement.proofs.KnownNames.{known-all, known-before}
use Rattle.i9_asm.proofs.TakenLines.{takes_line}
use Rattle.i9_asm.proofs.ReadNames.{labelled_here}
use Rattle.i9_asm.proofs.source.Source.with_line.Goals as goal

pub returns : goal.returns
returns c = grind (arith, known-before, takes_line, labelled_here, known-all)
