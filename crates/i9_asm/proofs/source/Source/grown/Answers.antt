use Rattle.std.proofs.Common.{length-append, arith}
use Rattle.i9_asm.proofs.NumberedNames.{place_same, not_some}
use Rattle.i9_asm.proofs.CountedBytes.{item_counts}
use Rattle.i9_asm.proofs.FieldLoops.{bytes_of-small}
use Rattle.i9_asm.proofs.source.Source.grown.Goals as goal

pub returns-clause-grows : goal.returns-clause-grows
returns-clause-grows c = grind (arith, place_same, not_some, item_counts, bytes_of-small, length-append)
