use Rattle.i9_asm.proofs.CountedBytes.{line_counts, line_moves}
use Rattle.i9_asm.proofs.laws.lines_give_what_they_count.Goals as goal

pub returns : goal.returns
returns c = record { counted = line_counts; moved = line_moves }
