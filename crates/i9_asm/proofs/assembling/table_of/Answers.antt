use Rattle.std.proofs.Common.{arith}
use Rattle.i9_text.proofs.Loop.{lines_left-split, left_len-split}
use Rattle.i9_asm.specs.Numbered.{lines_entered}
use Rattle.i9_asm.proofs.NumberedNames.{entered_on}
use Rattle.i9_asm.proofs.assembling.table_of.Goals as goal

pub loop-rest-preserved : goal.loop-rest-preserved
loop-rest-preserved c = grind (arith, lines_left-split, left_len-split, entered_on)

pub returns : goal.returns
unfolding lines_entered
returns c = grind arith
