use Rattle.std.proofs.Common.{arith}
use Rattle.std.proofs.lemmas.Bool.Decides.{nat_tests}
use Rattle.i9_processor.specs.State.{state_of}
use Rattle.i9_processor.proofs.MarkBits.{mark_past}
use Rattle.i9_processor.proofs.processor.Processor.is_marked.Goals as goal

pub returns-else-r-lt32 : goal.returns-else-r-lt32
unfolding state_of
returns-else-r-lt32 c = grind (arith, nat_tests, mark_past)
