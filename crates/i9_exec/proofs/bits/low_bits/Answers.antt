use Rattle.std.proofs.Common.{arith, ◌∙◌}
use Rattle.std.proofs.lemmas.Bool.Decides.{nat_tests}
use Rattle.i9_exec.proofs.Places.{low_mask}
use Rattle.i9_exec.proofs.bits.low_bits.Goals as goal

pub returns-then-count-lt32 : goal.returns-then-count-lt32
returns-then-count-lt32 c = low_mask _ c.args.count (omega arith) ∙ grind (arith, nat_tests)
