use Rattle.std.proofs.Common.{arith}
use Rattle.i9_model.proofs.Reading.{read_more, read_length}
use Rattle.i9_dma.proofs.moving.read.Goals as goal

pub push-requires : goal.push-requires
push-requires c = grind (arith, read_length)

pub loop-k-preserved : goal.loop-k-preserved
loop-k-preserved c = grind (arith, read_more)
