use Rattle.std.proofs.Common.{arith}
use Rattle.i9_processor.specs.State.{cells_of}
use Rattle.i9_processor.proofs.RegisterList.{registers_in_order}
use Rattle.i9_processor.proofs.processor.Processor.raw_registers.Goals as goal

pub returns : goal.returns
unfolding cells_of
returns c = grind (arith, registers_in_order)
