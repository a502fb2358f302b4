use Rattle.std.proofs.Common.{arith}
use Rattle.i9_processor.specs.State.{state_of}
use Rattle.i9_processor.proofs.MarkBits.{marks_number}
use Rattle.i9_processor.proofs.RegisterList.{register_list-of}
use Rattle.i9_processor.proofs.processor.Processor.view.Goals as goal

pub returns : goal.returns
unfolding state_of
returns c = grind (arith, marks_number, register_list-of)
