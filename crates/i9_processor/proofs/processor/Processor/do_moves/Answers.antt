use Rattle.std.proofs.Common.{arith}
use Rattle.i9_model.specs.Hazards.{writes_hazard}
use Rattle.i9_processor.specs.State.{state_of}
use Rattle.i9_processor.proofs.processor.Processor.do_moves.Goals as goal

-- the marks of a frame that is saved meet no write
pub put_bytes-requires-else-is_plain-clause-free : goal.put_bytes-requires-else-is_plain-clause-free
unfolding state_of writes_hazard
put_bytes-requires-else-is_plain-clause-free c = grind arith
