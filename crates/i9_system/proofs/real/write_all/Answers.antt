use Rattle.std.proofs.Common.{arith}
use Rattle.i9_system.proofs.Asking.{called_more}
use Rattle.i9_system.proofs.Writing.{written_more}
use Rattle.i9_system.proofs.real.write_all.Goals as goal

pub loop-rest-preserved : goal.loop-rest-preserved
loop-rest-preserved g c = (
  written_more _ _ _ _ _ _ c.loop-rest.invariant.0 c.in-Ok.ensures.bytes,
  called_more _ _ _ _ _ _ _ c.loop-rest.invariant.1 (omega arith) c.in-Ok.ensures.call,
)
