use Rattle.std.proofs.Common.{arith}
use Rattle.i9_turns.proofs.LateRegisters.{cell-latest}
use Rattle.i9_turns.proofs.LateMemories.{memory-settles}
use Rattle.i9_turns.proofs.LateOrder.{landed_latest}
use Rattle.i9_model.proofs.Queues.{landed_settles}
use Rattle.i9_turns.proofs.late_laws.landing_settles.Goals as goal

pub returns : goal.returns
returns c = grind (arith, cell-latest, memory-settles, landed_latest, landed_settles)
