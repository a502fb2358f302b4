use Rattle.std.proofs.Common.{arith}
use Rattle.i9_turns.proofs.LateRegisters.{cell-lands, cell-busy}
use Rattle.i9_turns.proofs.LateMemories.{memory-lands, waiting-lands}
use Rattle.i9_turns.proofs.late_laws.what_is_due_lands.Goals as goal

pub returns : goal.returns
returns c = grind (arith, cell-lands, memory-lands, waiting-lands, cell-busy)
