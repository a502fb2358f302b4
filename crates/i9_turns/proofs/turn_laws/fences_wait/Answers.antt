use Rattle.std.proofs.Common.{arith}
use Rattle.i9_turns.proofs.TurnFences.{fenced-timed, fence-done, after-fence}
use Rattle.i9_turns.proofs.turn_laws.fences_wait.Goals as goal

pub returns : goal.returns
returns c = grind (arith, fenced-timed, fence-done, after-fence)
