use Rattle.std.proofs.Common.{length}
use Rattle.i9_system.proofs.Asking.{HasCalled}
use Rattle.i9_system.proofs.Writing.{HasWritten}
use Rattle.i9_system.proofs.real.write_all.Given as goal

abbrev pub invariant-loop-rest : goal.invariant-loop-rest
invariant-loop-rest g l =
    HasWritten (g.W.Write.contents l.fn.out) (g.W.Write.contents l.out) l.piece l.rest
    × HasCalled g.W.WriteOnce.writes l.fn.out l.out l.piece l.rest

abbrev pub decreases-loop-rest : goal.decreases-loop-rest
decreases-loop-rest g l = length l.rest
