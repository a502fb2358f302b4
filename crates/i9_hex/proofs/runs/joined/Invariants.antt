use Rattle.std.proofs.Common.{◌≡◌, [], length}
use Rattle.i9_hex.proofs.Rising.{kept}
use Rattle.i9_hex.proofs.Joining.{joined}
use Rattle.i9_hex.proofs.runs.joined.Given as goal

abbrev pub invariant-loop-rest : goal.invariant-loop-rest
invariant-loop-rest l = joined l.runs (kept l.rest) ≡ joined [] (kept l.pairs)

abbrev pub decreases-loop-rest : goal.decreases-loop-rest
decreases-loop-rest l = length l.rest
