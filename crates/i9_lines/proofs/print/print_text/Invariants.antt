use Rattle.std.proofs.Common.{length}
use Rattle.i9_lines.specs.Print.{account}
use Rattle.i9_lines.proofs.Lined.{PrintedUpTo}
use Rattle.i9_lines.proofs.print.print_text.Given as goal

abbrev pub invariant-loop-place : goal.invariant-loop-place
invariant-loop-place g l = PrintedUpTo (account g.K.Sink.told g.K.Sink.faults g.K.Sink.writes g.K.Sink.sure g.K.Sink.pieces) l.fn.out l.out l.text l.rest

abbrev pub decreases-loop-place : goal.decreases-loop-place
decreases-loop-place g l = length l.rest
