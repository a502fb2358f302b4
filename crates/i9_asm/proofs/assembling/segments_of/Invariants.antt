use Rattle.std.proofs.Common.{◌+◌, ◌≤◌, length}
use Rattle.i9_statement.specs.Known.{definitions}
use Rattle.i9_text.specs.Text.{lines_of, left_len}
use Rattle.i9_asm.proofs.ReadNames.{StandsAt}
use Rattle.i9_asm.proofs.assembling.segments_of.Given as goal

abbrev pub invariant-loop-rest : goal.invariant-loop-rest
invariant-loop-rest l = record {
  stands : StandsAt (definitions l.table) l.number l.source l.rest (lines_of l.text);
  few : l.number + left_len l.rest ≤ length l.text + 1;
}

abbrev pub decreases-loop-rest : goal.decreases-loop-rest
decreases-loop-rest l = left_len l.rest
