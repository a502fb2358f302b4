use Rattle.std.proofs.Common.{◌+◌, ◌≤◌, length}
use Rattle.i9_text.specs.Text.{lines_of, left_len}
use Rattle.i9_schedule.proofs.RelationLoop.{ReadSoFar}
use Rattle.i9_schedule.proofs.script_reading.read_script.Given as goal

abbrev pub invariant-loop-rest : goal.invariant-loop-rest
invariant-loop-rest l = record {
  so_far : ReadSoFar l.number l.commands.items l.rest (lines_of l.text);
  few : l.number + left_len l.rest ≤ length l.text + 1;
}

abbrev pub decreases-loop-rest : goal.decreases-loop-rest
decreases-loop-rest l = left_len l.rest
