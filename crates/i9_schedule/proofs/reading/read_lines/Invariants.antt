use Rattle.std.proofs.Common.{◌≡◌, ◌+◌, ◌≤◌, length}
use Rattle.i9_text.specs.Text.{lines_left, left_len}
use Rattle.i9_text.proofs.FirstFault.{read_from}
use Rattle.i9_model.specs.ScheduleText.{fault_of, nothing_missing}
use Rattle.i9_schedule.specs.Lines.{with_line}
use Rattle.i9_schedule.specs.Reading.{said_by}
use Rattle.i9_schedule.proofs.WholeText.{read_lines}
use Rattle.i9_schedule.proofs.reading.read_lines.Given as goal

abbrev pub invariant-loop-rest : goal.invariant-loop-rest
invariant-loop-rest l = record {
  same : read_from fault_of with_line nothing_missing l.number (said_by l.so_far) (lines_left l.rest) ≡ read_lines l.text;
  few : l.number + left_len l.rest ≤ length l.text + 1;
}

abbrev pub decreases-loop-rest : goal.decreases-loop-rest
decreases-loop-rest l = left_len l.rest
