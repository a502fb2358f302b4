use Rattle.std.proofs.Common.{◌≡◌, ◌+◌, ◌≤◌, length}
use Rattle.i9_text.specs.Text.{lines_left, left_len}
use Rattle.i9_text.proofs.FirstFault.{read_from}
use Rattle.i9_model.specs.HexText.{fault_of, missing_end}
use Rattle.i9_hex.specs.Lines.{with_line}
use Rattle.i9_hex.specs.Reading.{state_of}
use Rattle.i9_hex.proofs.WholeText.{state_or_fault}
use Rattle.i9_hex.proofs.reading.read.Given as goal

abbrev pub invariant-loop-rest : goal.invariant-loop-rest
invariant-loop-rest l = record {
  same : read_from fault_of with_line missing_end l.number (state_of l.reader) (lines_left l.rest) ≡ state_or_fault l.text;
  few : l.number + left_len l.rest ≤ length l.text + 1;
}

abbrev pub decreases-loop-rest : goal.decreases-loop-rest
decreases-loop-rest l = left_len l.rest
