use Rattle.std.proofs.Common.{◌≡◌, ◌+◌, ◌*◌, ◌≤◌, length}
use Rattle.i9_text.specs.Text.{left_len}
use Rattle.i9_statement.specs.Fields.{fields_left}
use Rattle.i9_asm.specs.Said.{bytes_of}
use Rattle.i9_asm.proofs.FieldLoops.{fields_in, sized}
use Rattle.i9_asm.proofs.data.data_size.Given as goal

abbrev pub invariant-loop-rest : goal.invariant-loop-rest
invariant-loop-rest l = record {
  size : sized l.size (bytes_of l.width) (fields_left l.rest) ≡ sized 0 (bytes_of l.width) (fields_in l.text);
  few : l.size + 4 * left_len l.rest ≤ 4 * (length l.text + 1);
}

abbrev pub decreases-loop-rest : goal.decreases-loop-rest
decreases-loop-rest l = left_len l.rest
