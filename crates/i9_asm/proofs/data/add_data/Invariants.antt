use Rattle.std.proofs.Common.{◌≡◌, ◌++◌}
use Rattle.i9_text.specs.Text.{left_len}
use Rattle.i9_statement.specs.Known.{known_in}
use Rattle.i9_statement.specs.Noted.{least}
use Rattle.i9_statement.specs.Fields.{fields_left}
use Rattle.i9_asm.specs.Said.{bytes_of}
use Rattle.i9_asm.specs.Source.{data_fault}
use Rattle.i9_asm.proofs.FieldLoops.{fields_in, bytes_in}
use Rattle.i9_asm.proofs.data.add_data.Given as goal

abbrev pub invariant-loop-rest : goal.invariant-loop-rest
invariant-loop-rest l = record {
  fault : least l.fault (data_fault (bytes_of l.width) (known_in l.names) (fields_left l.rest))
      ≡ data_fault (bytes_of l.width) (known_in l.names) (fields_in l.text);
  bytes : l.bytes.items ++ bytes_in (bytes_of l.width) (known_in l.names) (fields_left l.rest)
      ≡ l.fn.bytes.items ++ bytes_in (bytes_of l.width) (known_in l.names) (fields_in l.text);
}

abbrev pub decreases-loop-rest : goal.decreases-loop-rest
decreases-loop-rest l = left_len l.rest
