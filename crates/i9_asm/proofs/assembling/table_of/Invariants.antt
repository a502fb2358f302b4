use Rattle.std.proofs.Common.{◌≡◌, ◌+◌, ◌*◌, ◌≤◌, length}
use Rattle.i9_statement.specs.Known.{definitions}
use Rattle.i9_text.specs.Text.{lines_of, lines_left, left_len}
use Rattle.i9_asm.specs.Places.{start_place}
use Rattle.i9_asm.specs.Numbered.{no_definitions, lines_entered}
use Rattle.i9_asm.specs.Reading.{naming_place}
use Rattle.i9_asm.proofs.assembling.table_of.Given as goal

abbrev pub invariant-loop-rest : goal.invariant-loop-rest
invariant-loop-rest l = record {
  entered : lines_entered (naming_place l.naming) (2 * l.number) (lines_left l.rest) (definitions l.naming.table)
      ≡ lines_entered start_place 0 (lines_of l.text) no_definitions;
  few : l.number + left_len l.rest ≤ length l.text + 1;
}

abbrev pub decreases-loop-rest : goal.decreases-loop-rest
decreases-loop-rest l = left_len l.rest
