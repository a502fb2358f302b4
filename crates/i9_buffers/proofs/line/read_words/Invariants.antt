use Rattle.std.specs.Prelude.{map}
use Rattle.std.specs.String.{string_bytes}
use Rattle.i9_text.specs.Text.{lines_of, lines_left, left_len}
use Rattle.i9_buffers.proofs.Taken.{Taken}
use Rattle.i9_buffers.proofs.line.read_words.Given as goal

abbrev pub invariant-loop-rest : goal.invariant-loop-rest
invariant-loop-rest l = Taken (lines_of l.text) (map string_bytes l.words.items) (lines_left l.rest)

abbrev pub decreases-loop-rest : goal.decreases-loop-rest
decreases-loop-rest l = left_len l.rest
