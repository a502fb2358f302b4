use Rattle.std.proofs.Common.{◌≡◌, ◌++◌, length}
use Rattle.std.specs.List.{flat_map}
use Rattle.i9_hex.specs.Writing.{cut, body_lines, upper_after, with_line_feed}
use Rattle.i9_hex.proofs.writing.add_segment.Given as goal

abbrev pub invariant-loop-rest : goal.invariant-loop-rest
invariant-loop-rest l = record {
  text : l.text.items ++ flat_map with_line_feed (body_lines l.half (cut (length l.rest) l.address l.rest)) ≡ l.fn.text.items ++ flat_map with_line_feed (body_lines l.upper (cut (length l.bytes) l.start l.bytes));
  upper : upper_after l.half (cut (length l.rest) l.address l.rest) ≡ upper_after l.upper (cut (length l.bytes) l.start l.bytes);
}

abbrev pub decreases-loop-rest : goal.decreases-loop-rest
decreases-loop-rest l = length l.rest
