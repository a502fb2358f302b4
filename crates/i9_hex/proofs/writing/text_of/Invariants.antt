use Rattle.std.proofs.Common.{◌≡◌, map, take}
use Rattle.std.specs.List.{flat_map}
use Rattle.i9_hex.specs.Shown.{part_of}
use Rattle.i9_hex.specs.Writing.{pieces_of, body_lines, upper_after, with_line_feed}
use Rattle.i9_hex.proofs.writing.text_of.Given as goal

abbrev pub invariant-loop-segment : goal.invariant-loop-segment
invariant-loop-segment l = record {
  text : l.text.items ≡ flat_map with_line_feed (body_lines 0 (flat_map pieces_of (map part_of (take l.segment-index l.segments))));
  upper : l.upper ≡ upper_after 0 (flat_map pieces_of (map part_of (take l.segment-index l.segments)));
}
