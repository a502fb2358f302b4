use Rattle.std.proofs.Common.{◌≡◌, map, take}
use Rattle.i9_model.specs.Image.{pairs_of}
use Rattle.i9_hex.specs.Shown.{part_of}
use Rattle.i9_hex.proofs.runs.bytes_of.Given as goal

abbrev pub invariant-loop-segment : goal.invariant-loop-segment
invariant-loop-segment l = l.pairs.items ≡ pairs_of (map part_of (take l.segment-index l.segments))
