use Rattle.std.proofs.Common.{◌≡◌, map, take}
use Rattle.i9_model.specs.Writes.{last_put}
use Rattle.i9_model.specs.Image.{pairs_of}
use Rattle.i9_hex.specs.Shown.{part_of}
use Rattle.i9_tune.proofs.block.byte_in.Given as goal

abbrev pub invariant-loop-segment : goal.invariant-loop-segment
invariant-loop-segment l = record { found : l.found ≡ last_put (pairs_of (map part_of (take l.segment-index l.image))) l.a }
