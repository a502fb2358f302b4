use Rattle.std.proofs.Common.{arith}
use Rattle.i9_agree.proofs.AlikeSteps.{next_alike, view_alike, overlay_alike}
use Rattle.i9_agree.proofs.laws.only_compared_bytes_are_seen.Goals as goal

pub returns : goal.returns
returns c = grind (arith, next_alike, view_alike, overlay_alike)
