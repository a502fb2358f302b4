use Rattle.std.proofs.Common.{arith}
use Rattle.i9_agree.proofs.AgreeSteps.{next-agree, overlay-agree}
use Rattle.i9_agree.proofs.AgreeTexts.{views-agree, record-text-same}
use Rattle.i9_agree.proofs.laws.stale_values_are_not_seen.Goals as goal

pub returns : goal.returns
returns c = grind (arith, next-agree, views-agree, overlay-agree, record-text-same)
