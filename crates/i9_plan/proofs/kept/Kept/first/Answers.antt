use Rattle.std.proofs.Common.{refl}
use Rattle.i9_isa.specs.Words.{decoded}
use Rattle.i9_plan.proofs.kept.Kept.first.Goals as goal

pub made-requires : goal.made-requires
unfolding decoded
made-requires c = refl
