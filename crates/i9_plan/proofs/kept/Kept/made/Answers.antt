use Rattle.std.proofs.Common.{arith}
use Rattle.i9_plan.proofs.Fetching.{decoded_valid}
use Rattle.i9_plan.proofs.kept.Kept.made.Goals as goal

pub fixed_need-requires : goal.fixed_need-requires
fixed_need-requires c = decoded_valid c.args.first 0 c.args.inst (omega arith) c.requires
