use Rattle.std.proofs.Common.{arith}
use Rattle.i9_isa.specs.Resources.{is_written}
use Rattle.i9_need.proofs.Sets.{same_set, beyond_writes}
use Rattle.i9_need.proofs.fixed.resources_written.Goals as goal

pub returns : goal.returns
returns c = same_set c.writes.result (is_written c.args.i.now) (omega arith) c.writes.ensures (beyond_writes c.args.i.now c.requires)
