use Rattle.std.proofs.Common.{arith}
use Rattle.i9_isa.specs.Resources.{is_read}
use Rattle.i9_need.proofs.Sets.{same_set, beyond_reads}
use Rattle.i9_need.proofs.fixed.resources_read.Goals as goal

pub returns : goal.returns
returns c = same_set c.reads.result (is_read c.args.i.now) (omega arith) c.reads.ensures (beyond_reads c.args.i.now c.requires)
