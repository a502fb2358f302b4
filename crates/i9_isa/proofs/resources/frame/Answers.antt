use Rattle.i9_isa.proofs.Sets.{or_set}
use Rattle.i9_isa.proofs.resources.frame.Goals as goal

pub returns : goal.returns
returns c = or_set _ _ _ _ c.group.ensures c.one.ensures
