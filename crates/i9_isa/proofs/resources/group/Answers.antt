use Rattle.i9_isa.proofs.Sets.{group_bits}
use Rattle.i9_isa.proofs.resources.group.Goals as goal

pub returns : goal.returns
returns c = λ k. group_bits c.args.first c.args.count k c.requires.count c.requires.first
