use Rattle.std.proofs.Common.{◌∙◌}
use Rattle.i9_isa.proofs.Sets.{or_set}
use Rattle.i9_isa.proofs.resources.writes.Goals as goal

pub returns : goal.returns
returns c = λ k.
    or_set _ _ _ _ (or_set _ _ _ _ (or_set _ _ _ _ (or_set _ _ _ _ c.registers.ensures c.registers-2.ensures) c.one.ensures) c.frame_where.ensures) c.one-2.ensures k
    ∙ cc
