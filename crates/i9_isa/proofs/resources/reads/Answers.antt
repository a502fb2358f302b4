use Rattle.std.proofs.Common.{◌∙◌}
use Rattle.i9_isa.proofs.Sets.{or_set, few_read}
use Rattle.i9_isa.proofs.resources.reads.Goals as goal

pub registers-requires-3-clause-count : goal.registers-requires-3-clause-count
registers-requires-3-clause-count c = rw (c.words_read-3.ensures, c.row-row.ensures) (few_read c.args.i.now.op)

pub returns : goal.returns
returns c = λ k.
    or_set _ _ _ _ (or_set _ _ _ _ (or_set _ _ _ _ (or_set _ _ _ _ (or_set _ _ _ _ c.registers.ensures c.registers-2.ensures) c.registers-3.ensures) c.one.ensures) c.one-2.ensures) c.one-3.ensures k
    ∙ cc
