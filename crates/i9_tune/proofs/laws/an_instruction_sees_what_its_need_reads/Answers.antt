use Rattle.i9_tune.proofs.Sources.{allowed_parts, does_same}
use Rattle.i9_tune.proofs.ReadRegisters.{agree_by_need}
use Rattle.i9_tune.proofs.laws.an_instruction_sees_what_its_need_reads.Goals as goal

pub returns : goal.returns
returns c f i s t valid h same beside = does_same i s t (allowed_parts i h) (agree_by_need f i s t valid same beside)
