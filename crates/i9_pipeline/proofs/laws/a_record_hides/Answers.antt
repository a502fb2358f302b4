use Rattle.i9_pipeline.proofs.Landed.{record_hides, record_leaves}
use Rattle.i9_pipeline.proofs.laws.a_record_hides.Goals as goal

pub returns-clause-hides : goal.returns-clause-hides
returns-clause-hides c = λ first x xs k is hides due. record_hides first x xs k hides due is

pub returns-clause-leaves : goal.returns-clause-leaves
returns-clause-leaves c = record_leaves
