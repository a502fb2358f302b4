use Rattle.i9_pipeline.proofs.Landed.{none_hidden}
use Rattle.i9_pipeline.proofs.laws.nothing_is_hidden.Goals as goal

pub returns : goal.returns
returns c = none_hidden
