use Rattle.i9_tune.proofs.Inputs.{result_same}
use Rattle.i9_tune.proofs.laws.a_result_sees_its_sources.Goals as goal

pub returns : goal.returns
returns c = result_same
