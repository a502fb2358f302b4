use Rattle.i9_exec.proofs.Table.{results_by_name}
use Rattle.i9_exec.proofs.laws.results_by_name.Goals as goal

pub returns : goal.returns
returns c = λ i a b c ac. results_by_name i.op a b c ac
