use Rattle.i9_model.specs.Image.{pairs_of}
use Rattle.i9_hex.proofs.Joining.{runs_once}
use Rattle.i9_hex.proofs.Placed.{some_runs, runs_few}
use Rattle.i9_hex.proofs.laws.one_list.Goals as goal

pub returns : goal.returns
returns c = record {
  some = some_runs;
  one = λ image a b h g. runs_once (pairs_of image) a b h g;
  few = runs_few;
}
