use Rattle.i9_tune.proofs.Fetched.{tuned_same}
use Rattle.i9_tune.proofs.Depend.{all_allowed}
use Rattle.i9_tune.proofs.Tuned.{tuned_order}
use Rattle.i9_tune.proofs.laws.tuned_blocks_do_the_same.Goals as goal

pub returns : goal.returns
returns c = record {
  order = tuned_same;
  tuned = λ block tuned s t ok is. tuned_same block tuned s t (all_allowed block ok) (tuned_order block tuned ok is);
}
