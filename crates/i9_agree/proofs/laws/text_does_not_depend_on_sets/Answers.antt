use Rattle.i9_agree.proofs.RunsInSets.{run_in_sets, sets_same, any_sets}
use Rattle.i9_agree.proofs.laws.text_does_not_depend_on_sets.Goals as goal

pub returns : goal.returns
returns c = record {
  some = run_in_sets;
  only = sets_same;
  any = any_sets;
}
