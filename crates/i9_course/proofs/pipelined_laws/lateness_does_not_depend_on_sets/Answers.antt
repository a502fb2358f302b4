use Rattle.i9_course.proofs.PipelinedAlike.{sets_alike}
use Rattle.i9_course.proofs.PipelinedSame.{imprecise_sets, late_sets, run_sets}
use Rattle.i9_course.proofs.pipelined_laws.lateness_does_not_depend_on_sets.Goals as goal

pub returns : goal.returns
returns c = record {
  needs = sets_alike;
  imprecise = imprecise_sets;
  past = late_sets;
  run = run_sets;
}
