use Rattle.i9_course.proofs.PipelinedSame.{imprecise_plan, late_again, run_again}
use Rattle.i9_course.proofs.pipelined_laws.lateness_does_not_depend_on_the_plan.Goals as goal

pub returns : goal.returns
returns c = record {
  imprecise = imprecise_plan;
  past = late_again;
  run = run_again;
}
