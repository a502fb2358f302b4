use Rattle.i9_course.proofs.PipelinedCuts.{imprecise_more, below_more, late_longer, late_more, imprecise_run_more, ended_longer, ended_more, faulted_more}
use Rattle.i9_course.proofs.pipelined_laws.a_length_cuts_the_pipelined_run.Goals as goal

pub returns : goal.returns
returns c = record {
  imprecise = imprecise_more;
  below = below_more;
  past = late_longer;
  past_where = late_more;
  fault = imprecise_run_more;
  run = ended_longer;
  run_where = ended_more;
  run_otherwise = faulted_more;
}
