use Rattle.i9_course.proofs.PipelinedRuns.{records_of-steps, pipelined_past, late_first, pipelined_run, late_counted, counted_first, counted_run, none_late, none_run}
use Rattle.i9_course.proofs.Named.{imprecise_named}
use Rattle.i9_course.proofs.PlainEnds.{run_plain}
use Rattle.i9_course.proofs.pipelined_laws.pipelined_runs_are_runs.Goals as goal

pub returns : goal.returns
returns c = record {
  records = records_of-steps;
  past = pipelined_past;
  first = late_first;
  run = pipelined_run;
  counted_past = late_counted;
  counted_first = counted_first;
  counted_run = counted_run;
  plain = run_plain;
  imprecise = imprecise_named;
  same_past = none_late;
  same_run = none_run;
}
