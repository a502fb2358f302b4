use Rattle.i9_course.proofs.PipelinedRuns.{pipelined_records, late_end, fault_ends, none_behind}
use Rattle.i9_course.proofs.pipelined_laws.one_pipelined_run.Goals as goal

pub returns : goal.returns
returns c = record {
  records = pipelined_records;
  finish = late_end;
  fault = fault_ends;
  behind = none_behind;
}
