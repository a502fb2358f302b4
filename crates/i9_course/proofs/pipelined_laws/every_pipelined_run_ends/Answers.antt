use Rattle.i9_course.proofs.PipelinedRuns.{pipelined_goes_on, late_within}
use Rattle.i9_course.proofs.pipelined_laws.every_pipelined_run_ends.Goals as goal

pub returns-clause-ends : goal.returns-clause-ends
returns-clause-ends c = pipelined_goes_on

pub returns-clause-within : goal.returns-clause-within
returns-clause-within c = late_within
