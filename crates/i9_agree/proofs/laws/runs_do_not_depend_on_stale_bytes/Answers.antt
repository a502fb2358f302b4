use Rattle.i9_agree.proofs.ReadingRuns.{run-beside, run-behind}
use Rattle.i9_agree.proofs.laws.runs_do_not_depend_on_stale_bytes.Goals as goal

pub returns-clause-some : goal.returns-clause-some
returns-clause-some c = run-beside

pub returns-clause-only : goal.returns-clause-only
returns-clause-only c = run-behind
