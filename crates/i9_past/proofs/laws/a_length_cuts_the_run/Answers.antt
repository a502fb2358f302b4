use Rattle.i9_past.proofs.Cuts.{past_more, run_more}
use Rattle.i9_past.proofs.laws.a_length_cuts_the_run.Goals as goal

pub returns-clause-past : goal.returns-clause-past
returns-clause-past c = past_more

pub returns-clause-run : goal.returns-clause-run
returns-clause-run c = run_more
