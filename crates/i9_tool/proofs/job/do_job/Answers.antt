use Rattle.i9_tool.proofs.Outcomes.{answers_unprinted}
use Rattle.i9_tool.proofs.job.do_job.Goals as goal

pub returns-in-Err-clause-answers : goal.returns-in-Err-clause-answers
returns-in-Err-clause-answers g c = λ some. answers_unprinted _ _ _ some
