use Rattle.i9_tool.proofs.Outcomes.{image_runs}
use Rattle.i9_tool.proofs.tasks.print_run.Goals as goal

pub returns-clause-answers : goal.returns-clause-answers
returns-clause-answers g c = image_runs _ _ _ _ _ _ _ _ _ _ c.run_headed.ensures (c.ending_of_run.ensures.ended c.run_headed.ensures.finish c.run_headed.ensures.tells)
