use Rattle.i9_tool.proofs.Outcomes.{made_answers}
use Rattle.i9_tool.proofs.tasks.do_task.Goals as goal

pub returns-in-Run-clause-answers : goal.returns-in-Run-clause-answers
returns-in-Run-clause-answers g c = rw c.in-Run.is c.do_run.ensures.answers

pub returns-in-Asm-clause-answers : goal.returns-in-Asm-clause-answers
returns-in-Asm-clause-answers g c = rw c.in-Asm.is (made_answers _ _ _ _ _ _ c.image_of.ensures c.print_made.ensures.prints)

pub returns-in-Dis-clause-answers : goal.returns-in-Dis-clause-answers
returns-in-Dis-clause-answers g c = rw c.in-Dis.is (made_answers _ _ _ _ _ _ c.listing_of.ensures c.print_made-in-Dis.ensures.prints)

pub returns-in-Gen-clause-answers : goal.returns-in-Gen-clause-answers
returns-in-Gen-clause-answers g c = rw c.in-Gen.is c.do_job.ensures.answers

pub returns-in-Tune-clause-answers : goal.returns-in-Tune-clause-answers
returns-in-Tune-clause-answers g c = rw c.in-Tune.is (made_answers _ _ _ _ _ _ c.tuned_of.ensures c.print_made-in-Tune.ensures.prints)
