use Rattle.i9_tool.proofs.tasks.drive_run.Goals as goal

pub returns-in-Length-clause-answers : goal.returns-in-Length-clause-answers
returns-in-Length-clause-answers g c = λ some. rw c.in-Length.is c.print_run.ensures.answers

pub returns-in-Script-clause-answers : goal.returns-in-Script-clause-answers
returns-in-Script-clause-answers g c = rw c.in-Script.is c.run_script.ensures.answers
