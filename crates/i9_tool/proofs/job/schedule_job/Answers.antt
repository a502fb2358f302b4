use Rattle.i9_replay.proofs.Plans.{schedule_is_plan}
use Rattle.i9_generator.proofs.MadeSchedule.{schedule_not_refused}
use Rattle.i9_tool.proofs.Outcomes.{answers_unprinted}
use Rattle.i9_tool.proofs.job.schedule_job.Goals as goal

pub run_job-requires-clause-plan : goal.run_job-requires-clause-plan
run_job-requires-clause-plan g c = schedule_is_plan _ _ c.in-Ok.ensures.found

pub returns-in-Err-Memory-clause-answers : goal.returns-in-Err-Memory-clause-answers
returns-in-Err-Memory-clause-answers g c = λ some. answers_unprinted _ _ _ some

pub unreachable-requires : goal.unreachable-requires
unreachable-requires g c =
    let bad = rw c.in-Err-Bad.field-0-is at c.in-Err-Bad.ensures.refused in
    schedule_not_refused c.args.words.number _ (rw c.requires.schedule at bad)
