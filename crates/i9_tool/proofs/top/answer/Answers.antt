use Rattle.std.proofs.Common.{refl}
use Rattle.i9_tool.proofs.Reading.{fetches_by}
use Rattle.i9_tool.proofs.Outcomes.{answers_unprinted, some_command, command_done, command_refused}
use Rattle.i9_tool.proofs.top.answer.Goals as goal

pub returns-in-Ok-clause-answers : goal.returns-in-Ok-clause-answers
returns-in-Ok-clause-answers g c = command_done _ _ _ _ _ _ _ _ c.in-Ok.ensures.says c.do_task.ensures.answers

pub returns-in-Ok-clause-fetches : goal.returns-in-Ok-clause-fetches
returns-in-Ok-clause-fetches g c = fetches_by _ _ _ _ _ _ c.do_task.ensures.read c.in-Ok.ensures.reads

pub returns-in-Err-Refused-clause-answers : goal.returns-in-Err-Refused-clause-answers
returns-in-Err-Refused-clause-answers g c =
    let reads = rw c.in-Err-Refused.field-0-is at c.in-Err-Refused.ensures.reads in
    command_refused _ _ _ _ _ _ _ _ reads.first c.refuse.ensures.answers

pub returns-in-Err-Refused-clause-fetches : goal.returns-in-Err-Refused-clause-fetches
returns-in-Err-Refused-clause-fetches g c =
    fetches_by _ _ _ _ _ _ c.refuse.ensures.follows (rw c.in-Err-Refused.field-0-is at c.in-Err-Refused.ensures.reads)

pub returns-in-Err-Memory-clause-answers : goal.returns-in-Err-Memory-clause-answers
returns-in-Err-Memory-clause-answers g c = answers_unprinted _ _ _ (some_command _ _ _)

pub returns-in-Err-Memory-clause-fetches : goal.returns-in-Err-Memory-clause-fetches
returns-in-Err-Memory-clause-fetches g c =
    fetches_by _ _ _ _ _ _ refl (rw c.in-Err-Memory.field-0-is at c.in-Err-Memory.ensures.reads)
