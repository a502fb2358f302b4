use Rattle.i9_replay.proofs.EventForms.{timed_case, timed_is}
use Rattle.i9_replay.proofs.schedule_laws.words_say_events.Goals as goal

pub returns-clause-read : goal.returns-clause-read
returns-clause-read c = timed_case

pub returns-clause-only : goal.returns-clause-only
returns-clause-only c = timed_is
