use Rattle.std.proofs.Common.{◌∙◌}
use Rattle.i9_text.specs.Text.{lines_of}
use Rattle.i9_model.specs.ScheduleText.{contents_of}
use Rattle.i9_replay.proofs.Plans.{schedule_is_plan, schedule_of_version}
use Rattle.i9_schedule.specs.Reading.{said_by}
use Rattle.i9_schedule.proofs.reading.read.Goals as goal

pub new-requires-clause-plan : goal.new-requires-clause-plan
new-requires-clause-plan c = schedule_is_plan (lines_of c.args.text.now) (contents_of (said_by c.in-Ok.said)) c.in-Ok.ensures.found

pub new-requires-clause-version : goal.new-requires-clause-version
new-requires-clause-version c =
    rw c.version-version.ensures (schedule_of_version (lines_of c.args.text.now) (contents_of (said_by c.in-Ok.said)) c.in-Ok.ensures.found).0

pub new-requires-clause-of_version : goal.new-requires-clause-of_version
new-requires-clause-of_version c =
    rw c.version-version.ensures (schedule_of_version (lines_of c.args.text.now) (contents_of (said_by c.in-Ok.said)) c.in-Ok.ensures.found).1

pub returns-in-Ok-clause-only : goal.returns-in-Ok-clause-only
returns-in-Ok-clause-only c = λ said says.
    let told = c.in-Ok.ensures.only said says in
    let version = c.new.ensures.version ∙ c.version-version.ensures in
    rw (version, c.new.ensures.events) told
