use Rattle.i9_replay.proofs.Plans.{schedule_is_plan, schedule_of_version, front_is_plan, front_of_version}
use Rattle.i9_replay.proofs.Replay.{replay}
use Rattle.i9_replay.proofs.schedule_laws.printed_text_is_a_schedule.Goals as goal

pub returns : goal.returns
returns c = record {
  replay = replay;
  plan = schedule_is_plan;
  front = front_is_plan;
  version = schedule_of_version;
  version_front = front_of_version;
}
