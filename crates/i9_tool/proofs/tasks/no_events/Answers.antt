use Rattle.std.proofs.Common.{true, [], inl, refl, arith}
use Rattle.i9_model.specs.ScheduleText.{first_version}
use Rattle.i9_model.specs.PrintedText.{heading_text}
use Rattle.i9_replay.proofs.Replay.{replay}
use Rattle.i9_tool.specs.Inputs.{no_schedule}
use Rattle.i9_tool.proofs.tasks.no_events.Goals as goal

pub returns-in-Ok : goal.returns-in-Ok
unfolding heading_text
returns-in-Ok c =
    let says = replay first_version [] (inl refl) (record { each = tt; order = tt; few = omega arith; alike = (true, tt) }) tt in
    let said = c.in-Ok.ensures.only no_schedule says in
    cc
