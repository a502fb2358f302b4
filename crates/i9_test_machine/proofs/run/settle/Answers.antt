use Rattle.std.proofs.Common.{List, ◌∷◌, Option, None, Some}
use Rattle.i9_model.specs.Run.{Given, Finish}
use Rattle.i9_schedule.specs.Plan.{Plan}
use Rattle.i9_course.specs.Course.{Item, Fence}
use Rattle.i9_machine.specs.declared.machine.Machine.{Machine}
use Rattle.i9_machine.specs.StandsFor.{StandsFor, FollowsUntil}
use Rattle.i9_machine.specs.InRun.{IsInRun}
use Rattle.i9_test_machine.proofs.run.settle.Goals as goal

-- a machine stands for a run behind the call, with a fence where no end was answered
settled : (g : Given) (h : List Item) (end : Option Finish) (before m : Machine) (plan : Plan)
    → (StandsFor g h None before → StandsFor g (Fence ∷ h) None m)
    → ((f : Finish) → StandsFor g h (Some f) before → StandsFor g h (Some f) m)
    → StandsFor g h end before → FollowsUntil g h end plan → IsInRun m plan
settled g h None before m plan fenced ended stands follows = record {
  given = g;
  items = Fence ∷ h;
  end = None;
  stands = fenced stands;
  follows = record { events = follows.events; place = follows.place };
}
settled g h (Some f) before m plan fenced ended stands follows = record {
  given = g;
  items = h;
  end = Some f;
  stands = ended f stands;
  follows = tt;
}

pub returns : goal.returns
returns c =
    let r = c.requires in
    let e = c.settle.ensures in
    let now = c.args.run.now in
    settled r.given r.items r.end now.machine c.settle.new.self now.plan (e.fenced r.given r.items) (e.ended r.given r.items) r.stands r.follows
