use Rattle.std.proofs.Common.{◌≡◌, List, Option, None, Some, sym}
use Rattle.std.specs.Option.{option_map}
use Rattle.i9_model.specs.Run.{Given, Finish}
use Rattle.i9_schedule.specs.Plan.{Plan}
use Rattle.i9_course.specs.Course.{Item}
use Rattle.i9_machine.specs.declared.machine.Machine.{Machine}
use Rattle.i9_machine.specs.StandsFor.{StandsFor, FollowsUntil}
use Rattle.i9_machine.specs.InRun.{IsInRun}
use Rattle.i9_test_machine.proofs.run.copied.Goals as goal

-- a machine that stands where another stands, which has answered no end, is in its run
in_run : (g : Given) (h : List Item) (end : Option Finish) (before m : Machine) (plan : Plan) → option_map (λ (f : Finish). f.end) end ≡ None
    → (StandsFor g h None before → StandsFor g h None m) → StandsFor g h end before → FollowsUntil g h end plan → IsInRun m plan
in_run g h None before m plan none copies stands follows = record {
  given = g;
  items = h;
  end = None;
  stands = copies stands;
  follows = follows;
}
in_run g h (Some f) before m plan none copies stands follows = absurd cc

pub returns-in_ok-copy-in-None : goal.returns-in_ok-copy-in-None
returns-in_ok-copy-in-None c = λ plan r.
    in_run r.given r.items r.end c.args.machine.now _ plan (sym (c.in-None.ensures r.given r.items r.end r.stands))
    (c.in_ok-copy-in-None.ensures.stands r.given r.items) r.stands r.follows
