use Rattle.std.proofs.Common.{refl}
use Rattle.i9_test_machine.proofs.debug_sessions.run_of.Goals as goal

pub returns : goal.returns
returns c = record {
  stands = c.in_ok-machine.ensures.stands c.in_ok-plan.plan.events c.in_ok-plan.ensures.plan;
  turn = c.in_ok-machine.ensures.turn;
  follows = record { events = refl; place = c.in_ok-plan.ensures.place };
  events = refl;
}
