use Rattle.i9_model.specs.Given.{Given}
use Rattle.i9_machine.specs.Step.{steps_left}
use Rattle.i9_back.specs.Stands.{StandsEarlier}
use Rattle.i9_debug.proofs.Lasts.{Seeking}
use Rattle.i9_debug.proofs.seeking.seek.Given as goal

abbrev pub invariant-steps : goal.invariant-steps
invariant-steps g l = (what : Given) (s : StandsEarlier what l.fn.from l.fn.m l.fn.plan)
    → Seeking (g.F.ViewTest.allows l.s) what s.records l.done l.to l.n l.found l.m l.plan

abbrev pub decreases-steps : goal.decreases-steps
decreases-steps g l = steps_left l.m l.plan
