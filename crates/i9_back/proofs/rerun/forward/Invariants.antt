use Rattle.i9_model.specs.Given.{Given}
use Rattle.i9_machine.specs.Step.{steps_left}
use Rattle.i9_back.specs.Stands.{StandsEarlier}
use Rattle.i9_back.proofs.Going.{Going}
use Rattle.i9_back.proofs.rerun.forward.Given as goal

abbrev pub invariant-steps : goal.invariant-steps
invariant-steps l = (what : Given) → StandsEarlier what l.fn.from l.fn.m l.fn.plan → Going what l.done l.to l.m l.plan

abbrev pub decreases-steps : goal.decreases-steps
decreases-steps l = steps_left l.m l.plan
