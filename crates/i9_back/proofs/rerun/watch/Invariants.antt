use Rattle.i9_model.specs.Given.{Given}
use Rattle.i9_machine.specs.Step.{steps_left}
use Rattle.i9_back.specs.Stands.{StandsEarlier}
use Rattle.i9_back.proofs.Watching.{Watching}
use Rattle.i9_back.proofs.rerun.watch.Given as goal

abbrev pub invariant-steps : goal.invariant-steps
invariant-steps l = (what : Given) (s : StandsEarlier what l.fn.from l.fn.m l.fn.plan) → Watching what s.records l.done l.to l.a l.found l.before l.m l.plan

abbrev pub decreases-steps : goal.decreases-steps
decreases-steps l = steps_left l.m l.plan
