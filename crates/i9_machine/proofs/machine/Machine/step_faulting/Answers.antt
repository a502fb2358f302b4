use Rattle.std.proofs.Common.{sym, subst}
use Rattle.i9_machine.specs.declared.machine.Machine.{Machine}
use Rattle.i9_machine.specs.Contents.{situation}
use Rattle.i9_machine.specs.Step.{IsPlannedIn}
use Rattle.i9_machine.proofs.Arriving.{ahead_planned}
use Rattle.i9_machine.proofs.machine.Machine.step_faulting.Goals as goal

pub perform-requires-clause-step : goal.perform-requires-clause-step
perform-requires-clause-step c =
    let faults = c.faults_by-step in
    let mid = faults.new.self in
    let is = c.requires.ahead in
    subst (λ (m : Machine). IsPlannedIn (situation m) c.args.plan.now faults.result mid) (sym faults.ensures.like)
    (ahead_planned c.args.self.now mid c.args.plan.now c.args.issue _ faults.result is faults.ensures.need
    (faults.ensures.step is.kept.need _ c.args.plan.now is.is_next is.kept.is_need is.kept.cost))
