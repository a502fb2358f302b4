use Rattle.std.proofs.Common.{◌≢◌, false, sym, ◌∙◌, arith}
use Rattle.i9_model.specs.declared.run.Due.TheVariants as dues
use Rattle.i9_machine.specs.Contents.{situation, contents_of}
use Rattle.i9_machine.proofs.Arriving.{drained_arrive, waits_arrive}
use Rattle.i9_machine.proofs.Opening.{due_waits}
use Rattle.i9_machine.proofs.machine.Machine.look.Goals as goal
use Rattle.i9_machine.proofs.machine.Machine.look.Goals.{in-Nothing, in_default}

pub returns-then-until-self-clause-arrives : goal.returns-then-until-self-clause-arrives
returns-then-until-self-clause-arrives c =
    drained_arrive (contents_of c.args.self.now) c.args.plan.now c.all_done-until.result
    c.all_done-until.ensures.computed (omega (arith, c.if-until-self.true))

pub returns-in-Some-clause-arrives : goal.returns-in-Some-clause-arrives
returns-in-Some-clause-arrives c = c.look_behind.ensures.arrives c.args.plan.now

pub returns-in-Some-clause-ready : goal.returns-in-Some-clause-ready
returns-in-Some-clause-ready c = c.look_behind.ensures.ready c.args.plan.now

-- something is due, and no fault is imprecise
pub returns-in-None-clause-arrives : goal.returns-in-None-clause-arrives
returns-in-None-clause-arrives c =
    let m = c.args.self.now in
    let due : m.due ≢ dues.Nothing = elim c.match-matches.branch [
      | in-Nothing w ↦ absurd (cc (sym w.matches-is ∙ c.if-matches.false))
      | in_default w ↦ w.in_default.not-Nothing
    ] in
    waits_arrive (contents_of m) c.args.plan.now c.all_done-until.result false c.all_done-until.ensures.computed
    (omega (arith, c.if-until-self.false)) (sym c.late_fault.ensures ∙ c.in-None.is)
    (due_waits (situation m) c.args.plan.now due)
