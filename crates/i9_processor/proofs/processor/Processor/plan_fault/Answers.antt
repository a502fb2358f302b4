use Rattle.std.proofs.Common.{sym, ◌∙◌}
use Rattle.i9_processor.specs.State.{state_of}
use Rattle.i9_processor.proofs.Pushing.{fault_stop, fault_marked, fault_goes_on}
use Rattle.i9_processor.proofs.processor.Processor.plan_fault.Goals as goal

pub returns-in-Err-clause-entry : goal.returns-in-Err-clause-entry
unfolding state_of
returns-in-Err-clause-entry c = fault_stop (state_of c.args.self.now) c.args.fault.now c.in-Err.stop (sym c.fault_switches.ensures ∙ c.in-Err.is)

pub returns-in-Some-clause-entry : goal.returns-in-Some-clause-entry
unfolding state_of
returns-in-Some-clause-entry c =
    fault_marked (state_of c.args.self.now) c.args.fault.now c.in-Ok.is_switched c.in-Some.mark (sym c.fault_switches.ensures ∙ c.in-Ok.is) (sym c.push_mark.ensures ∙ c.in-Some.is)

pub returns-in-None-clause-entry : goal.returns-in-None-clause-entry
unfolding state_of
returns-in-None-clause-entry c =
    c.plan_plain_fault-in-None.ensures.entry
    ∙ fault_goes_on (state_of c.args.self.now) c.args.fault.now c.in-Ok.is_switched (sym c.fault_switches.ensures ∙ c.in-Ok.is) (sym c.push_mark.ensures ∙ c.in-None.is)
