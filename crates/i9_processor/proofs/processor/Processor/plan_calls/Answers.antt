use Rattle.std.proofs.Common.{sym, ◌∙◌, arith}
use Rattle.i9_processor.specs.State.{state_of}
use Rattle.i9_processor.proofs.Pushing.{calls_plain, calls_goes_on}
use Rattle.i9_processor.proofs.processor.Processor.plan_calls.Goals as goal

pub returns-then-not-has_marked_pointer-clause-sys : goal.returns-then-not-has_marked_pointer-clause-sys
returns-then-not-has_marked_pointer-clause-sys c = grind (arith, calls_plain)

pub returns-in-None-clause-sys : goal.returns-in-None-clause-sys
unfolding state_of
returns-in-None-clause-sys c =
    c.plan_plain_calls-in-None.ensures.sys
    ∙ calls_goes_on (state_of c.args.self.now) c.args.n c.in-Ok.is_switched (sym c.system_switches.ensures ∙ c.in-Ok.is) (sym c.push_mark.ensures ∙ c.in-None.is)
