use Rattle.std.proofs.Common.{◌≡◌, sym, ◌∙◌}
use Rattle.std.specs.Prelude.{unwrap_or}
use Rattle.i9_model.specs.Hazards.{read_hazard}
use Rattle.i9_calls.specs.Callers.{caller_of}
use Rattle.i9_model.specs.Interrupts.{planned_interrupt}
use Rattle.i9_processor.specs.State.{state_of}
use Rattle.i9_processor.proofs.Pushing.{interrupt_plain, interrupt_marked}
use Rattle.i9_processor.proofs.processor.Processor.plan_interrupt.Goals as goal

pub returns-in-Some-clause-entry : goal.returns-in-Some-clause-entry
unfolding state_of
returns-in-Some-clause-entry c =
    let s = state_of c.args.self.now in
    let read : c.check_read.result ≡ read_hazard s.frames c.vector_place-vector.result 4 = c.check_read.ensures in
    cc (
      c.unwrap_or.ensures,
      c.vector_place-vector.ensures,
      interrupt_marked s c.args.c.now c.in-Some.mark (sym c.push_mark.ensures ∙ c.in-Some.is),
    )

pub returns-in-None-clause-entry : goal.returns-in-None-clause-entry
unfolding state_of
returns-in-None-clause-entry c =
    let p = c.args.self.now in
    let s = state_of p in
    c.plan_interrupt.ensures.entry
    ∙ (λ i. planned_interrupt (caller_of s.memory s.frames p.pc (c.register.ensures i) (c.register-in-None.ensures i)) p.tables.interrupt_table p.tables.interrupt_stack c.args.c.now (c.ac.ensures i))
    ∙ interrupt_plain s c.args.c.now (sym c.push_mark.ensures ∙ c.in-None.is)
