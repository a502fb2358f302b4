use Rattle.std.proofs.Common.{Option, refl, sym, ap, ◌∙◌, subst, arith}
use Rattle.i9_model.specs.declared.trace.Trace.{Trace}
use Rattle.i9_model.specs.Controls.{controlled}
use Rattle.i9_model.specs.Step.{flagged, acted, counted}
use Rattle.i9_model.specs.Alike.{AreAlike}
use Rattle.i9_processor.specs.declared.effect.Control.{Control}
use Rattle.i9_processor.specs.Effect.{action_in, control_in}
use Rattle.i9_processor.specs.State.{state_of, cells_of, bytes_of, queue_of}
use Rattle.i9_processor.proofs.Applying.{reads_zero, moved_alike_by, can_alike, applied_alike, counted_alike}
use Rattle.i9_processor.proofs.processor.Processor.apply.Goals as goal

pub control-requires-clause-can : goal.control-requires-clause-can
control-requires-clause-can c = grind (arith, moved_alike_by, can_alike)

pub returns-clause-state : goal.returns-clause-state
returns-clause-state c =
    let p = c.args.self.now in
    let s = state_of p in
    let a = action_in s c.args.e.now in
    let alike = moved_alike_by p a c.do_moves.new.self c.requires.free c.do_moves.ensures.state c.do_moves.ensures.memory c.do_moves.ensures.cache in
    let t = state_of c.do_moves.new.self in
    let known =
    ap (λ (o : Option Trace). flagged o (state_of c.control.new.self)) c.trace_by.ensures
    ∙ ap (flagged c.args.e.now.trace) (c.control.ensures.state ∙ ap (λ (k : Control). controlled t (control_in k)) c.control_by.ensures) in
    let last = applied_alike c.args.e.now.control s t (state_of c.renew.new.self) a (reads_zero p) refl c.requires.controls alike (c.renew.ensures.state ∙ c.flag.ensures.state ∙ known) in
    subst (AreAlike (counted c.args.counts (acted s a))) (sym (c.look_ahead.ensures.state ∙ c.add_count.ensures.state)) (counted_alike c.args.counts (acted s a) (state_of c.renew.new.self) last)

pub returns-clause-cells : goal.returns-clause-cells
unfolding state_of cells_of
returns-clause-cells c = grind arith

-- flags of trace events, new sets and the count leave what waits
pub returns-clause-waits : goal.returns-clause-waits
unfolding bytes_of queue_of
returns-clause-waits c asks = grind arith

pub returns-clause-acts : goal.returns-clause-acts
unfolding queue_of
returns-clause-acts c rests = grind arith

pub returns-clause-still : goal.returns-clause-still
unfolding bytes_of
returns-clause-still c rests still = grind arith
