use Rattle.std.proofs.Common.{ℕ, ap, ◌∙◌}
use Rattle.i9_model.specs.declared.trace.Seen.{Seen}
use Rattle.i9_model.specs.Step.{moved}
use Rattle.i9_model.specs.Tracing.{trace_of}
use Rattle.i9_processor.specs.State.{state_of}
use Rattle.i9_plan.proofs.TraceEffects.{comes_after_flush, traced_same}
use Rattle.i9_plan.proofs.tracing.trace.Goals as goal

pub trace_left-left-requires : goal.trace_left-left-requires
trace_left-left-requires c = comes_after_flush (state_of c.args.p.now) c.args.i.now c.args.effect.now c.requires.clear c.requires.effect

pub returns-clause-effect : goal.returns-clause-effect
unfolding moved
returns-clause-effect c =
    let i = c.args.i.now in
    let s = state_of c.args.p.now in
    let left = c.trace_left-left.result in
    let event =
    c.event-effect.ensures.trace
    ∙ ap (λ (pc : ℕ). trace_of left.tc pc i c.seen-seen.result left.breaks) c.pc.ensures
    ∙ ap (λ (seen : Seen). trace_of left.tc s.pc i seen left.breaks) c.seen-seen.ensures in
    let effect = c.requires.effect in
    record {
      same = traced_same s i c.args.effect.now left c.event-effect.result effect c.trace_left-left.ensures event;
      registers = effect.registers;
      posts = effect.posts;
      changes = effect.changes;
      moves = effect.moves;
      controls = effect.controls;
    }
