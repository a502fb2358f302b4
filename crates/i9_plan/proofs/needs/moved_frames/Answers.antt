use Rattle.std.proofs.Common.{sym, ap, ◌∙◌}
use Rattle.i9_model.specs.Step.{saved_locals}
use Rattle.i9_course.specs.NeedOf.{moved_frames}
use Rattle.i9_processor.specs.declared.effect.Move.{Move}
use Rattle.i9_processor.specs.Effect.{move_in}
use Rattle.i9_processor.specs.State.{state_of, cache_of, size_of}
use Rattle.i9_plan.proofs.needs.moved_frames.Goals as goal

pub returns-in-Saves-clause-value : goal.returns-in-Saves-clause-value
returns-in-Saves-clause-value c =
    let p = c.args.p.now in
    let s = state_of p in
    c.spilled_frames.ensures.value c.in-Saves.push.save (saved_locals s c.in-Saves.back)
    ∙ sym (ap (λ (m : Move). moved_frames (size_of p) (cache_of p) (move_in s m)) c.in-Saves.is)
