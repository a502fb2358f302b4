use Rattle.std.proofs.Common.{ℕ, ◌≤◌, sym, ap, ◌∙◌, subst}
use Rattle.i9_model.specs.Step.{Action}
use Rattle.i9_course.specs.NeedOf.{moved_frames}
use Rattle.i9_processor.specs.State.{state_of, cache_of, size_of}
use Rattle.i9_plan.specs.Kept.{inst_in}
use Rattle.i9_plan.proofs.MovedFrames.{moves_one}
use Rattle.i9_plan.proofs.needs.known_need.Goals as goal

pub need_by-requires : goal.need_by-requires
need_by-requires c =
    let p = c.args.p.now in
    let s = state_of p in
    let i = inst_in c.args.decodes.now in
    let move =
    c.moved_frames-frames.ensures.value
    ∙ ap (λ (a : Action). moved_frames (size_of p) (cache_of p) a.move) c.requires.effect.same in
    let facts = c.facts-known.ensures.known c.moved_frames-frames.ensures.few (λ moves. subst (λ (n : ℕ). n ≤ 1) (sym move) (moves_one (size_of p) (cache_of p) i s moves)) in
    record { inst = i; same = c.need.ensures.need; facts = facts }
