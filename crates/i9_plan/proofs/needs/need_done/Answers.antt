use Rattle.std.proofs.Common.{◌≡◌, false, None, Option, sym, ap, ◌∙◌}
use Rattle.std.specs.Option.{is_some}
use Rattle.i9_model.specs.declared.trace.Trace.{Trace}
use Rattle.i9_model.specs.Needs.{has_access, inst_need}
use Rattle.i9_model.specs.Step.{Action, Move, Stays}
use Rattle.i9_model.specs.Traced.{traced_action}
use Rattle.i9_course.specs.NeedOf.{moved_frames, facts_of, need_of}
use Rattle.i9_need.specs.declared.fixed.FixedNeed.{FixedNeed}
use Rattle.i9_processor.specs.Effect.{move_in}
use Rattle.i9_processor.specs.State.{state_of, cache_of, size_of}
use Rattle.i9_plan.specs.Kept.{last_of, inst_in}
use Rattle.i9_plan.proofs.KnownFacts.{plain_known}
use Rattle.i9_plan.proofs.needs.need_done.Goals as goal

pub returns-then-is_plain-clause-need : goal.returns-then-is_plain-clause-need
unfolding need_of
returns-then-is_plain-clause-need c =
    let p = c.args.p.now in
    let s = state_of p in
    let i = inst_in c.args.decodes.now in
    let is = c.if-is_plain.true in
    let move : (traced_action i s).move ≡ Stays = sym (ap (λ (a : Action). a.move) c.requires.effect.same) ∙ ap (move_in s) (c.is_plain.ensures.frames is) in
    let trace : (traced_action i s).trace ≡ None = sym (ap (λ (a : Action). a.trace) c.requires.effect.same) ∙ c.is_plain.ensures.trace is in
    let access : has_access i.op ≡ false = sym (ap (λ (k : FixedNeed). k.access) (last_of c.args.decodes.now).needs) ∙ c.is_plain.ensures.access is in
    let known =
    ap (λ (m : Move). facts_of i s (moved_frames (size_of p) (cache_of p) m) false (is_some (traced_action i s).trace)) move
    ∙ ap (λ (t : Option Trace). facts_of i s 0 false (is_some t)) trace
    ∙ plain_known i s access (c.is_plain.ensures.alone is) in
    c.plain_need.ensures.need ∙ ap (inst_need i) (sym known)
