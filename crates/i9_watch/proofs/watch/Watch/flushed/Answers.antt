use Rattle.std.proofs.Common.{ℕ, Bool, sym, ap, ◌∙◌, arith}
use Rattle.i9_watch.specs.declared.page.Mark.TheVariants.{Soft, Live, Lost}
use Rattle.i9_watch.specs.Marks.{is_marked}
use Rattle.i9_watch.specs.Watch.{frames_of}
use Rattle.i9_watch.proofs.Watching.{same_frames, none_kept, none_left, kept_order}
use Rattle.i9_watch.proofs.watch.Watch.flushed.Goals as goal

pub invariant_of-self : goal.invariant_of-self
invariant_of-self c =
    let w = c.args.self.now in
    let live = none_left w.live.items _ _ _ (λ x t. sym (ap (λ (f : ℕ → Bool). f x) w.marked) ∙ t) (c.harden_all.ensures.others Live (λ e. cc e)) (c.leave_all.ensures.others Live (λ e. cc e)) in
    let lost = none_left w.live.items _ _ _ w.within (c.harden_all.ensures.others Lost (λ e. cc e)) (c.leave_all.ensures.others Lost (λ e. cc e)) in
    none_kept _ _ _ _ (omega arith) c.clear.ensures.items live lost

pub returns-clause-frames : goal.returns-clause-frames
unfolding frames_of
returns-clause-frames c =
    let w = c.args.self.now in
    same_frames
    (c.leave_all.ensures.soft ∙ c.harden_all.ensures.soft ∙ kept_order (is_marked Soft w.marks) (is_marked Lost w.marks) w.live.items)
    c.clear.ensures.items
    (none_left w.live.items _ _ _ w.within (c.harden_all.ensures.others Lost (λ e. cc e)) (c.leave_all.ensures.others Lost (λ e. cc e)))
