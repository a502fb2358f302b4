use Rattle.std.proofs.Common.{◌≡◌, ◌∷◌, ℕ, Bool, sym, subst, ap, ◌∙◌, rules}
use Rattle.std.specs.Prelude.{◌&&◌, not}
use Rattle.std.proofs.lemmas.List.{nil_from_length}
use Rattle.std.specs.VecDeque.Iter.{deque_iter_rest}
use Rattle.i9_model.specs.declared.layout.TheConstants.{FRAME_SIZE}
use Rattle.i9_model.specs.Frames.{in_bytes}
use Rattle.i9_watch.specs.declared.page.Mark.TheVariants.{Soft, Lost}
use Rattle.i9_watch.specs.Live.{AreAligned}
use Rattle.i9_watch.specs.Marks.{is_marked}
use Rattle.i9_watch.proofs.Watching.{frame_hardened, no_frame_hardened}
use Rattle.i9_watch.proofs.marks.Marks.harden_all.Goals as goal

pub loop-frame-preserved : goal.loop-frame-preserved
loop-frame-preserved c =
    let first : deque_iter_rest c.loop-frame.frame-iterator ≡ c.in-Some.frame.now ∷ deque_iter_rest c.next.new.self = search rules in
    let soft = c.harden.ensures.soft ∙ ap (λ (f : ℕ → Bool). λ (x : ℕ). is_marked Soft c.loop-frame.self x && not (in_bytes c.in-Some.frame.now FRAME_SIZE x && not (f x))) (c.loop-frame.invariant.others Lost (λ e. cc e)) in
    record {
      aligned = (subst AreAligned first c.loop-frame.invariant.aligned).1;
      left = frame_hardened _ _ _ _ _ _ soft first ∙ c.loop-frame.invariant.left;
      others = λ m h. c.harden.ensures.others m h ∙ c.loop-frame.invariant.others m h;
      keeps = λ p h. c.harden.ensures.keeps p (c.loop-frame.invariant.keeps p h);
      no_more = λ p h. c.loop-frame.invariant.no_more p (c.harden.ensures.no_more p h);
    }

pub returns-clause-soft : goal.returns-clause-soft
returns-clause-soft c =
    sym (no_frame_hardened _ (is_marked Lost c.args.self.now) _ (nil_from_length _ c.in-None.ensures.steps.0)) ∙ c.loop-frame.invariant.left
