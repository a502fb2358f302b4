use Rattle.std.proofs.Common.{◌≡◌, ◌∷◌, sym, subst, ◌∙◌, rules}
use Rattle.std.proofs.lemmas.List.{nil_from_length}
use Rattle.std.specs.VecDeque.Iter.{deque_iter_rest}
use Rattle.i9_watch.specs.declared.page.Mark.TheVariants.{Soft}
use Rattle.i9_watch.specs.Live.{AreAligned}
use Rattle.i9_watch.proofs.Watching.{frame_cleared, no_frame_cleared, no_change, by_other}
use Rattle.i9_watch.proofs.marks.Marks.leave_all.Goals as goal

pub loop-frame-preserved : goal.loop-frame-preserved
loop-frame-preserved c =
    let first : deque_iter_rest c.loop-frame.frame-iterator ≡ c.in-Some.frame.now ∷ deque_iter_rest c.next.new.self = search rules in
    record {
      aligned = (subst AreAligned first c.loop-frame.invariant.aligned).1;
      soft = no_change _ (c.change.ensures.marks Soft) ∙ c.loop-frame.invariant.soft;
      left = λ m h. frame_cleared _ _ _ _ _ (by_other m h _ _ _ (c.change.ensures.marks m)) first ∙ c.loop-frame.invariant.left m h;
      keeps = λ p h. c.change.ensures.keeps p (c.loop-frame.invariant.keeps p h);
      no_more = λ p h. c.loop-frame.invariant.no_more p (c.change.ensures.no_more p h);
    }

pub returns-clause-others : goal.returns-clause-others
returns-clause-others c = λ m h.
    sym (no_frame_cleared _ _ (nil_from_length _ c.in-None.ensures.steps.0)) ∙ c.loop-frame.invariant.left m h
