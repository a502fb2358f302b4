use Rattle.std.proofs.Common.{◌≡◌, ◌≢◌, ℕ, Bool}
use Rattle.std.specs.Prelude.{◌&&◌, not}
use Rattle.std.specs.VecDeque.Iter.{deque_iter_rest}
use Rattle.i9_model.specs.Frames.{in_frames}
use Rattle.i9_watch.specs.declared.page.Mark.{Mark}
use Rattle.i9_watch.specs.declared.page.Mark.TheVariants.{Soft, Lost}
use Rattle.i9_watch.specs.Marks.{is_marked, KeepsPages}
use Rattle.i9_watch.specs.Live.{AreAligned}
use Rattle.i9_watch.proofs.marks.Marks.harden_all.Given as goal

abbrev pub invariant-loop-frame : goal.invariant-loop-frame
invariant-loop-frame l = record {
  aligned : AreAligned (deque_iter_rest l.frame-iterator);
  left : ◌≡◌ {A = ℕ → Bool} (λ x. is_marked Soft l.self x && not (in_frames (deque_iter_rest l.frame-iterator) x && not (is_marked Lost l.fn.self x))) (λ x. is_marked Soft l.fn.self x && not (in_frames l.frames.items x && not (is_marked Lost l.fn.self x)));
  others : (m : Mark) → m ≢ Soft → is_marked m l.self ≡ is_marked m l.fn.self;
  keeps : KeepsPages l.fn.self l.self;
  no_more : KeepsPages l.self l.fn.self;
}
