use Rattle.std.proofs.Common.{◌≡◌, ◌≢◌}
use Rattle.std.specs.Prelude.{◌&&◌, not}
use Rattle.i9_model.specs.Frames.{in_bytes}
use Rattle.i9_watch.specs.declared.page.Mark.{Mark}
use Rattle.i9_watch.specs.declared.page.Mark.TheVariants.{Soft, Lost}
use Rattle.i9_watch.specs.Marks.{is_marked, KeepsPages}
use Rattle.i9_watch.proofs.marks.Marks.harden.Given as goal

abbrev pub invariant-loop-k : goal.invariant-loop-k
invariant-loop-k l = record {
  soft : is_marked Soft l.self ≡ (λ x. is_marked Soft l.fn.self x && not (in_bytes l.frame l.k x && not (is_marked Lost l.fn.self x)));
  others : (m : Mark) → m ≢ Soft → is_marked m l.self ≡ is_marked m l.fn.self;
  keeps : KeepsPages l.fn.self l.self;
  no_more : KeepsPages l.self l.fn.self;
}
