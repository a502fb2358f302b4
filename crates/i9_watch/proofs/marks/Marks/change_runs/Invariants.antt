use Rattle.std.proofs.Common.{◌≡◌}
use Rattle.i9_watch.specs.declared.page.Mark.{Mark}
use Rattle.i9_watch.specs.Bits.{bits_of, in_runs}
use Rattle.i9_watch.specs.Marks.{is_marked, changed_where, KeepsPages}
use Rattle.i9_watch.proofs.marks.Marks.change_runs.Given as goal

abbrev pub invariant-loop-k : goal.invariant-loop-k
invariant-loop-k l = record {
  marks : (m : Mark) → is_marked m l.self ≡ (λ x. changed_where l.change m (in_runs l.a l.width (bits_of l.bits l.k) x) (is_marked m l.fn.self x));
  keeps : KeepsPages l.fn.self l.self;
  no_more : KeepsPages l.self l.fn.self;
}
