use Rattle.std.proofs.Common.{◌≡◌, true, ◌-◌, ◌%◌, ◌≤◌}
use Rattle.i9_watch.specs.declared.page.Mark.{Mark}
use Rattle.i9_watch.specs.Page.{is_blockwise}
use Rattle.i9_watch.specs.Marks.{is_marked, changed_run, KeepsPages}
use Rattle.i9_watch.proofs.marks.Marks.change.Given as goal

abbrev pub invariant-loop-done : goal.invariant-loop-done
invariant-loop-done l = record {
  within : l.done ≤ l.n;
  blocks : is_blockwise l.change ≡ true → l.done % 16 ≡ 0;
  marks : (m : Mark) → is_marked m l.self ≡ changed_run l.change m l.a l.done (is_marked m l.fn.self);
  keeps : KeepsPages l.fn.self l.self;
  no_more : KeepsPages l.self l.fn.self;
}

abbrev pub decreases-loop-done : goal.decreases-loop-done
decreases-loop-done l = l.n - l.done
