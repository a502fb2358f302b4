use Rattle.std.proofs.Common.{◌≡◌, ℕ, ◌+◌, ◌-◌, ◌<◌, ◌≤◌, false}
use Rattle.i9_model.specs.Writes.{wrapped}
use Rattle.i9_watch.specs.Marks.{is_marked}
use Rattle.i9_watch.proofs.marks.Marks.has_any_across.Given as goal

abbrev pub invariant-loop-done : goal.invariant-loop-done
invariant-loop-done l = record {
  within : l.done ≤ l.n;
  none : (k : ℕ) → k < l.done → is_marked l.mark l.self (wrapped (l.a + k)) ≡ false;
}

abbrev pub decreases-loop-done : goal.decreases-loop-done
decreases-loop-done l = l.n - l.done
