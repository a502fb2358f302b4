use Rattle.std.proofs.Common.{◌≡◌, ℕ, ◌+◌, ◌-◌, ◌<◌, ◌≤◌}
use Rattle.i9_model.specs.Writes.{wrapped}
use Rattle.i9_memory.specs.Pages.{byte_of, HasByte, KeepsPages, AddsOnly}
use Rattle.i9_memory.proofs.pages.Pages.reserve_across.Given as goal

abbrev pub invariant-loop-done : goal.invariant-loop-done
invariant-loop-done l = record {
  at : l.at ≡ wrapped (l.a + l.done);
  done : l.done ≤ l.n;
  same : byte_of l.self ≡ byte_of l.fn.self;
  room : (k : ℕ) → k < l.done → HasByte l.self (wrapped (l.a + k));
  keeps : KeepsPages l.fn.self l.self;
  only : AddsOnly l.fn.self l.self l.a l.done;
}

abbrev pub decreases-loop-done : goal.decreases-loop-done
decreases-loop-done l = l.n - l.done
