use Rattle.std.proofs.Common.{◌≡◌, ℕ, ◌+◌, ◌<◌, length}
use Rattle.i9_model.specs.Writes.{wrapped, upwards}
use Rattle.i9_model.specs.Memory.{stored}
use Rattle.i9_memory.specs.Pages.{byte_of, HasByte, KeepsPages}
use Rattle.i9_memory.proofs.pages.Pages.store_across.Given as goal

abbrev pub invariant-loop-rest : goal.invariant-loop-rest
invariant-loop-rest l = record {
  rest : stored (byte_of l.self) (upwards l.at l.rest) ≡ stored (byte_of l.fn.self) (upwards l.fn.a l.fn.bytes);
  room : (k : ℕ) → k < length l.rest → HasByte l.self (wrapped (l.at + k));
  keeps : KeepsPages l.fn.self l.self;
  no_more : KeepsPages l.self l.fn.self;
}

abbrev pub decreases-loop-rest : goal.decreases-loop-rest
decreases-loop-rest l = length l.rest
