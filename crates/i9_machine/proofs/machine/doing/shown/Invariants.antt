use Rattle.std.proofs.Common.{◌≡◌, length}
use Rattle.i9_model.specs.PrintedText.{overlays}
use Rattle.i9_processor.specs.State.{state_of}
use Rattle.i9_machine.proofs.machine.doing.shown.Given as goal

abbrev pub invariant-loop-k : goal.invariant-loop-k
invariant-loop-k l = record {
  bytes : l.list.items ≡ overlays (state_of l.p) l.a l.k;
  count : length l.list.items ≡ l.k;
}
