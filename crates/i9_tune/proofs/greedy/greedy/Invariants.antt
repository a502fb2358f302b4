use Rattle.std.proofs.Common.{◌≡◌, ◌+◌, ◌*◌, length, reverse}
use Rattle.i9_model.specs.Turns.{StandsFor, IsAllDone}
use Rattle.i9_tune.specs.Greedy.{turns_of, AreTunable}
use Rattle.i9_tune.proofs.Extended.{Continues}
use Rattle.i9_tune.proofs.greedy.greedy.Given as goal

abbrev pub invariant-more : goal.invariant-more
invariant-more l = record {
  stands : StandsFor l.board (turns_of (reverse l.order.items));
  early : IsAllDone l.board (1 + 248 * l.counter);
  left : length l.left.items + l.counter ≡ length l.block;
  tunable : AreTunable l.left.items;
  greedy : Continues l.block l.order.items l.left.items;
}
