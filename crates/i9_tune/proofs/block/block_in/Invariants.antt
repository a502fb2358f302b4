use Rattle.std.proofs.Common.{◌≡◌, length}
use Rattle.i9_model.specs.Writes.{last_put}
use Rattle.i9_model.specs.Image.{pairs_of}
use Rattle.i9_tune.specs.Greedy.{AreTunable}
use Rattle.i9_tune.proofs.InBlock.{IsRead}
use Rattle.i9_tune.proofs.block.block_in.Given as goal

abbrev pub invariant-more : goal.invariant-more
invariant-more l = record {
  read : IsRead (last_put (pairs_of l.image)) l.count l.address l.counter l.block.items l.at;
  tunable : AreTunable l.block.items;
  long : length l.block.items ≡ l.counter;
}
