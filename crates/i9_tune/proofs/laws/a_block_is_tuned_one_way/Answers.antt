use Rattle.std.proofs.Common.{[]}
use Rattle.i9_tune.proofs.OneOrder.{some_tuned, one_greedy, one_tuned}
use Rattle.i9_tune.proofs.Orders.{permuted}
use Rattle.i9_tune.proofs.Tuned.{tuned_order, tuned_no_more}
use Rattle.i9_tune.proofs.laws.a_block_is_tuned_one_way.Goals as goal

pub returns : goal.returns
returns c = record {
  some = some_tuned;
  greedy = λ block. one_greedy [] block;
  tuned = one_tuned;
  order = tuned_order;
  permutation = permuted;
  no_more = tuned_no_more;
}
