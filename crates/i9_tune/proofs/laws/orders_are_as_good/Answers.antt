use Rattle.i9_tune.proofs.Swaps.{order_good}
use Rattle.i9_tune.proofs.laws.orders_are_as_good.Goals as goal

pub returns : goal.returns
returns c = order_good
