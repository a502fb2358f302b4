use Rattle.std.proofs.Common.{arith}
use Rattle.i9_statement.specs.Known.{definitions}
use Rattle.i9_statement.proofs.known.Table.get.Goals as goal

pub returns : goal.returns
unfolding definitions
returns c = grind arith
