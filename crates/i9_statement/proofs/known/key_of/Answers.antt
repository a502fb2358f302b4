use Rattle.std.proofs.Common.{arith}
use Rattle.i9_statement.specs.Known.{word_of, key_of}
use Rattle.i9_statement.proofs.known.key_of.Goals as goal

pub returns : goal.returns
unfolding word_of key_of
returns c = grind arith
