use Rattle.std.proofs.Common.{arith, length-append}
use Rattle.i9_model.proofs.Reading.{length-pairs_at}
use Rattle.i9_hex.proofs.reader.Reader.with_bytes.Goals as goal

pub invariant_of-result-clause-counted : goal.invariant_of-result-clause-counted
invariant_of-result-clause-counted c = grind (arith, length-append, length-pairs_at)
