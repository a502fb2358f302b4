use Rattle.std.proofs.Common.{refl}
use Rattle.i9_model.specs.Image.{pairs_of}
use Rattle.i9_hex.proofs.reader.Reader.new.Goals as goal

pub invariant_of-result-clause-counted : goal.invariant_of-result-clause-counted
unfolding pairs_of
invariant_of-result-clause-counted c = rw c.new.ensures refl
