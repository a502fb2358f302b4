use Rattle.i9_isa.proofs.Decoding.{decoded_encodes, encodes_decoded}
use Rattle.i9_isa.proofs.laws.decoding_is_one.Goals as goal

pub returns : goal.returns
returns c = λ w w1 i. (decoded_encodes w w1 i, encodes_decoded w w1 i)
