-- Every run has no instructions, and more.
use Rattle.std.proofs.Common.{[], arith}
use Rattle.i9_model.specs.Run.{Given}
use Rattle.i9_back.specs.Earlier.{HasInstructions}

pub has_none : (g : Given) → HasInstructions g 0
has_none g = record { records = []; past = tt; reaches = omega arith }
