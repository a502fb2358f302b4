use Rattle.std.proofs.Common.{arith}
use Rattle.i9_hex.proofs.RoundTrip.{is_image_written}
use Rattle.i9_hex.proofs.writing.write.Goals as goal

pub returns-in-Ok-clause-again : goal.returns-in-Ok-clause-again
returns-in-Ok-clause-again c = grind (arith, is_image_written)
