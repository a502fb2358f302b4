use Rattle.std.proofs.Common.{arith}
use Rattle.i9_model.proofs.LastPuts.{last_append}
use Rattle.i9_processor.proofs.effect.Effect.byte_at.Goals as goal

pub returns-in-Some : goal.returns-in-Some
returns-in-Some c = grind (arith, last_append)

pub returns-in-None : goal.returns-in-None
returns-in-None c = grind (arith, last_append)
