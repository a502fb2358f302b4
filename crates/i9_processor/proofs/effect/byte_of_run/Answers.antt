use Rattle.std.proofs.Common.{◌-◌, arith}
use Rattle.i9_model.proofs.Upwards.{last_put-from}
use Rattle.i9_model.proofs.Copies.{option_copied-get}
use Rattle.i9_processor.proofs.effect.byte_of_run.Goals as goal

pub returns : goal.returns
returns c = grind (arith, option_copied-get, last_put-from)
