use Rattle.std.proofs.Common.{arith}
use Rattle.i9_storage.proofs.Saves.{none_picked}
use Rattle.i9_processor.proofs.effect.Effect.setting.Goals as goal

-- no value gets a mark, and no byte is stored
pub returns-clause-effect : goal.returns-clause-effect
returns-clause-effect c = grind (arith, none_picked)
