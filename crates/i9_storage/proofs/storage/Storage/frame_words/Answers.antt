use Rattle.std.proofs.Common.{arith}
use Rattle.i9_storage.proofs.Youngest.{youngest_is}
use Rattle.i9_storage.proofs.storage.Storage.frame_words.Goals as goal

pub returns-then-f-a : goal.returns-then-f-a
returns-then-f-a c = grind (arith, youngest_is)
