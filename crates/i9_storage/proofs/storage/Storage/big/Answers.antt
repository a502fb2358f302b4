use Rattle.std.proofs.Common.{◌∙◌}
use Rattle.i9_storage.specs.Storage.{cache_of}
use Rattle.i9_storage.proofs.HeldBytes.{laid_big}
use Rattle.i9_storage.proofs.storage.Storage.big.Goals as goal

pub returns : goal.returns
returns c = c.big.ensures ∙ laid_big (cache_of c.args.self.now) c.args.region
