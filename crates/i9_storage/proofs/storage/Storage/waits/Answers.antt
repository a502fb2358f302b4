use Rattle.std.proofs.Common.{◌∙◌}
use Rattle.i9_storage.specs.Storage.{cache_of}
use Rattle.i9_storage.proofs.HeldBytes.{laid_waits}
use Rattle.i9_storage.proofs.storage.Storage.waits.Goals as goal

pub returns : goal.returns
returns c = c.waits.ensures ∙ laid_waits (cache_of c.args.self.now) c.args.region c.args.write
