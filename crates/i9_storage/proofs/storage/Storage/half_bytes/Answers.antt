use Rattle.std.proofs.Common.{◌∙◌}
use Rattle.i9_storage.specs.Storage.{cache_of}
use Rattle.i9_storage.proofs.HeldBytes.{laid_half_bytes}
use Rattle.i9_storage.proofs.storage.Storage.half_bytes.Goals as goal

pub returns : goal.returns
returns c = c.half_bytes.ensures ∙ laid_half_bytes (cache_of c.args.self.now) c.args.a c.args.v
