use Rattle.std.proofs.Common.{◌∙◌}
use Rattle.i9_storage.specs.Storage.{cache_of}
use Rattle.i9_storage.proofs.HeldBytes.{laid_word_bytes}
use Rattle.i9_storage.proofs.storage.Storage.word_bytes.Goals as goal

pub returns : goal.returns
returns c = c.word_bytes.ensures ∙ laid_word_bytes (cache_of c.args.self.now) c.args.a c.args.v
