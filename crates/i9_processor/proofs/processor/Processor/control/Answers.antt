use Rattle.std.proofs.Common.{sym}
use Rattle.i9_storage.specs.Storage as stores
use Rattle.i9_storage.proofs.Configured.{configured_none}
use Rattle.i9_processor.specs.State.{state_of, cache_of}
use Rattle.i9_processor.proofs.processor.Processor.control.Goals as goal

pub returns-in-Keeps-clause-cache : goal.returns-in-Keeps-clause-cache
unfolding state_of cache_of
returns-in-Keeps-clause-cache c = sym (configured_none (stores.cache_of c.args.self.now.storage))
