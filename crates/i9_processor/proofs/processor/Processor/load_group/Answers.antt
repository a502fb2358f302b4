use Rattle.std.proofs.Common.{sym}
use Rattle.i9_storage.specs.Storage as stores
use Rattle.i9_storage.proofs.Configured.{configured_none}
use Rattle.i9_processor.specs.State.{state_of, cache_of}
use Rattle.i9_processor.proofs.processor.Processor.load_group.Goals as goal

pub returns-in-0-clause-cache : goal.returns-in-0-clause-cache
unfolding state_of cache_of
returns-in-0-clause-cache c = sym (configured_none (stores.cache_of c.args.self.now.storage))

pub returns-in-1-clause-cache : goal.returns-in-1-clause-cache
unfolding state_of cache_of
returns-in-1-clause-cache c = sym (configured_none (stores.cache_of c.args.self.now.storage))

pub returns-in-6-clause-cache : goal.returns-in-6-clause-cache
unfolding state_of cache_of
returns-in-6-clause-cache c = sym (configured_none (stores.cache_of c.args.self.now.storage))
