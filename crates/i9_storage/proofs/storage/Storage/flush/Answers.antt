use Rattle.i9_storage.specs.Kept.{cache_in}
use Rattle.i9_storage.proofs.Keeping.{flush_laid}
use Rattle.i9_storage.proofs.Current.{current_flush}
use Rattle.i9_storage.proofs.storage.Storage.flush.Goals as goal

pub returns-clause-memory : goal.returns-clause-memory
returns-clause-memory c = flush_laid (cache_in c.args.self.now.behind c.args.self.now.sets) (cache_in c.write_back.new.behind c.write_back.new.sets) c.write_back.ensures.cache

pub invariant_of-self-clause-current : goal.invariant_of-self-clause-current
invariant_of-self-clause-current c =
    let old = c.args.self.now in
    let laid = flush_laid (cache_in old.behind old.sets) (cache_in c.write_back.new.behind c.write_back.new.sets) c.write_back.ensures.cache in
    current_flush old.words old.words old.behind c.write_back.new.behind old.watch c.flushed.new.self old.sets c.write_back.new.sets old.current (λ a u keeps. keeps) c.flushed.ensures.frames laid
