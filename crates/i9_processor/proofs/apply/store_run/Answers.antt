use Rattle.std.proofs.Common.{sym, ◌∙◌}
use Rattle.i9_storage.specs.Storage.{cache_of, memory_in, frames_in}
use Rattle.i9_processor.proofs.Applying.{no_bytes_cache, no_bytes_memory, no_bytes_frames}
use Rattle.i9_processor.proofs.apply.store_run.Goals as goal

pub returns-else-not-has_no_run-clause-stores : goal.returns-else-not-has_no_run-clause-stores
returns-else-not-has_no_run-clause-stores c =
    let e = c.args.e.now in
    let s = c.args.storage.now in
    let none = sym c.has_no_run.ensures ∙ c.if-not-has_no_run.false in
    record {
      cache = no_bytes_cache (cache_of s) e.address e.bytes.items none;
      memory = no_bytes_memory (memory_in s) e.address e.bytes.items none;
      frames = no_bytes_frames (frames_in s) e.address e.stale e.bytes.items none;
    }
