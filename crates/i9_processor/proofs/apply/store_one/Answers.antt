use Rattle.std.proofs.Common.{ℕ, Option, [], sym, subst}
use Rattle.i9_storage.specs.Storage.{cache_of, memory_in, frames_in, Stores}
use Rattle.i9_processor.specs.Effect.{one_in}
use Rattle.i9_processor.proofs.Appending.{none_cache, none_memory, none_frames}
use Rattle.i9_processor.proofs.apply.store_one.Goals as goal

pub returns-in-None-clause-stores : goal.returns-in-None-clause-stores
returns-in-None-clause-stores c =
    let s = c.args.storage.now in
    let same : Stores s s [] [] = record { cache = none_cache (cache_of s); memory = none_memory (memory_in s); frames = none_frames (frames_in s) } in
    subst (λ (b : Option (ℕ × ℕ)). Stores s s (one_in b) []) (sym c.in-None.is) same
