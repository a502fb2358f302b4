use Rattle.std.proofs.Common.{ap, ◌∙◌, arith}
use Rattle.i9_model.specs.Memory.{Memory, with_writes}
use Rattle.i9_model.specs.State.{Frames}
use Rattle.i9_model.specs.Frames.{wrote}
use Rattle.i9_model.specs.Hazards.{writes_hazard}
use Rattle.i9_model.specs.HeldFrames.{cache_stored}
use Rattle.i9_storage.specs.Storage.{cache_of, memory_in, frames_in}
use Rattle.i9_processor.specs.Effect.{requests_in, run_in}
use Rattle.i9_processor.proofs.Appending.{cache_append, memory_append, marked_append, first_free, later_free, longer_first, none_first, none_later}
use Rattle.i9_processor.proofs.Applying.{run_long, run_none}
use Rattle.i9_processor.proofs.apply.store_bytes.Goals as goal

pub store_run-requires-clause-drained : goal.store_run-requires-clause-drained
store_run-requires-clause-drained c some = grind (arith, longer_first, run_long)

pub store_run-requires-clause-free : goal.store_run-requires-clause-free
store_run-requires-clause-free c = grind (arith, first_free)

pub store_requests-requires-clause-space : goal.store_requests-requires-clause-space
store_requests-requires-clause-space c = grind arith

pub store_requests-requires-clause-free : goal.store_requests-requires-clause-free
unfolding writes_hazard
store_requests-requires-clause-free c = grind (arith, later_free)

pub returns-clause-stores : goal.returns-clause-stores
returns-clause-stores c =
    let s = c.args.storage.now in
    let e = c.args.e.now in
    let asked = requests_in e.requests in
    let run = c.store_run.ensures.stores in
    let rest = c.store_requests.ensures.stores in
    record {
      cache = rest.cache ∙ ap (cache_stored asked) run.cache ∙ cache_append (cache_of s) (run_in e) asked;
      memory = rest.memory ∙ ap (λ (m : Memory). with_writes m asked) run.memory ∙ memory_append (memory_in s) (run_in e) asked;
      frames = rest.frames ∙ ap (λ (f : Frames). wrote f asked) run.frames ∙ marked_append (frames_in s) e;
    }

pub returns-clause-acted : goal.returns-clause-acted
returns-clause-acted c none = grind (arith, none_later, run_none, none_first)
