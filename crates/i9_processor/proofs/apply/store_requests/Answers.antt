use Rattle.std.proofs.Common.{ap, ◌∙◌, arith}
use Rattle.i9_model.specs.Memory.{Memory, with_writes}
use Rattle.i9_model.specs.State.{Frames}
use Rattle.i9_model.specs.Frames.{wrote}
use Rattle.i9_model.specs.Hazards.{writes_hazard}
use Rattle.i9_model.specs.HeldFrames.{cache_stored}
use Rattle.i9_storage.specs.Storage.{cache_of, memory_in, frames_in}
use Rattle.i9_processor.specs.Effect.{one_in}
use Rattle.i9_processor.proofs.Appending.{cache_append, memory_append, frames_append, first_free, later_free}
use Rattle.i9_processor.proofs.apply.store_requests.Goals as goal

pub store_one-requires-clause-space : goal.store_one-requires-clause-space
store_one-requires-clause-space c = grind arith

pub store_one-requires-clause-free : goal.store_one-requires-clause-free
store_one-requires-clause-free c = grind (arith, first_free)

pub store_one-requires-2-clause-space : goal.store_one-requires-2-clause-space
store_one-requires-2-clause-space c = grind arith

pub store_one-requires-2-clause-free : goal.store_one-requires-2-clause-free
store_one-requires-2-clause-free c =
    let r = c.args.requests.now in
    ap (λ (f : Frames). writes_hazard f (one_in (r.second))) c.store_one.ensures.stores.frames
    ∙ later_free (frames_in c.args.storage.now) (one_in (r.first)) (one_in (r.second)) (one_in (r.first)) c.requires.free

pub returns-clause-stores : goal.returns-clause-stores
returns-clause-stores c =
    let s = c.args.storage.now in
    let first = one_in (c.args.requests.now.first) in
    let second = one_in (c.args.requests.now.second) in
    let one = c.store_one.ensures.stores in
    let two = c.store_one-2.ensures.stores in
    record {
      cache = two.cache ∙ ap (cache_stored second) one.cache ∙ cache_append (cache_of s) first second;
      memory = two.memory ∙ ap (λ (m : Memory). with_writes m second) one.memory ∙ memory_append (memory_in s) first second;
      frames = two.frames ∙ ap (λ (f : Frames). wrote f second) one.frames ∙ frames_append (frames_in s) first second;
    }
