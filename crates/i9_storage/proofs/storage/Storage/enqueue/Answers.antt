use Rattle.std.proofs.Common.{rules, ◌≡◌, ℕ, List, length, ap, subst, ◌∙◌}
use Rattle.i9_model.specs.State.{Frames}
use Rattle.i9_model.specs.Frames.{wrote_run, wrote, softened}
use Rattle.i9_model.specs.Stale.{picked}
use Rattle.i9_model.specs.Writes.{wrapped, upwards}
use Rattle.i9_queue.specs.declared.queue.Request.{Request}
use Rattle.i9_watch.specs.Bits.{bits_of}
use Rattle.i9_watch.specs.Watch.{frames_of}
use Rattle.i9_storage.specs.Places.{IsBeside}
use Rattle.i9_storage.proofs.Keeping.{kept_store, store_laid, run_wrote}
use Rattle.i9_storage.proofs.Current.{current_store}
use Rattle.i9_storage.proofs.storage.Storage.enqueue.Goals as goal

-- the marks that the bytes of a request get
abbrev marked_in : Request → ℕ → List ℕ
marked_in r stale = picked wrapped r.address (bits_of stale (length r.bytes.items))

request_wrote : (f g : Frames) (r : Request) (stale n : ℕ) → n ≡ length r.bytes.items → g ≡ softened (wrote_run f r.address n) (picked wrapped r.address (bits_of stale n))
    → g ≡ softened (wrote f (upwards r.address r.bytes.items)) (marked_in r stale)
request_wrote f g r stale n e is =
    run_wrote f g r.address r.bytes.items (marked_in r stale) (is ∙ ap (λ (k : ℕ). softened (wrote_run f r.address k) (picked wrapped r.address (bits_of stale k))) e)

beside_request : {A : Type 0} (a b m n : ℕ) → m ≡ n → A × IsBeside a m b → A × IsBeside a n b
beside_request {A} a b m n e h = subst (λ (k : ℕ). A × IsBeside a k b) e h

pub invariant_of-self : goal.invariant_of-self
invariant_of-self c =
    let old = c.args.self.now in
    let r = c.args.request in
    let wrote = request_wrote (frames_of old.watch) (frames_of c.mark_stored.new.watch) r c.args.stale c.len-n.result c.len-n.ensures.value c.mark_stored.ensures.frames in
    record { kept = kept_store old.behind c.enqueue.new.self old.watch c.mark_stored.new.watch old.sets (upwards r.address r.bytes.items) (marked_in r c.args.stale) old.kept c.enqueue.ensures.keeps wrote c.requires.free; current = current_store old.words c.forget.new.self old.behind c.enqueue.new.self old.watch c.mark_stored.new.watch old.sets old.sets old.current r.address r.bytes.items c.args.stale (λ b u keeps. beside_request r.address b c.len-n.result (length r.bytes.items) c.len-n.ensures.value (c.forget.ensures b u keeps)) wrote (store_laid old.behind c.enqueue.new.self old.watch old.sets (upwards r.address r.bytes.items) old.kept c.requires.free c.enqueue.ensures.settled) }

pub returns-clause-stores : goal.returns-clause-stores
returns-clause-stores c =
    let old = c.args.self.now in
    let r = c.args.request in
    record {
      cache = search rules;
      memory = store_laid old.behind c.enqueue.new.self old.watch old.sets (upwards r.address r.bytes.items) old.kept c.requires.free c.enqueue.ensures.settled;
      frames = request_wrote (frames_of old.watch) (frames_of c.mark_stored.new.watch) r c.args.stale c.len-n.result c.len-n.ensures.value c.mark_stored.ensures.frames;
    }
