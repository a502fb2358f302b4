use Rattle.std.proofs.Common.{rules, length}
use Rattle.i9_model.specs.Writes.{wrapped, upwards}
use Rattle.i9_model.specs.Stale.{picked}
use Rattle.i9_watch.specs.Bits.{bits_of}
use Rattle.i9_watch.specs.Watch.{frames_of}
use Rattle.i9_storage.proofs.Keeping.{kept_store, store_laid, run_wrote}
use Rattle.i9_storage.proofs.Current.{current_store}
use Rattle.i9_storage.proofs.storage.Storage.store.Goals as goal

pub invariant_of-self : goal.invariant_of-self
invariant_of-self c =
    let old = c.args.self.now in
    let a = c.args.a in
    let bytes = c.args.bytes.now in
    let wrote = run_wrote (frames_of old.watch) (frames_of c.mark_stored.new.watch) a bytes (picked wrapped a (bits_of c.args.stale (length bytes))) c.mark_stored.ensures.frames in
    record { kept = kept_store old.behind c.store.new.self old.watch c.mark_stored.new.watch old.sets (upwards a bytes) (picked wrapped a (bits_of c.args.stale (length bytes))) old.kept c.store.ensures.keeps wrote c.requires.free; current = current_store old.words c.forget.new.self old.behind c.store.new.self old.watch c.mark_stored.new.watch old.sets old.sets old.current a bytes c.args.stale c.forget.ensures wrote (store_laid old.behind c.store.new.self old.watch old.sets (upwards a bytes) old.kept c.requires.free c.store.ensures.settled) }

pub returns-clause-stores : goal.returns-clause-stores
returns-clause-stores c =
    let old = c.args.self.now in
    let stale = picked wrapped c.args.a (bits_of c.args.stale (length c.args.bytes.now)) in
    record {
      cache = search rules;
      memory = store_laid old.behind c.store.new.self old.watch old.sets (upwards c.args.a c.args.bytes.now) old.kept c.requires.free c.store.ensures.settled;
      frames = run_wrote (frames_of old.watch) (frames_of c.mark_stored.new.watch) c.args.a c.args.bytes.now stale c.mark_stored.ensures.frames;
    }
