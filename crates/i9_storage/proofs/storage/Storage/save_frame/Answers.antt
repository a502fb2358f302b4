use Rattle.std.proofs.Common.{rules, ◌≡◌, length}
use Rattle.i9_model.specs.declared.layout.TheConstants.{LOCALS}
use Rattle.i9_storage.specs.Kept.{cache_in}
use Rattle.i9_storage.proofs.Keeping.{kept_save, save_laid}
use Rattle.i9_storage.proofs.Current.{current_save}
use Rattle.i9_storage.proofs.storage.Storage.save_frame.Goals as goal

pub invariant_of-self : goal.invariant_of-self
invariant_of-self c =
    let old = c.args.self.now in
    let whole : length c.args.f.words ≡ LOCALS = search rules in
    record {
      kept = kept_save old.behind c.hold.new.behind old.watch c.called.new.self old.sets c.hold.new.sets c.args.f c.args.marks old.kept c.hold.ensures.keeps.keeps c.called.ensures.frames c.requires.known c.requires.free
          c.hold.ensures.cache whole c.requires.space.bytes;
      current = current_save old.words c.forget.new.self old.behind c.hold.new.behind old.watch c.called.new.self old.sets c.hold.new.sets old.current c.args.f _ c.forget.ensures c.called.ensures.frames whole (save_laid old.sets.size c.args.f (cache_in old.behind old.sets) (cache_in c.hold.new.behind c.hold.new.sets) c.hold.ensures.cache);
    }

pub returns-clause-memory : goal.returns-clause-memory
returns-clause-memory c =
    let old = c.args.self.now in
    save_laid old.sets.size c.args.f (cache_in old.behind old.sets) (cache_in c.hold.new.behind c.hold.new.sets) c.hold.ensures.cache
