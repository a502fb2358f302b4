use Rattle.std.proofs.Common.{refl}
use Rattle.i9_storage.proofs.Keeping.{kept_reserve}
use Rattle.i9_storage.proofs.Current.{current_settled}
use Rattle.i9_storage.proofs.storage.Storage.reserve_soft.Goals as goal

pub invariant_of-self : goal.invariant_of-self
invariant_of-self c =
    let old = c.args.self.now in
    record { kept = kept_reserve old.behind old.behind old.watch c.reserve_bytes.new.self old.sets old.kept (λ a h. h) c.reserve_bytes.ensures.frames; current = current_settled old.words old.behind old.behind old.watch c.reserve_bytes.new.self old.sets old.current c.reserve_bytes.ensures.frames refl }
