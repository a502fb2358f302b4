use Rattle.std.proofs.Common.{refl}
use Rattle.i9_storage.proofs.Current.{current_settled}
use Rattle.i9_storage.proofs.storage.Storage.land.Goals as goal

pub invariant_of-self-clause-current : goal.invariant_of-self-clause-current
invariant_of-self-clause-current c =
    let old = c.args.self.now in
    current_settled old.words old.behind c.land.new.self old.watch old.watch old.sets old.current refl c.land.ensures.settled
