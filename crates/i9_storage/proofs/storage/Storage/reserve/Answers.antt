use Rattle.std.proofs.Common.{refl, arith}
use Rattle.i9_storage.proofs.Current.{current_settled}
use Rattle.i9_storage.proofs.storage.Storage.reserve.Goals as goal

pub returns-clause-keeps : goal.returns-clause-keeps
returns-clause-keeps c = grind arith

pub invariant_of-self-clause-current : goal.invariant_of-self-clause-current
invariant_of-self-clause-current c =
    let old = c.args.self.now in
    current_settled old.words old.behind c.reserve.new.self old.watch old.watch old.sets old.current refl c.reserve.ensures.settled
