use Rattle.i9_storage.proofs.Current.{current_sets}
use Rattle.i9_storage.proofs.storage.Storage.renew.Goals as goal

pub invariant_of-self-clause-current : goal.invariant_of-self-clause-current
invariant_of-self-clause-current c =
    let old = c.args.self.now in
    current_sets old.words old.behind old.watch old.sets c.args.sets old.current c.requires.empty c.requires.new
