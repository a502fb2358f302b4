use Rattle.i9_storage.proofs.Keeping.{kept_copy}
use Rattle.i9_storage.proofs.Current.{current_none}
use Rattle.i9_storage.proofs.storage.Storage.copy.Goals as goal

pub invariant_of-result : goal.invariant_of-result
invariant_of-result c =
    let old = c.args.self.now in
    let behind = c.in_ok-behind in
    let watch = c.in_ok-watch in
    let sets = c.in_ok-sets in
    record { kept = kept_copy old.behind behind.behind old.watch watch.watch old.sets sets.sets old.kept behind.ensures.keeps watch.ensures.frames sets.ensures; current = current_none c.in_ok-words.words behind.behind watch.watch sets.sets c.in_ok-words.ensures }
