use Rattle.std.proofs.Common.{rules, ◌≡◌, None}
use Rattle.i9_model.specs.Hazards.{read_hazard}
use Rattle.i9_watch.specs.Watch.{frames_of}
use Rattle.i9_storage.proofs.Current.{current_put}
use Rattle.i9_storage.proofs.storage.Storage.learn_word.Goals as goal

pub invariant_of-self-clause-current : goal.invariant_of-self-clause-current
invariant_of-self-clause-current c =
    let old = c.args.self.now in
    let hard : read_hazard (frames_of old.watch) c.args.a 4 ≡ None = search rules in
    current_put old.words c.put.new.self old.behind old.behind old.watch old.watch old.sets old.sets old.current c.args.a c.hard_word-word.result c.put.ensures hard c.hard_word-word.ensures
