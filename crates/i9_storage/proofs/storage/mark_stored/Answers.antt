use Rattle.i9_watch.specs.Watch.{frames_of}
use Rattle.i9_storage.proofs.Saves.{none_stored, none_stale}
use Rattle.i9_storage.proofs.storage.mark_stored.Goals as goal

pub returns-then-n-eq0-clause-frames : goal.returns-then-n-eq0-clause-frames
returns-then-n-eq0-clause-frames c = none_stored (frames_of c.args.watch.now) c.args.a c.args.n c.args.stale c.if-n-eq0.true

pub returns-then-stale-eq0-clause-frames : goal.returns-then-stale-eq0-clause-frames
returns-then-stale-eq0-clause-frames c =
    none_stale (frames_of c.args.watch.now) (frames_of c.wrote.new.self) c.args.a c.args.n c.args.stale c.if-stale-eq0.true c.wrote.ensures.frames
