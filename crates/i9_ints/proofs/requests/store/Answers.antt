use Rattle.std.proofs.Common.{arith}
use Rattle.i9_watch.specs.Watch.{frames_of}
use Rattle.i9_ints.proofs.Storing.{store_frames}
use Rattle.i9_ints.proofs.requests.store.Goals as goal

pub returns-clause-frames : goal.returns-clause-frames
returns-clause-frames c = store_frames (frames_of c.args.w.now) (frames_of c.wrote.new.self) c.args.a c.args.byte (omega arith) c.wrote.ensures.frames
