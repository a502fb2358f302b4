use Rattle.std.proofs.Common.{◌+◌, rules}
use Rattle.i9_model.specs.Writes.{wrapped}
use Rattle.i9_watch.specs.Watch.{frames_of}
use Rattle.i9_watch.proofs.watch.Watch.stale.Goals as goal

pub returns : goal.returns
unfolding frames_of
returns c = c.bits_where.ensures (λ j. (frames_of c.args.self.now).soft (wrapped (c.args.a + j))) (λ x r h. search rules)
