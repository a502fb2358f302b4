use Rattle.std.proofs.Common.{sym, ap, ◌∙◌}
use Rattle.i9_model.specs.Frames.{wrote_run}
use Rattle.i9_model.proofs.Runs.{wrote-upwards}
use Rattle.i9_watch.specs.Watch.{frames_of}
use Rattle.i9_dma.proofs.moving.store.Goals as goal

pub returns-clause-frames : goal.returns-clause-frames
returns-clause-frames c = c.wrote.ensures.frames ∙ ap (wrote_run (frames_of c.args.w.now) c.args.a) c.len.ensures.value ∙ sym (wrote-upwards (frames_of c.args.w.now) c.args.a c.args.bytes.now.items)
