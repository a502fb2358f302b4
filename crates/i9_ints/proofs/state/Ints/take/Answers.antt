use Rattle.std.proofs.Common.{refl, sym, ap, ◌∙◌}
use Rattle.i9_model.proofs.Stored.{with_none}
use Rattle.i9_model.specs.Memory.{with_writes}
use Rattle.i9_model.specs.Frames.{wrote}
use Rattle.i9_memory.specs.Memory.{memory_of}
use Rattle.i9_watch.specs.Watch.{frames_of}
use Rattle.i9_ints.proofs.Storing.{no_frame_writes, nothing_cleared}
use Rattle.i9_ints.proofs.state.Ints.take.Goals as goal

-- nothing is written
pub returns-in-Nmi : goal.returns-in-Nmi
returns-in-Nmi c =
    let m = memory_of c.args.m.now in
    let f = frames_of c.args.w.now in
    let none = nothing_cleared c.args.c.now.cause m c.args.table c.args.c.now.vector c.in-Nmi.is in
    record {
      interrupts = c.clear.ensures;
      memory = sym (with_none m) ∙ ap (with_writes m) (sym none);
      frames = no_frame_writes f ∙ ap (wrote f) (sym none);
      room = λ a h. h;
      spare = refl;
      marks = λ a h. h;
    }
