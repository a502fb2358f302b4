-- After: memory and frames once an entry saved a frame and wrote its record.
use Rattle.std.specs.Prelude.{ℕ, List}
use Rattle.i9_model.specs.declared.push.Push.{Push}
use Rattle.i9_model.specs.Memory.{Memory, with_writes}
use Rattle.i9_model.specs.State.{Frames}
use Rattle.i9_model.specs.Frames.{saved, wrote}
use Rattle.i9_model.specs.Interrupts.{record_writes}

abbrev pub memory_after : Memory → Push → List ℕ → Memory
memory_after m push words = with_writes m (record_writes m push words)

abbrev pub frames_after : Memory → Frames → Push → List ℕ → Frames
frames_after m f push words = wrote (saved f push.save) (record_writes m push words)
