-- What a procedure or a handler is entered from, by its parts.
use Rattle.std.specs.Prelude.{ℕ}
use Rattle.i9_model.specs.Memory.{Memory}
use Rattle.i9_model.specs.State.{Frames}
use Rattle.i9_model.specs.Calls.{Caller}

-- memory and frames, the process controls, and the frame and the stack pointer
abbrev pub caller_of : Memory → Frames → ℕ → ℕ → ℕ → Caller
caller_of m f pc fp sp = record { memory = m; frames = f; pc = pc; fp = fp; sp = sp }
