use Rattle.std.proofs.Common.{◌≡◌, map}
use Rattle.i9_model.specs.Frames.{places}
use Rattle.i9_memory.specs.Memory.{memory_of}
use Rattle.i9_dma.proofs.moving.read.Given as goal

abbrev pub invariant-loop-k : goal.invariant-loop-k
invariant-loop-k l = l.bytes.items ≡ map (memory_of l.m).bytes (places l.a l.k)
