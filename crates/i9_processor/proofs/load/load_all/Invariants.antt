use Rattle.std.proofs.Common.{◌≡◌, drop, map}
use Rattle.i9_hex.specs.Shown.{part_of}
use Rattle.i9_memory.specs.Memory.{memory_of}
use Rattle.i9_model.specs.Image.{pairs_of}
use Rattle.i9_model.specs.Memory.{with_writes}
use Rattle.i9_processor.specs.Pages.{AddsRoomFor}
use Rattle.i9_processor.proofs.load.load_all.Given as goal

abbrev pub invariant-loop-segment : goal.invariant-loop-segment
invariant-loop-segment l = record {
  rest : with_writes (memory_of l.memory) (pairs_of (map part_of (drop l.segment-index l.segments))) ≡ with_writes (memory_of l.fn.memory) (pairs_of (map part_of l.segments));
  only : AddsRoomFor l.fn.memory l.memory (pairs_of (map part_of l.segments));
}
