use Rattle.std.proofs.Common.{◌≡◌, ℕ, ◌<◌, length, slice_index}
use Rattle.i9_model.specs.Late.{landed}
use Rattle.i9_regs.specs.File.{cell_in}
use Rattle.i9_processor.proofs.processor.Processor.raw_registers.Given as goal

abbrev pub invariant-loop-r : goal.invariant-loop-r
invariant-loop-r l = record {
  size : length l.registers ≡ 32;
  filled : (k : ℕ) → k < l.r → slice_index l.registers k ≡ (landed l.turn (cell_in l.self.file k)).value;
}
