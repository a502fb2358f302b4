use Rattle.std.proofs.Common.{◌≡◌, take}
use Rattle.i9_model.specs.Writes.{written, pairs_at}
use Rattle.i9_processor.specs.State.{registers_of}
use Rattle.i9_processor.specs.Issued.{KeepsCode}
use Rattle.i9_processor.proofs.registers.set_group.Given as goal

abbrev pub invariant-loop-k : goal.invariant-loop-k
invariant-loop-k l = record {
  registers : registers_of l.file ≡ written (registers_of l.fn.file) (pairs_at (λ r. r) l.r (take l.k l.words));
  keeps : KeepsCode l.fn.file l.file;
}
