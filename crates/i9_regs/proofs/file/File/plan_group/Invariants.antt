use Rattle.std.proofs.Common.{◌≡◌, ℕ, ◌<◌}
use Rattle.std.specs.Int.{bit_at}
use Rattle.i9_regs.specs.File.{cell_in, planned_cell, rest_bit}
use Rattle.i9_regs.proofs.file.File.plan_group.Given as goal

abbrev pub invariant-loop-k : goal.invariant-loop-k
invariant-loop-k l = record {
  cells : (r : ℕ) → cell_in l.self r ≡ planned_cell l.register l.k l.values l.done r (cell_in l.fn.self r);
  left : (r : ℕ) → r < 64 → bit_at l.left r ≡ rest_bit l.register l.k l.writes r;
}
