use Rattle.std.proofs.Common.{◌≡◌, ℕ, ◌<◌, ◌≤◌}
use Rattle.i9_model.specs.Late.{latest}
use Rattle.i9_regs.specs.File.{cell_in, issued_over}
use Rattle.i9_regs.proofs.file.File.plan_each.Given as goal

abbrev pub invariant-loop-r : goal.invariant-loop-r
invariant-loop-r l = record {
  below : (k : ℕ) → k < l.r → cell_in l.self k
      ≡ issued_over l.left l.done k (latest (cell_in l.fn.self k)) (cell_in l.fn.self k);
  above : (k : ℕ) → l.r ≤ k → cell_in l.self k ≡ cell_in l.fn.self k;
}
