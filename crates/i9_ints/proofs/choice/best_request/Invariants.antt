use Rattle.std.proofs.Common.{◌≡◌, ℕ, ◌-◌, ◌*◌, ◌≤◌, ◌<◌, false}
use Rattle.i9_model.specs.Interrupts.{is_requested}
use Rattle.i9_memory.specs.Memory.{memory_of}
use Rattle.i9_ints.specs.Best.{is_wanted}
use Rattle.i9_ints.proofs.choice.best_request.Given as goal

-- no vector of a higher priority is wanted
abbrev pub invariant-loop-n : goal.invariant-loop-n
invariant-loop-n l = (u : ℕ) → 256 - 8 * l.n ≤ u → u < 256 → is_wanted (is_requested (memory_of l.m) l.table) l.pc u ≡ false
