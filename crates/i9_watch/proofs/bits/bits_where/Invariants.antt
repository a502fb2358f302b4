use Rattle.std.proofs.Common.{◌≡◌, ℕ, Bool, nat_lt}
use Rattle.std.specs.Prelude.{◌&&◌}
use Rattle.i9_isa.specs.Words.{bit}
use Rattle.i9_watch.proofs.bits.bits_where.Given as goal

abbrev pub invariant-loop-k : goal.invariant-loop-k
invariant-loop-k g l = (p : ℕ → Bool) → ((x : ℕ) (r : Bool) → g.F.Fn.post l.test (x, tt) r → r ≡ p x) → (j : ℕ) → bit l.bits j ≡ (nat_lt j l.k && p j)
