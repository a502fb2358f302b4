use Rattle.std.proofs.Common.{◌≡◌, ◌<◌, ℕ, Bool, false, get_or}
use Rattle.i9_statement.proofs.cut.cut_where.Given as goal

abbrev pub invariant-loop-place : goal.invariant-loop-place
invariant-loop-place g l = (p : ℕ → Bool) → ((b : ℕ) (r : Bool) → g.F.Fn.post l.passes (b, tt) r → r ≡ p b) → (j : ℕ) → j < l.place → p (get_or l.text j 0) ≡ false
