use Rattle.std.proofs.Common.{◌≡◌, ℕ, ◌+◌, ◌-◌, Bool}
use Rattle.i9_model.specs.Hazards.{least}
use Rattle.i9_watch.proofs.watch.first_place.Given as goal

abbrev pub invariant-loop-k : goal.invariant-loop-k
invariant-loop-k g l = (p : ℕ → Bool) → ((x : ℕ) (r : Bool) → g.F.Fn.post l.test (x, tt) r → r ≡ p x) → least p (l.a + l.k) (l.n - l.k) ≡ least p l.a l.n
