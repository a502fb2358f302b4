-- The bytes that an event shows, one by one.
use Rattle.std.proofs.Common.{◌≡◌, ℕ, ◌+◌, [], ◌∷◌, ◌++◌, arith}
use Rattle.std.proofs.lemmas.List.FromFn.{map-range_with_len_more}
use Rattle.i9_model.specs.State.{State}
use Rattle.i9_model.specs.Writes.{wrapped}
use Rattle.i9_model.specs.Overlay.{overlay}
use Rattle.i9_model.specs.PrintedText.{overlays}

pub overlays_more : (s : State) (a k : ℕ) → overlays s a (k + 1) ≡ overlays s a k ++ overlay s (wrapped (a + k)) ∷ []
overlays_more s a k = map-range_with_len_more (λ (j : ℕ). overlay s (wrapped (a + j))) 0 k k (omega arith)

pub ruleset overlay_rules = (overlays_more)
