-- The words of a frame that are written to memory one by one, and frames that are returned to.
use Rattle.std.proofs.Common.{◌≡◌, ℕ, ◌<◌, List, [], ◌∷◌, length, arith}
use Rattle.std.specs.Prelude.{slice_get, is_some, true, false}
use Rattle.i9_model.specs.State.{Frames}
use Rattle.i9_model.specs.Frames.{in_frames, returned}

-- ---- returns

-- where no frame is live, none is dropped
pub return_none : (s : Frames) → ((x : ℕ) → s.marked x ≡ true → in_frames s.live x ≡ true) → is_some (slice_get s.live 0) ≡ false → returned s ≡ s
return_none s within e = grind arith

some_live : (live : List ℕ) → is_some (slice_get live 0) ≡ true → 0 < length live
some_live [] e = absurd cc
some_live (x ∷ xs) e = omega arith

pub return_some : (s : Frames) → is_some (slice_get s.live 0) ≡ true → 0 < length s.live
return_some s e = some_live s.live e

pub ruleset return_rules = (return_none, return_some)
