-- Sound: what holds of the live frames and of the soft bytes as long as no hazard is met.
use Rattle.std.specs.Prelude.{◌≡◌, ℕ, Bool, true, false, List, [], ◌∷◌}
use Rattle.i9_model.specs.declared.layout.TheConstants.{FRAME_SIZE}
use Rattle.i9_model.specs.Memory.{in_port_page}
use Rattle.i9_model.specs.State.{Frames}
use Rattle.i9_model.specs.Frames.{in_bytes, in_frames}
use Rattle.i9_model.specs.Hazards.{return_place}
use Rattle.std.specs.List.{list_any}

-- no byte is in two of these frames
abbrev pub AreApart : List ℕ → Type 0
AreApart [] = Unit {0}
AreApart (f ∷ live) = ((x : ℕ) → in_bytes f FRAME_SIZE x ≡ true → in_frames live x ≡ false) × AreApart live

-- a byte of the return address of one of these frames
abbrev pub in_returns : List ℕ → ℕ → Bool
in_returns live x = list_any (λ f. in_bytes (return_place f) 4 x) live

-- the live frames are apart, their bytes are soft, and none of these lies in the port page; marked bytes are some of
-- them, and none is in a return address
pub record IsSound (s : Frames) : Type 0 where
  pub apart : AreApart s.live
  pub soft : (x : ℕ) → in_frames s.live x ≡ true → s.soft x ≡ true
  pub outside : (x : ℕ) → in_frames s.live x ≡ true → in_port_page x ≡ false
  pub within : (x : ℕ) → s.marked x ≡ true → in_frames s.live x ≡ true
  pub known : (x : ℕ) → in_returns s.live x ≡ true → s.marked x ≡ false
