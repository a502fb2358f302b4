-- Writes of bytes in a row: what is known of an address and so many bytes, said of the writes.
use Rattle.std.proofs.Common.{◌≡◌, ℕ, ◌+◌, List, [], ◌∷◌, length, find, refl, ap}
use Rattle.std.specs.Prelude.{◌==◌, ◌&&◌, not}
use Rattle.std.specs.List.{list_any}
use Rattle.i9_model.specs.Writes.{wrapped, places_of, upwards}
use Rattle.i9_model.specs.State.{Frames}
use Rattle.i9_model.specs.Frames.{places, in_bytes, in_frames, is_put, wrote, wrote_run}
use Rattle.i9_model.specs.Hazards.{write_hazard, writes_hazard}

pub places_of-upwards : (a : ℕ) (bs : List ℕ) → places_of (upwards a bs) ≡ places a (length bs)
places_of-upwards a [] = refl
places_of-upwards a (b ∷ bs) = ap (λ (ys : List ℕ). wrapped a ∷ ys) (places_of-upwards (a + 1) bs)

pub is_put-upwards : (a : ℕ) (bs : List ℕ) (x : ℕ) → is_put (upwards a bs) x ≡ in_bytes a (length bs) x
unfolding is_put in_bytes
is_put-upwards a bs x = ap (list_any (λ (y : ℕ). x == y)) (places_of-upwards a bs)

pub writes_hazard-upwards : (f : Frames) (a : ℕ) (bs : List ℕ) → writes_hazard f (upwards a bs) ≡ write_hazard f a (length bs)
unfolding writes_hazard write_hazard
writes_hazard-upwards f a bs = ap (find (in_frames f.live)) (places_of-upwards a bs)

pub wrote-upwards : (f : Frames) (a : ℕ) (bs : List ℕ) → wrote f (upwards a bs) ≡ wrote_run f a (length bs)
wrote-upwards f a bs = λ i. record f { soft = λ x. f.soft x && not (is_put-upwards a bs x i) }
