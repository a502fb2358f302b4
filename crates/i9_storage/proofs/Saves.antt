-- Frames that are saved with the marks of their words, and bytes that are stored with theirs.
use Rattle.std.proofs.Common.{◌≡◌, ℕ, zero, suc, ◌+◌, ◌<◌, false, List, [], None, map, refl, arith}
use Rattle.std.specs.Prelude.{get_or}
use Rattle.std.specs.List.{range_with_len}
use Rattle.i9_isa.specs.Words.{bit}
use Rattle.i9_model.specs.declared.layout.TheConstants.{RIP}
use Rattle.i9_model.specs.Writes.{wrapped}
use Rattle.i9_model.specs.State.{Frames}
use Rattle.i9_model.specs.Frames.{in_bytes, saved, with_marked, wrote_run, softened}
use Rattle.i9_model.specs.Hazards.{save_hazard}
use Rattle.i9_model.specs.Stale.{picked, byte_marks}
use Rattle.i9_model.specs.Sound.{IsSound}
use Rattle.i9_model.specs.Step.{Saves}
use Rattle.i9_model.proofs.FrameLaws.{sound-saved}
use Rattle.i9_model.proofs.SavedMarks.{marks-lost}
use Rattle.i9_agree.proofs.SoundRuns.{sound-lost}
use Rattle.i9_watch.specs.Bits.{bits_of}
use Rattle.i9_watch.proofs.SetBits.{bit_none}

-- ---- no byte is marked

none_among : (place : ℕ → ℕ) (a k n : ℕ) → picked place a (map (bit 0) (range_with_len k n)) ≡ []
none_among place a k zero = refl
none_among place a k (suc n) = grind (arith, bit_none, none_among place (a + 1) (k + 1) n)

pub none_picked : (place : ℕ → ℕ) (a n : ℕ) → picked place a (bits_of 0 n) ≡ []
none_picked place a n = none_among place a 0 n

-- a store of which no byte is marked
pub none_stale : (f g : Frames) (a n v : ℕ) → v ≡ 0 → g ≡ wrote_run f a n → g ≡ softened (wrote_run f a n) (picked wrapped a (bits_of v n))
none_stale f g a n v e is = grind (arith, none_picked)

-- no byte is stored
pub none_stored : (f : Frames) (a n v : ℕ) → n ≡ 0 → f ≡ softened (wrote_run f a n) (picked wrapped a (bits_of v n))
unfolding in_bytes
none_stored f a n v e = grind arith

-- ---- the marks of a frame whose return address has none

no_mark : (m j : ℕ) → bit m RIP ≡ false → j < 4 → get_or (byte_marks (bits_of m 16)) (8 + j) false ≡ false
no_mark m j known l = grind arith

-- a frame is saved where no live one is, so its marks are beside theirs
pub sound-save : (f : Frames) (m a : ℕ) (words : List ℕ) → IsSound f → save_hazard f a ≡ None → bit m RIP ≡ false → IsSound (with_marked (saved f a) (picked wrapped a (byte_marks (bits_of m 16))))
sound-save f m a words sound safe known =
    let bs = byte_marks (bits_of m 16) in
    sound-lost (Saves a words) f (picked wrapped a bs) safe (marks-lost a bs refl (λ j l. no_mark m j known l)) (sound-saved f a sound safe)
