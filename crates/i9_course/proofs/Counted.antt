-- A spill and a flush write 64 bytes for each frame that they move.
use Rattle.std.proofs.Common.{◌≡◌, ◌≢◌, ℕ, suc, ◌+◌, ◌*◌, ◌≤◌, List, [], ◌∷◌, length, refl, ap, arith, length-append}
use Rattle.std.proofs.lemmas.Bool.Decides.{nat_tests}
use Rattle.i9_model.specs.declared.frame.Frame.{Frame}
use Rattle.i9_model.specs.declared.layout.TheConstants.{LOCALS, FRAME_SIZE}
use Rattle.i9_model.specs.Writes.{upwards}
use Rattle.i9_model.specs.Memory.{Memory}
use Rattle.i9_model.specs.Step.{Move, Returns}
use Rattle.i9_model.specs.HeldFrames.{Cache, AreWhole}
use Rattle.i9_model.proofs.Lengths.{words_long}
use Rattle.i9_course.specs.NeedOf.{moved_frames}
use Rattle.i9_course.specs.Course.{frame_writes, all_writes, move_writes}

as_long : (a : ℕ) (bs : List ℕ) → length (upwards a bs) ≡ length bs
as_long a [] = refl
as_long a (b ∷ bs) = ap suc (as_long (a + 1) bs)

frame_long : (m : Memory) (f : Frame) → length f.words ≡ LOCALS → length (frame_writes m f) ≡ FRAME_SIZE
frame_long m f whole = grind (arith, as_long, words_long)

all_long : (m : Memory) (fs : List Frame) → AreWhole fs → length (all_writes m fs) ≡ FRAME_SIZE * length fs
all_long m [] whole = refl
all_long m (f ∷ fs) whole = grind (arith, length-append, frame_long, all_long m fs whole.1)

pub writes_counted : (n : ℕ) (c : Cache) (v : Move) → 1 ≤ n → AreWhole c.held → v ≢ Returns
    → length (move_writes n c v) ≡ FRAME_SIZE * moved_frames n c v
writes_counted n c v some whole other = grind (arith, nat_tests, as_long, words_long, all_long)
