-- Which pages are new, where room is made for writes and for frames.
use Rattle.std.proofs.Common.{◌≢◌, ℕ, zero, suc, ◌+◌, ◌<◌, List, [], ◌∷◌, ◌++◌, length, get_or, map, subst, arith}
use Rattle.std.proofs.lemmas.List.Concat.{flat_map-cons}
use Rattle.i9_hex.specs.declared.segments.Segment.{Segment}
use Rattle.i9_hex.specs.Shown.{part_of}
use Rattle.i9_model.specs.State.{State}
use Rattle.i9_model.specs.Image.{pairs_of, pairs_of_part}
use Rattle.i9_model.specs.Writes.{upwards}
use Rattle.i9_memory.specs.Memory.{IsReserved, IsApart, IsApartFrom}
use Rattle.i9_watch.specs.Watch.{HasMarks}
use Rattle.i9_storage.specs.declared.storage.Storage.{Storage}
use Rattle.i9_processor.specs.declared.effect.Move.{Move}
use Rattle.i9_processor.specs.declared.effect.Move.TheVariants as moves
use Rattle.i9_processor.specs.declared.effect.Effect.{Effect}
use Rattle.i9_processor.specs.Effect.{move_in, run_in, requests_in, action_in}
use Rattle.i9_processor.specs.Pages.{AddsMoveOnly, IsApartFromMove, IsApartFromMarked}
use Rattle.i9_processor.proofs.MarkBits.{some_stale}

-- ---- writes that stand beside a page

pub first_apart : (ps qs : List (ℕ × ℕ)) (x : ℕ) → IsApartFrom (ps ++ qs) x → IsApartFrom ps x
first_apart [] qs x apart = tt
first_apart (p ∷ ps) qs x apart = (apart.0, first_apart ps qs x apart.1)

pub later_apart : (ps qs : List (ℕ × ℕ)) (x : ℕ) → IsApartFrom (ps ++ qs) x → IsApartFrom qs x
later_apart [] qs x apart = apart
later_apart (p ∷ ps) qs x apart = later_apart ps qs x apart.1

-- bytes one by one are bytes in a row
pub row_apart : (a : ℕ) (bs : List ℕ) (x : ℕ) → IsApartFrom (upwards a bs) x → IsApart a (length bs) x
row_apart a [] x apart k h = absurd (omega (arith, h))
row_apart a (b ∷ bs) x apart zero h = grind arith
row_apart a (b ∷ bs) x apart (suc k) h = grind (arith, row_apart (a + 1) bs x apart.1 k (omega (arith, h)))

-- and a segment of an image
pub segment_apart : (ss : List Segment) (k : ℕ) (d : Segment) (x : ℕ) → k < length ss → IsApartFrom (pairs_of (map part_of ss)) x → IsApart (get_or ss k d).address (length (get_or ss k d).bytes.items) x
unfolding pairs_of
segment_apart [] k d x h apart = absurd (omega (arith, h))
segment_apart (s ∷ ss) zero d x h apart = grind (arith, row_apart, first_apart, flat_map-cons)
segment_apart (s ∷ ss) (suc k) d x h apart =
    segment_apart ss k d x (omega (arith, h))
    (later_apart (pairs_of_part (part_of s)) (pairs_of (map part_of ss)) x (subst (λ ps. IsApartFrom ps x) (flat_map-cons pairs_of_part (part_of s) (map part_of ss)) apart))

-- the bytes in a row of an effect, where some get marks
pub run_apart : (e : Effect) (s : State) (x : ℕ) → IsApartFromMarked (action_in s e) x → e.stale ≢ 0 → IsApart e.address (length e.bytes.items) x
run_apart e s x apart some = row_apart e.address e.bytes.items x (first_apart (run_in e) (requests_in e.requests) x (apart (some_stale e some)))

-- ---- room that is made

-- a frame that is saved is the one of the action
pub move_bytes : (m : Move) (s : State) (old new : Storage) (x : ℕ) → AddsMoveOnly old new m → IsApartFromMove (move_in s m) x → IsReserved new.behind.memory x → IsReserved old.behind.memory x
move_bytes m s old new x only apart has = grind arith

pub move_marks : (m : Move) (s : State) (old new : Storage) (x : ℕ) → AddsMoveOnly old new m → IsApartFromMove (move_in s m) x → HasMarks new.watch x → HasMarks old.watch x
move_marks m s old new x only apart has = grind arith
