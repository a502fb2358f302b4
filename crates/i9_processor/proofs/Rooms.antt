-- Room for effects: that of the action that an effect stands for, and room that stays.
use Rattle.std.proofs.Common.{◌≡◌, ℕ, zero, suc, ◌+◌, ◌<◌, List, [], ◌∷◌, ◌++◌, length, subst, arith}
use Rattle.std.specs.List.{AllByRecursion}
use Rattle.i9_model.specs.State.{State}
use Rattle.i9_model.specs.Step as plain
use Rattle.i9_model.specs.Writes.{wrapped, upwards}
use Rattle.i9_memory.specs.Memory.{IsReserved}
use Rattle.i9_watch.specs.Watch.{HasMarks}
use Rattle.i9_storage.specs.declared.storage.Storage.{Storage}
use Rattle.i9_storage.specs.Storage.{HasSpace, HasSoftSpace, KeepsSpace, KeepsSoftSpace, KeepsFrameSpace, KeepsAll}
use Rattle.i9_processor.specs.declared.effect.Effect.{Effect}
use Rattle.i9_processor.specs.declared.effect.Move.{Move}
use Rattle.i9_processor.specs.declared.effect.Move.TheVariants as moves
use Rattle.i9_processor.specs.declared.processor.Processor.{Processor}
use Rattle.i9_processor.proofs.Appending.{first_spacious, later_spacious, spacious_kept}
use Rattle.i9_processor.specs.Effect.{action_in, HasMoveSpace, HasSpaceFor, HasRoomToMove, HasRoomFor, AreMarkable, KeepsRoom}
use Rattle.i9_processor.proofs.MarkBits.{some_stale}

-- bytes one by one are bytes in a row
row_space : (s : Storage) (a : ℕ) (bs : List ℕ) → AllByRecursion (λ w. HasSpace s w.0 1) (upwards a bs) → (k : ℕ) → k < length bs → IsReserved s.behind.memory (wrapped (a + k))
row_space s a [] all k h = absurd (omega (arith, h))
row_space s a (b ∷ bs) all zero h = let here : wrapped (wrapped a + 0) ≡ wrapped (a + 0) = omega arith in subst (IsReserved s.behind.memory) here (all.0 0 (omega arith))
row_space s a (b ∷ bs) all (suc k) h = let next : wrapped (a + 1 + k) ≡ wrapped (a + suc k) = omega arith in subst (IsReserved s.behind.memory) next (row_space s (a + 1) bs all.1 k (omega (arith, h)))

-- and so are their marks
row_marks : (s : Storage) (a : ℕ) (bs : List ℕ) → AreMarkable s (upwards a bs) → HasSoftSpace s a (length bs)
row_marks s a [] all k h = absurd (omega (arith, h))
row_marks s a (b ∷ bs) all zero h = let here : wrapped (wrapped a + 0) ≡ wrapped (a + 0) = omega arith in subst (HasMarks s.watch) here (all.0 0 (omega arith))
row_marks s a (b ∷ bs) all (suc k) h = let next : wrapped (a + 1 + k) ≡ wrapped (a + suc k) = omega arith in subst (HasMarks s.watch) next (row_marks s (a + 1) bs all.1 k (omega (arith, h)))

first_markable : (s : Storage) (ps qs : List (ℕ × ℕ)) → AreMarkable s (ps ++ qs) → AreMarkable s ps
first_markable s [] qs all = tt
first_markable s (p ∷ ps) qs all = (all.0, first_markable s ps qs all.1)

-- what stays twice stays
pub all_kept : (s t u : Storage) → KeepsAll s t → KeepsAll t u → KeepsAll s u
all_kept s t u one two = record {
  contents = record { cache = cc; frames = cc; size = cc; waiting = cc; acted = cc };
  space = λ a h. two.space a (one.space a h);
  frame_space = λ a h. two.frame_space a (one.frame_space a h);
  soft_space = λ a h. two.soft_space a (one.soft_space a h);
}

-- a frame that could be saved still can be
pub move_kept : (s t : Storage) (m : Move) → KeepsFrameSpace s t → HasMoveSpace s m → HasMoveSpace t m
move_kept s t moves.Stays keeps space = tt
move_kept s t (moves.Saves push back) keeps space = keeps push.save space
move_kept s t (moves.Returns frame) keeps space = tt
move_kept s t moves.Flushes keeps space = tt

-- what could be written still can be
save_kept : (s t : Storage) (m : plain.Move) → KeepsFrameSpace s t → HasRoomToMove s m → HasRoomToMove t m
save_kept s t plain.Stays keeps room = tt
save_kept s t (plain.Saves save words) keeps room = keeps save room
save_kept s t plain.Returns keeps room = tt
save_kept s t plain.Flushes keeps room = tt

markable_kept : (s t : Storage) (ps : List (ℕ × ℕ)) → KeepsSoftSpace s t → AreMarkable s ps → AreMarkable t ps
markable_kept s t [] keeps all = tt
markable_kept s t (p ∷ ps) keeps all = ((λ k lt. keeps (wrapped (p.0 + k)) (all.0 k lt)), markable_kept s t ps keeps all.1)

pub room_kept : (p q : Processor) → KeepsSpace p.storage q.storage → KeepsSoftSpace p.storage q.storage → KeepsFrameSpace p.storage q.storage → KeepsRoom p q
room_kept p q keeps soft frames = grind (arith, spacious_kept, markable_kept, save_kept)

pub room_space : (p : Processor) (s : State) (e : Effect) → HasRoomFor p (action_in s e) → HasSpaceFor p e
room_space p s e room = grind (arith, row_space, first_spacious, row_marks, first_markable, some_stale, later_spacious)
