-- The pages of bytes and of the marks of frames, which are all of memory that grows: which of them are new.
use Rattle.std.specs.Prelude.{◌≡◌, ◌≢◌, ℕ, List, [], length}
use Rattle.i9_model.specs.declared.layout.TheConstants.{FRAME_SIZE}
use Rattle.i9_model.specs.Step as plain
use Rattle.i9_memory.specs.declared.memory.Memory.{Memory as Kept}
use Rattle.i9_memory.specs.Memory.{IsReserved, IsApart, IsApartFrom}
use Rattle.i9_queue.specs.Behind.{AddsRoomOnlyIn}
use Rattle.i9_watch.specs.Watch.{HasMarks, KeepsMarks}
use Rattle.i9_storage.specs.declared.storage.Storage.{Storage}
use Rattle.i9_storage.specs.Storage.{AddsNone, AddsFrameOnly, KeepsPages}
use Rattle.i9_processor.specs.declared.effect.Effect.{Effect}
use Rattle.i9_processor.specs.declared.effect.Move.{Move}
use Rattle.i9_processor.specs.declared.effect.Move.TheVariants as moves
use Rattle.i9_processor.specs.declared.processor.Processor.{Processor}
use Rattle.i9_processor.specs.State.{size_of, queue_of}

-- the byte at an address has a page, and its marks have one
abbrev pub HasBytePage : Processor → ℕ → Type 0
HasBytePage p x = IsReserved p.storage.behind.memory x

abbrev pub HasMarkPage : Processor → ℕ → Type 0
HasMarkPage p x = HasMarks p.storage.watch x

-- ---- memory and storage

-- room is made for the pages of these writes alone
abbrev pub AddsRoomFor : Kept → Kept → List (ℕ × ℕ) → Type 0
AddsRoomFor old new ps = (x : ℕ) → IsApartFrom ps x → IsReserved new x → IsReserved old x

pub record AddsWritesOnly (old new : Storage) (ps : List (ℕ × ℕ)) : Type 0 where
  pub bytes : AddsRoomFor old.behind.memory new.behind.memory ps
  pub marks : KeepsMarks new.watch old.watch

-- and here for the bytes in a row of an effect, and for their marks where some get marks
pub record AddsRunOnly (old new : Storage) (e : Effect) : Type 0 where
  pub bytes : AddsRoomOnlyIn old.behind new.behind e.address (length e.bytes.items)
  pub marks : (x : ℕ) → (e.stale ≢ 0 → IsApart e.address (length e.bytes.items) x) → HasMarks new.watch x
      → HasMarks old.watch x

-- and here for the frame that a move saves
abbrev pub AddsMoveOnly : Storage → Storage → Move → Type 0
AddsMoveOnly old new moves.Stays = AddsNone old new
AddsMoveOnly old new (moves.Saves push back) = AddsFrameOnly old new push.save
AddsMoveOnly old new (moves.Returns frame) = AddsNone old new
AddsMoveOnly old new moves.Flushes = AddsNone old new

-- ---- a processor

-- an address lies in a page with no byte of the frame that a move saves
abbrev pub IsApartFromMove : plain.Move → ℕ → Type 0
IsApartFromMove plain.Stays x = Unit {0}
IsApartFromMove (plain.Saves save words) x = IsApart save FRAME_SIZE x
IsApartFromMove plain.Returns x = Unit {0}
IsApartFromMove plain.Flushes x = Unit {0}

-- an address lies in a page with no byte that an action writes, where some of these get marks
abbrev pub IsApartFromMarked : plain.Action → ℕ → Type 0
IsApartFromMarked a x = a.stale ≢ [] → IsApartFrom a.writes x

-- a page that is new has a byte that an action writes, or one of the frame that it saves, or the marks of that frame,
-- or those of such a byte where some get marks
pub record AddsActionOnly (old new : Processor) (a : plain.Action) : Type 0 where
  pub bytes : (x : ℕ) → IsApartFrom a.writes x → IsApartFromMove a.move x → HasBytePage new x → HasBytePage old x
  pub marks : (x : ℕ) → IsApartFromMarked a x → IsApartFromMove a.move x → HasMarkPage new x → HasMarkPage old x

-- no page is new
abbrev pub AddsNoPage : Processor → Processor → Type 0
AddsNoPage old new = AddsNone old.storage new.storage

-- the number of sets stays, and what waits, and pages: all but registers, controls, memory and frames
pub record KeepsRest (old new : Processor) : Type 0 where
  pub size : size_of new ≡ size_of old
  pub queue : queue_of new ≡ queue_of old
  pub pages : KeepsPages old.storage new.storage

-- there are pages for the bytes of these writes alone, and none for marks
pub record HasPagesFor (p : Processor) (ps : List (ℕ × ℕ)) : Type 0 where
  pub bytes : (x : ℕ) → IsApartFrom ps x → HasBytePage p x → ⊥
  pub marks : (x : ℕ) → HasMarkPage p x → ⊥
