-- What storage stands for: memory with the held frames laid over it, and the frames that may be returned to.
use Rattle.std.specs.Prelude.{◌≡◌, ℕ, ◌<◌, if◌then◌else◌, List, [], ◌∷◌}
use Rattle.i9_model.specs.declared.layout.TheConstants.{FRAME_SIZE}
use Rattle.i9_model.specs.Memory.{Memory, with_writes}
use Rattle.i9_model.specs.State.{Frames}
use Rattle.i9_model.specs.Frames.{wrote, softened}
use Rattle.i9_model.specs.HeldFrames.{Cache, overlaid, cache_stored}
use Rattle.i9_model.specs.Late.{Wait}
use Rattle.i9_model.specs.Calls.{Caller}
use Rattle.i9_calls.specs.Callers.{caller_of}
use Rattle.i9_memory.specs.declared.memory.Memory.{Memory as Kept}
use Rattle.i9_memory.specs.Memory.{KeepsRoom}
use Rattle.i9_queue.specs.Behind.{acted, waiting_of, HasRoomIn, KeepsRoomIn, AddsRoomOnlyIn}
use Rattle.i9_watch.specs.Watch.{frames_of, spare_of, HasRunMarks, HasFrameMarks, HasNoMarks, KeepsMarks, AddsMarksOnly}
use Rattle.i9_storage.specs.declared.storage.Storage.{Storage}
use Rattle.i9_storage.specs.Kept.{cache_in}

-- what is held, and the memory behind it after all that waits
abbrev pub cache_of : Storage → Cache
cache_of s = cache_in s.behind s.sets

-- memory with the held frames laid over it
abbrev pub memory_in : Storage → Memory
memory_in s = overlaid (cache_of s)

-- soft bytes and live frames
abbrev pub frames_in : Storage → Frames
frames_in s = frames_of s.watch

-- what is entered from there, with these process controls, frame pointer and stack pointer
abbrev pub caller_from : Storage → ℕ → ℕ → ℕ → Caller
caller_from s pc fp sp = caller_of (memory_in s) (frames_in s) pc fp sp

-- memory as a load finds it: a soft byte is 0
abbrev pub legible_in : Storage → Memory
legible_in s = record (memory_in s) { bytes = λ x. if (frames_in s).soft x then 0 else (memory_in s).bytes x }

-- memory as a return finds it, by the live frames: what was stored, or where none is live what a load finds
abbrev pub left_in : List ℕ → Storage → Memory
left_in [] s = legible_in s
left_in (f ∷ live) s = memory_in s

-- how many frames can be held
abbrev pub size_of : Storage → ℕ
size_of s = s.sets.size

-- the requests that wait to be stored in memory, the oldest first
abbrev pub waiting_in : Storage → List Wait
waiting_in s = waiting_of s.behind

-- memory behind the held frames, without those
abbrev pub acted_in : Storage → Memory
acted_in s = acted s.behind

-- none waits
abbrev pub IsDrained : Storage → Type 0
IsDrained s = waiting_in s ≡ []

-- so many bytes from an address up can be stored
abbrev pub HasSpace : Storage → ℕ → ℕ → Type 0
HasSpace s a n = HasRoomIn s.behind a n

-- so many bytes from an address up can be made soft
abbrev pub HasSoftSpace : Storage → ℕ → ℕ → Type 0
HasSoftSpace s a n = HasRunMarks s.watch a n

-- a frame can be saved at an address
pub record HasFrameSpace (s : Storage) (a : ℕ) : Type 0 where
  pub bytes : HasRoomIn s.behind a FRAME_SIZE
  pub spare : 0 < spare_of s.watch
  pub marks : HasFrameMarks s.watch a

-- where a frame could be saved one still can be
abbrev pub KeepsFrameSpace : Storage → Storage → Type 0
KeepsFrameSpace old new = (a : ℕ) → HasFrameSpace old a → HasFrameSpace new a

-- what could be made soft still can be
abbrev pub KeepsSoftSpace : Storage → Storage → Type 0
KeepsSoftSpace old new = KeepsMarks old.watch new.watch

-- what could be stored still can be
abbrev pub KeepsSpace : Storage → Storage → Type 0
KeepsSpace old new = KeepsRoomIn old.behind new.behind

-- ---- what takes memory: the pages of bytes, and those of the marks of frames

-- no page is new
pub record AddsNone (old new : Storage) : Type 0 where
  pub bytes : KeepsSpace new old
  pub marks : KeepsMarks new.watch old.watch

-- no page goes, and none is new
pub record KeepsPages (old new : Storage) : Type 0 where
  pub space : KeepsSpace old new
  pub soft_space : KeepsSoftSpace old new
  pub no_more : AddsNone old new

-- a page that is new is one of n bytes from an address up
pub record AddsBytesOnly (old new : Storage) (a n : ℕ) : Type 0 where
  pub bytes : AddsRoomOnlyIn old.behind new.behind a n
  pub marks : KeepsMarks new.watch old.watch

-- and here one of the bytes of a frame, or of their marks
pub record AddsFrameOnly (old new : Storage) (a : ℕ) : Type 0 where
  pub bytes : AddsRoomOnlyIn old.behind new.behind a FRAME_SIZE
  pub marks : AddsMarksOnly old.watch new.watch a FRAME_SIZE

-- and here one of the marks of n bytes from an address up
pub record AddsSoftOnly (old new : Storage) (a n : ℕ) : Type 0 where
  pub bytes : KeepsSpace new old
  pub marks : AddsMarksOnly old.watch new.watch a n

-- the pages of a memory alone are there
pub record HasPagesOf (memory : Kept) (s : Storage) : Type 0 where
  pub bytes : KeepsRoom s.behind.memory memory
  pub marks : HasNoMarks s.watch

-- ---- what stays

-- all but memory and frames: as many frames can be held, the same requests wait, and the same pages are there
pub record KeepsRest (old new : Storage) : Type 0 where
  pub size : size_of new ≡ size_of old
  pub waiting : waiting_in new ≡ waiting_in old
  pub pages : KeepsPages old new

-- all but pages: memory and frames, what is held, and what waits
pub record KeepsContents (old new : Storage) : Type 0 where
  pub cache : cache_of new ≡ cache_of old
  pub frames : frames_in new ≡ frames_in old
  pub size : size_of new ≡ size_of old
  pub waiting : waiting_in new ≡ waiting_in old
  pub acted : acted_in new ≡ acted_in old

-- all of it; there may be more pages
pub record KeepsAll (old new : Storage) : Type 0 where
  pub contents : KeepsContents old new
  pub space : KeepsSpace old new
  pub frame_space : KeepsFrameSpace old new
  pub soft_space : KeepsSoftSpace old new

-- ---- what is stored

-- all reads find these writes, and of their bytes those at these places are soft
pub record Stores (old new : Storage) (ps : List (ℕ × ℕ)) (stale : List ℕ) : Type 0 where
  pub cache : cache_of new ≡ cache_stored ps (cache_of old)
  pub memory : memory_in new ≡ with_writes (memory_in old) ps
  pub frames : frames_in new ≡ softened (wrote (frames_in old) ps) stale
