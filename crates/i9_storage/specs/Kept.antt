-- Frames that are held in place of memory: what they are with the memory behind them, and what holds of them.
use Rattle.std.specs.Prelude.{◌≡◌, None, ℕ, ◌+◌, ◌-◌, ◌*◌, ◌/◌, ◌%◌, length, take, slice_index, List, [], ◌∷◌}
use Rattle.std.specs.List.{AllByRecursion, AllByRecursion-prop}
use Rattle.std.proofs.Props.{props}
use Rattle.i9_model.specs.declared.layout.TheConstants.{FRAME_SIZE}
use Rattle.i9_model.specs.declared.frame.Frame.{Frame}
use Rattle.i9_model.specs.Writes.{wrapped}
use Rattle.i9_model.specs.Memory as model
use Rattle.i9_model.specs.Memory.{word_bytes, word_in}
use Rattle.i9_model.specs.Hazards.{read_hazard}
use Rattle.i9_model.specs.Sound.{AreApart, IsSound}
use Rattle.i9_model.specs.HeldFrames.{Cache, cache, over, overlaid, AreYoungest}
use Rattle.i9_memory.specs.declared.memory.Memory.{Memory}
use Rattle.i9_memory.specs.Memory.{IsReserved}
use Rattle.i9_queue.specs.declared.behind.Behind.{Behind}
use Rattle.i9_queue.specs.Behind.{settled, waiting_of, HasRoomIn, KeepsRoomIn}
use Rattle.i9_watch.specs.declared.watch.Watch.{Watch}
use Rattle.i9_watch.specs.Watch.{frames_of}
use Rattle.i9_frames.specs.Sets.{Held}
use Rattle.i9_storage.specs.declared.words.Words.{Words}
use Rattle.i9_storage.specs.Words.{Keeps}

-- what is held, and the memory behind it after all that waits
abbrev pub cache_in : Behind → Held → Cache
cache_in b h = cache h.frames (settled b)

-- memory with the held frames laid over it, but for so many of the youngest
abbrev pub laid_without : ℕ → Behind → Held → model.Memory
laid_without k b h = over (take (length h.frames - k) h.frames) (settled b)

-- the byte so far above the address of a frame, in the order that its word has there
abbrev pub byte_in_frame : Behind → Frame → ℕ → ℕ
byte_in_frame b f above = slice_index
    (word_bytes (settled b) (wrapped (f.address + 4 * (above / 4))) (slice_index f.words (above / 4))) (above % 4)

-- each of these frames can be written to memory
abbrev pub HaveRoom : Behind → List Frame → Type 0
HaveRoom b fs = AllByRecursion (λ f. HasRoomIn b f.address FRAME_SIZE) fs

-- the same requests wait, no room goes, and none is new
pub record KeepsBehind (old new : Behind) : Type 0 where
  pub waiting : waiting_of new ≡ waiting_of old
  pub keeps : KeepsRoomIn old new
  pub no_more : KeepsRoomIn new old

-- frames are sound, the youngest live ones are held, and memory has room for these
pub record IsKept (b : Behind) (w : Watch) (h : Held) : Type 0 where
  pub sound : IsSound (frames_of w)
  pub youngest : AreYoungest h.frames (frames_of w).live
  pub room : HaveRoom b h.frames

-- each word that is kept is the one of memory, and none of its bytes is soft
abbrev pub AreCurrent : Words → Behind → Watch → Held → Type 0
AreCurrent ws b w h = (a v : ℕ) → Keeps ws a v
    → (read_hazard (frames_of w) a 4 ≡ None) × (v ≡ word_in (overlaid (cache_in b h)) a)

-- ---- there is at most one proof of it

IsReserved-prop : (m : Memory) (a : ℕ) → IsProp (IsReserved m a)
unfolding IsReserved
IsReserved-prop m a = hlevel props

AreApart-prop : (live : List ℕ) → IsProp (AreApart live)
AreApart-prop [] = hlevel props
AreApart-prop (f ∷ live) = hlevel (props, AreApart-prop live)

pub IsKept-prop : (b : Behind) (w : Watch) (h : Held) → IsProp (IsKept b w h)
IsKept-prop b w h = hlevel (props, IsReserved-prop, AreApart-prop, AllByRecursion-prop)
