-- Frames: where local registers are saved, which bytes only a save wrote, and which frames may be returned to.
use Rattle.std.specs.Prelude.{ℕ, ◌+◌, ◌-◌, Bool, false, ◌==◌, ◌&&◌, ◌||◌, not, if◌then◌else◌, List, [], ◌∷◌, drop, map}
use Rattle.std.specs.List.{list_any, range_with_len}
use Rattle.i9_model.specs.declared.layout.TheConstants.{FRAME_SIZE, RECORD_SIZE}
use Rattle.i9_model.specs.declared.push.Push.{Push}
use Rattle.i9_model.specs.Writes.{address_count, wrapped, places_of}
pub use Rattle.i9_model.specs.Writes.{rounded_down, rounded_up}
use Rattle.i9_model.specs.State.{Frames}

-- so many addresses in a row, from the last on to 0
abbrev pub places : ℕ → ℕ → List ℕ
places a n = map wrapped (range_with_len a n)

-- one of so many bytes from an address on
unfoldable pub in_bytes : ℕ → ℕ → ℕ → Bool
in_bytes a n x = list_any (λ y. x == y) (places a n)

-- one of the bytes of these frames
abbrev pub in_frames : List ℕ → ℕ → Bool
in_frames live x = list_any (λ f. in_bytes f FRAME_SIZE x) live

abbrev pub no_frames : Frames
no_frames = record { soft = λ _. false; live = []; marked = λ _. false }

-- a byte in a word of a live frame that is not marked
abbrev pub is_kept : Frames → ℕ → Bool
is_kept s x = if not (s.marked x) then in_frames s.live x else false

-- one of these places
abbrev pub has : List ℕ → ℕ → Bool
has places x = list_any (λ y. x == y) places

-- a frame is saved: its bytes are soft, and it is the first that may be returned to
abbrev pub saved : Frames → ℕ → Frames
saved s a = record { soft = λ x. in_bytes a FRAME_SIZE x || s.soft x; live = a ∷ s.live; marked = s.marked }

-- and these of its bytes are in marked words
abbrev pub with_marked : Frames → List ℕ → Frames
with_marked s places = record s { marked = λ x. has places x || s.marked x }

-- the first live frame is returned to; its bytes stay as they are
abbrev pub returned : Frames → Frames
returned s = record s { live = drop 1 s.live; marked = λ x. s.marked x && in_frames (drop 1 s.live) x }

-- no frame is live any more, and the bytes of their words that are not marked are not soft
abbrev pub flushed : Frames → Frames
flushed s = record { soft = λ x. s.soft x && not (is_kept s x); live = []; marked = λ _. false }

-- so many bytes from an address on are stored to, and not soft any more
abbrev pub wrote_run : Frames → ℕ → ℕ → Frames
wrote_run s a n = record s { soft = λ x. s.soft x && not (in_bytes a n x) }

-- a byte is written
unfoldable pub is_put : List (ℕ × ℕ) → ℕ → Bool
is_put ps x = list_any (λ y. x == y) (places_of ps)

-- the bytes of writes are not soft any more
abbrev pub wrote : Frames → List (ℕ × ℕ) → Frames
wrote s ps = record s { soft = λ x. s.soft x && not (is_put ps x) }

-- and these of them are soft again, since their values are marked
abbrev pub softened : Frames → List ℕ → Frames
softened s places = record s { soft = λ x. has places x || s.soft x }

-- ---- the marks of words

-- a word has the mark of each of its bytes
abbrev pub word_mark : (ℕ → Bool) → ℕ → Bool
word_mark stale a = stale a || (stale (wrapped (a + 1)) || (stale (wrapped (a + 2)) || stale (wrapped (a + 3))))

-- a return reads words with the marks of the first live frame; where none is live a word is marked by its soft bytes
abbrev pub left_stale : List ℕ → Frames → ℕ → Bool
left_stale [] s = s.soft
left_stale (f ∷ live) s = s.marked

-- ---- pushes

-- The frame that a push makes: the locals are saved at fp; the new frame is at the base, above a record of so many
-- bytes, and sp behind its locals; the new pfp is the save address with the return type in its low bits.
abbrev pub pushed : ℕ → ℕ → ℕ → ℕ → Push
pushed fp base extra kind = record {
  save = rounded_down fp;
  frame = wrapped (rounded_up base + extra);
  pfp = rounded_down fp + kind;
  sp = wrapped (wrapped (rounded_up base + extra) + FRAME_SIZE);
}

-- the record of a fault or an interrupt stands below the frame of its handler
abbrev pub record_address : ℕ → ℕ
record_address fp = wrapped (rounded_down fp + (address_count - RECORD_SIZE))
