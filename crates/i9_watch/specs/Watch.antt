-- Watch: what it keeps, and what it has room for.
use Rattle.std.specs.Prelude.{ℕ, ◌+◌, ◌/◌, ◌<◌}
use Rattle.i9_model.specs.declared.layout.TheConstants.{FRAME_SIZE}
use Rattle.i9_model.specs.Writes.{wrapped}
use Rattle.i9_model.specs.State.{Frames}
use Rattle.i9_watch.specs.declared.page.Mark.TheVariants.{Soft, Lost}
use Rattle.i9_watch.specs.declared.watch.Watch.{Watch}
use Rattle.i9_watch.specs.Marks.{is_marked, HasRoom, HasNone}

-- the soft bytes, the live frames, and their bytes in marked words
unfoldable pub frames_of : Watch → Frames
frames_of w = record { soft = is_marked Soft w.marks; live = w.live.items; marked = is_marked Lost w.marks }

-- so many frames can be saved
unfoldable pub spare_of : Watch → ℕ
spare_of w = w.spare

-- a byte can be made soft
unfoldable pub HasMarks : Watch → ℕ → Type 0
HasMarks w a = HasRoom w.marks a

-- so many bytes from an address on can be made soft
abbrev pub HasRunMarks : Watch → ℕ → ℕ → Type 0
HasRunMarks w a n = (k : ℕ) → k < n → HasMarks w (wrapped (a + k))

-- the bytes of a frame can be made soft
abbrev pub HasFrameMarks : Watch → ℕ → Type 0
HasFrameMarks w a = HasRunMarks w a FRAME_SIZE

-- what could be made soft still can be
abbrev pub KeepsMarks : Watch → Watch → Type 0
KeepsMarks old new = (a : ℕ) → HasMarks old a → HasMarks new a

-- no byte can be made soft
abbrev pub HasNoMarks : Watch → Type 0
HasNoMarks w = (a : ℕ) → HasMarks w a → ⊥

-- Room is made for the pages of so many bytes from an address on alone: what lies in a page of 256 with none of them
-- can be made soft only where it could.
abbrev pub AddsMarksOnly : Watch → Watch → ℕ → ℕ → Type 0
AddsMarksOnly old new a n = (x : ℕ) → HasNone a n (x / 256) → HasMarks new x → HasMarks old x
