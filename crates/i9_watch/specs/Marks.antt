-- Marks: which addresses are marked, and which have room for marks.
use Rattle.std.specs.Prelude.{◌≢◌, ℕ, ◌+◌, ◌/◌, ◌<◌, ◌%◌, Bool, false, if◌then◌else◌, Option, Some, None, IsSome}
use Rattle.i9_model.specs.Writes.{wrapped}
use Rattle.i9_model.specs.Frames.{in_bytes}
use Rattle.i9_memory.specs.Table.{page_at}
use Rattle.i9_watch.specs.declared.page.Mark.{Mark}
use Rattle.i9_watch.specs.declared.page.Change.{Change}
use Rattle.i9_watch.specs.declared.page.Page.{Page}
use Rattle.i9_watch.specs.declared.marks.Marks.{Marks}
use Rattle.i9_watch.specs.Page.{has_mark, changed}

-- a place of a page that may be lacking has a mark
abbrev pub is_marked_in : Mark → Option Page → ℕ → Bool
is_marked_in m None k = false
is_marked_in m (Some p) k = has_mark m p k

-- an address has a mark
abbrev pub is_marked : Mark → Marks → ℕ → Bool
is_marked m s a = is_marked_in m (page_at s.pages (a / 256)) (a % 256)

-- a mark after a change, where it is made
abbrev pub changed_where : Change → Mark → Bool → Bool → Bool
changed_where c m here marked = if here then changed c m marked else marked

-- marks after a change of so many addresses from one on
abbrev pub changed_run : Change → Mark → ℕ → ℕ → (ℕ → Bool) → ℕ → Bool
changed_run c m a n marks x = if in_bytes a n x then changed c m (marks x) else marks x

-- a page is there
abbrev pub HasPage : Marks → ℕ → Type 0
HasPage s p = IsSome (page_at s.pages p)

-- an address can be marked
abbrev pub HasRoom : Marks → ℕ → Type 0
HasRoom s a = HasPage s (a / 256)

-- each of so many bytes from an address on can be marked
abbrev pub HasRunRoom : Marks → ℕ → ℕ → Type 0
HasRunRoom s a n = (k : ℕ) → k < n → HasRoom s (wrapped (a + k))

-- pages that were there still are
abbrev pub KeepsPages : Marks → Marks → Type 0
KeepsPages old new = (p : ℕ) → HasPage old p → HasPage new p

-- a page has none of so many addresses from one on
abbrev pub HasNone : ℕ → ℕ → ℕ → Type 0
HasNone a n p = (k : ℕ) → k < n → wrapped (a + k) / 256 ≢ p

-- a page that is new has one of them
abbrev pub AddsOnly : Marks → Marks → ℕ → ℕ → Type 0
AddsOnly old new a n = (p : ℕ) → HasNone a n p → HasPage new p → HasPage old p
