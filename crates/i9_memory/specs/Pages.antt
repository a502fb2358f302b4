-- Pages: the bytes that they hold, and those for which they have room.
use Rattle.std.specs.Prelude.{◌≢◌, ℕ, ◌+◌, ◌/◌, ◌%◌, ◌<◌, slice_index, Option, Some, None, IsSome}
use Rattle.i9_model.specs.Writes.{wrapped}
use Rattle.i9_memory.specs.Table.{page_at}
use Rattle.i9_memory.specs.declared.pages.Page.{Page}
use Rattle.i9_memory.specs.declared.pages.Pages.{Pages}

-- the byte at a place of a page
abbrev pub byte_in : Option Page → ℕ → ℕ
byte_in None k = 0
byte_in (Some p) k = slice_index p.bytes.value k

-- the page of a number
abbrev pub page_of : Pages → ℕ → Option Page
page_of m p = page_at m.pages p

-- the byte at an address
abbrev pub byte_of : Pages → ℕ → ℕ
byte_of m a = byte_in (page_of m (a / 256)) (a % 256)

-- a page is there
abbrev pub HasPage : Pages → ℕ → Type 0
HasPage m p = IsSome (page_of m p)

-- a byte can be written
abbrev pub HasByte : Pages → ℕ → Type 0
HasByte m a = HasPage m (a / 256)

-- pages that were there still are
abbrev pub KeepsPages : Pages → Pages → Type 0
KeepsPages old new = (p : ℕ) → HasPage old p → HasPage new p

-- a page has none of so many bytes from an address up
abbrev pub HasNone : ℕ → ℕ → ℕ → Type 0
HasNone a n p = (k : ℕ) → k < n → wrapped (a + k) / 256 ≢ p

-- a page that is new has one of so many bytes from an address up
abbrev pub AddsOnly : Pages → Pages → ℕ → ℕ → Type 0
AddsOnly old new a n = (p : ℕ) → HasNone a n p → HasPage new p → HasPage old p
