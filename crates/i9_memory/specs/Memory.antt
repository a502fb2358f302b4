-- Memory: what it holds, and where it can be written.
use Rattle.std.specs.Prelude.{◌≢◌, ℕ, ◌+◌, ◌/◌, ◌<◌, slice_index, List}
use Rattle.std.specs.List.{AllByRecursion}
use Rattle.i9_model.specs.Writes.{wrapped}
use Rattle.i9_model.specs.Memory.{Memory}
use Rattle.i9_memory.specs.declared.memory.Memory.{Memory as Kept}
use Rattle.i9_memory.specs.Pages.{byte_of, HasByte, HasNone}

-- the byte at each address and the configuration word of each region
unfoldable pub memory_of : Kept → Memory
memory_of m = record { bytes = byte_of m.pages; mcon = slice_index m.mcon }

-- a byte can be written
unfoldable pub IsReserved : Kept → ℕ → Type 0
IsReserved m a = HasByte m.pages a

-- so many bytes from an address up can be written
abbrev pub HasRoom : Kept → ℕ → ℕ → Type 0
HasRoom m a n = (k : ℕ) → k < n → IsReserved m (wrapped (a + k))

-- what could be written still can be
abbrev pub KeepsRoom : Kept → Kept → Type 0
KeepsRoom old new = (a : ℕ) → IsReserved old a → IsReserved new a

-- no byte can be written
abbrev pub HasNoRoom : Kept → Type 0
HasNoRoom m = (a : ℕ) → IsReserved m a → ⊥

-- An address lies in a page of 256 that has none of n bytes from a up, and none of these writes.
abbrev pub IsApart : ℕ → ℕ → ℕ → Type 0
IsApart a n x = HasNone a n (x / 256)

abbrev pub IsApartFrom : List (ℕ × ℕ) → ℕ → Type 0
IsApartFrom ps x = AllByRecursion (λ p. p.0 / 256 ≢ x / 256) ps

-- Room is made for the pages of n bytes from a up alone: what lies in another page can be written only where it could.
abbrev pub AddsRoomOnly : Kept → Kept → ℕ → ℕ → Type 0
AddsRoomOnly old new a n = (x : ℕ) → IsApart a n x → IsReserved new x → IsReserved old x

-- a memory of zeros
abbrev pub no_memory : Memory
no_memory = record { bytes = λ _. 0; mcon = λ _. 0 }
