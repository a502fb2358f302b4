-- What memory with waiting requests stands for.
use Rattle.std.specs.Prelude.{ℕ, List}
use Rattle.i9_model.specs.Memory as model
use Rattle.i9_model.specs.Late.{Wait}
use Rattle.i9_memory.specs.Memory.{memory_of, HasRoom, KeepsRoom, AddsRoomOnly}
use Rattle.i9_queue.specs.declared.behind.Behind.{Behind}
use Rattle.i9_queue.specs.Waits.{settled_over}

-- all that has issued has acted, but for what waits
abbrev pub acted : Behind → model.Memory
acted b = memory_of b.memory

-- the requests that wait, the oldest first
abbrev pub waiting_of : Behind → List Wait
waiting_of b = b.queue

-- memory after all that waits
unfoldable pub settled : Behind → model.Memory
settled b = settled_over (acted b) (waiting_of b)

-- so many bytes from an address up can be written
abbrev pub HasRoomIn : Behind → ℕ → ℕ → Type 0
HasRoomIn b a n = HasRoom b.memory a n

-- what could be written still can be
abbrev pub KeepsRoomIn : Behind → Behind → Type 0
KeepsRoomIn old new = KeepsRoom old.memory new.memory

-- room is made for the pages of n bytes from an address up alone
abbrev pub AddsRoomOnlyIn : Behind → Behind → ℕ → ℕ → Type 0
AddsRoomOnlyIn old new a n = AddsRoomOnly old.memory new.memory a n
