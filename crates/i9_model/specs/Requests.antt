-- What software asks for: the first bytes of the interrupt table have a bit for each priority and one for each vector.
use Rattle.std.specs.Prelude.{ℕ, ◌+◌, ◌/◌, ◌%◌, ◌^◌, bit_and, bit_or, List, [], ◌∷◌, Option}
use Rattle.i9_model.specs.declared.interrupts.TheConstants.{PENDING_VECTORS}
use Rattle.i9_model.specs.Writes.{wrapped}
use Rattle.i9_model.specs.Memory.{Memory}
use Rattle.i9_model.specs.State.{Frames}
use Rattle.i9_model.specs.Hazards.{or_else, read_hazard, write_hazard, port_hazard}
use Rattle.i9_model.specs.Numbers.{complement}

-- ---- bits

-- a word with one more bit
abbrev pub with_bit : ℕ → ℕ → ℕ
with_bit w k = bit_or w (2 ^ k)

-- a word without a bit
abbrev pub without_bit : ℕ → ℕ → ℕ
without_bit w k = bit_and w (complement (2 ^ k))

-- ---- places

abbrev pub vector_priority : ℕ → ℕ
vector_priority v = v / 8

-- software asks for a vector by a bit for its priority and a bit of its own, in the first bytes of the interrupt table
abbrev pub priority_place : ℕ → ℕ → ℕ
priority_place table v = wrapped (table + vector_priority v / 8)

abbrev pub pending_place : ℕ → ℕ → ℕ
pending_place table v = wrapped (table + (PENDING_VECTORS + v / 8))

-- ---- a request

abbrev pub byte_hazard : Frames → ℕ → Option ℕ
byte_hazard f a = or_else (write_hazard f a 1) (port_hazard a 1)

-- both bytes are read, and then both are written
unfoldable pub request_hazard : Frames → ℕ → ℕ → Option ℕ
request_hazard f table v =
    or_else (read_hazard f (priority_place table v) 1)
    (or_else (read_hazard f (pending_place table v) 1)
    (or_else (byte_hazard f (priority_place table v)) (byte_hazard f (pending_place table v))))

-- with their bits set
unfoldable pub request_writes : Memory → ℕ → ℕ → List (ℕ × ℕ)
request_writes m table v =
    (priority_place table v, with_bit (m.bytes (priority_place table v)) (vector_priority v % 8))
    ∷ (pending_place table v, with_bit (m.bytes (pending_place table v)) (v % 8)) ∷ []
