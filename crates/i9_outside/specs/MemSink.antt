-- What a sink in memory holds, takes, and which of its calls fail.
use Rattle.std.specs.Prelude.{ℕ, ◌≤◌, List, Some}
use Rattle.i9_outside.specs.declared.memory.MemSink.{MemSink}
use Rattle.i9_outside.specs.Calls.{Plan, plan_of, NoneToFail}
use Rattle.i9_outside.specs.Traits.{EndsWithPieces}

-- the bytes written so far
abbrev pub written_bytes : MemSink → List ℕ
written_bytes s = s.bytes.items

-- how many bytes it still takes
abbrev pub room_left : MemSink → ℕ
room_left s = s.left

-- its calls of `write`
abbrev pub calls_of : MemSink → Plan
calls_of s = plan_of s.calls

-- how many of them failed
abbrev pub fault_count : MemSink → ℕ
fault_count s = (calls_of s).faults

-- how many were made
abbrev pub write_count : MemSink → ℕ
write_count s = (calls_of s).made

-- writes of n bytes in all can't fail: there is room, and no call to come is set to fail
pub record IsSureOf (s : MemSink) (n : ℕ) : Type 0 where
  pub has_room : n ≤ room_left s
  pub none_fails : NoneToFail (calls_of s)

-- its bytes end with those of these pieces
abbrev pub HasPieces : MemSink → List (List ℕ) → Type 0
HasPieces s pieces = EndsWithPieces (Some (written_bytes s)) pieces
