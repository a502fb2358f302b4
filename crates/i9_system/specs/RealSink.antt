-- A sink over a writer.
use Rattle.std.specs.Prelude.{ℕ, List, Option}
use Rattle.i9_system.specs.declared.real.RealSink.{RealSink}
use Rattle.i9_outside.specs.Traits.{EndsWithPieces}

-- how many faults were met
abbrev pub fault_count : {W : Type 0} → RealSink W → ℕ
fault_count s = s.faults

-- how many writes were begun
abbrev pub write_count : {W : Type 0} → RealSink W → ℕ
write_count s = s.writes

-- the writer that it writes to
abbrev pub writer_of : {W : Type 0} → RealSink W → W
writer_of s = s.out

-- the bytes that its writer tells end with those of these pieces
abbrev pub HasPieces : {W : Type 0} → (W → Option (List ℕ)) → RealSink W → List (List ℕ) → Type 0
HasPieces contents s pieces = EndsWithPieces (contents (writer_of s)) pieces
