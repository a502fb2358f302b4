-- The files of the runtime.
use Rattle.std.specs.Prelude.{ℕ, List, Option, None}
use Rattle.i9_system.specs.declared.real.RealFiles.{RealFiles}

-- how many faults were met, at any name
abbrev pub fault_count : {O : Type 0} → RealFiles O → ℕ
fault_count f = f.faults

-- how many fetches were begun, of any name
abbrev pub fetch_count : {O : Type 0} → RealFiles O → ℕ
fetch_count f = f.fetches

-- what opens them
abbrev pub opener_of : {O : Type 0} → RealFiles O → O
opener_of f = f.from

-- the system tells no bytes of its files
abbrev pub told_bytes : {O : Type 0} → RealFiles O → List ℕ → Option (List ℕ)
told_bytes f name = None
