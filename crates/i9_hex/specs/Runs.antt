-- The maximal runs of the bytes that an image says.
use Rattle.std.specs.Prelude.{◌≡◌, ⊤, ℕ, ◌+◌, ◌^◌, ◌<◌, ◌≤◌, List, [], ◌∷◌, length}
use Rattle.std.specs.List.{AllByRecursion}
use Rattle.i9_model.specs.Writes.{last_put}
use Rattle.i9_model.specs.Image.{Part, pairs_of}

-- bytes
abbrev pub IsLow : List ℕ → Type 0
IsLow bs = AllByRecursion (λ b. b < 256) bs

-- a run of bytes in the address space
pub record IsRun (run : Part) : Type 0 where
  pub inside : run.address + length run.bytes ≤ 2 ^ 32
  pub some : 0 < length run.bytes
  pub low : IsLow run.bytes

-- how many bytes runs have
abbrev pub bytes_in : List Part → ℕ
bytes_in [] = 0
bytes_in (run ∷ runs) = length run.bytes + bytes_in runs

-- pairs that say the same byte of each address, or none
abbrev pub SaySameBytes : List (ℕ × ℕ) → List (ℕ × ℕ) → Type 0
SaySameBytes pairs others = (a : ℕ) → last_put others a ≡ last_put pairs a

-- between each run and those behind it there is at least one address
abbrev pub AreApart : List Part → Type 0
AreApart [] = ⊤
AreApart (run ∷ runs) = AllByRecursion (λ later. run.address + length run.bytes < later.address) runs × AreApart runs

-- The maximal runs of the bytes that pairs say, in ascending order. The addresses between two of them have no byte, so
-- none can be longer; what goes on from FFFFFFFF to 0 is two runs.
pub record AreRunsOf (pairs : List (ℕ × ℕ)) (runs : List Part) : Type 0 where
  pub each : AllByRecursion IsRun runs
  pub apart : AreApart runs
  pub same : SaySameBytes pairs (pairs_of runs)

-- those of an image
abbrev pub AreRuns : List Part → List Part → Type 0
AreRuns image runs = AreRunsOf (pairs_of image) runs
