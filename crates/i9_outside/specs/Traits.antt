-- What the calls of files and of a sink do, and why they fail.
use Rattle.std.specs.Prelude.{◌≡◌, ℕ, ◌+◌, ◌<◌, ◌≤◌, List, [], ◌∷◌, ◌++◌, length, flat_map, Option, Some, None}
use Rattle.std.specs.Io.KnownBytes.{Appends}
use Rattle.i9_outside.specs.declared.traits.TheConstants.{FILE_LIMIT}
use Rattle.i9_outside.specs.declared.traits.Fetch.{Fetch}
use Rattle.i9_outside.specs.declared.traits.Fetch.TheVariants as fetches
use Rattle.i9_outside.specs.declared.traits.Wrote.{Wrote}
use Rattle.i9_outside.specs.declared.traits.Wrote.TheVariants as writes
use Rattle.i9_outside.specs.Counts.{Rose}

-- the bytes grow by a front of the piece
pub record GrowsByFront (old new piece : List ℕ) : Type 0 where
  pub front : List ℕ
  pub rest : List ℕ
  pub parts : front ++ rest ≡ piece
  pub grows : new ≡ old ++ front

-- the same of bytes that may not be told
pub record AppendsFront (old new : Option (List ℕ)) (piece : List ℕ) : Type 0 where
  pub front : List ℕ
  pub rest : List ℕ
  pub parts : front ++ rest ≡ piece
  pub grows : Appends old new front

-- what a fetch of a file leaves in the buffer, by its answer
abbrev pub FetchLeaves : Fetch → List ℕ → List ℕ → List ℕ → Type 0
FetchLeaves fetches.Ok file old new = (length file ≤ FILE_LIMIT) × (new ≡ old ++ file)
FetchLeaves (fetches.TooLong n) file old new = (FILE_LIMIT < length file) × (n ≡ FILE_LIMIT + 1)
    × GrowsByFront old new file
FetchLeaves fetches.Failed file old new = GrowsByFront old new file
FetchLeaves fetches.Memory file old new = GrowsByFront old new file

-- the file is the one that is told, where one is told
abbrev pub IsFile : Option (List ℕ) → List ℕ → Type 0
IsFile None file = Unit {0}
IsFile (Some told) file = file ≡ told

-- some file was fetched; where one is told, it is that one
pub record Fetches (answer : Fetch) (told : Option (List ℕ)) (old new : List ℕ) : Type 0 where
  pub file : List ℕ
  pub is_file : IsFile told file
  pub leaves : FetchLeaves answer file old new

-- the count of the name's faults rises exactly where the answer is `Failed`
abbrev pub FetchCause : Fetch → ℕ → ℕ → Type 0
FetchCause fetches.Failed before now = Rose before now
FetchCause fetches.Ok before now = now ≡ before
FetchCause (fetches.TooLong n) before now = now ≡ before
FetchCause fetches.Memory before now = now ≡ before

-- what a write of a piece does to the bytes
abbrev pub Writes : Wrote → List ℕ → Option (List ℕ) → Option (List ℕ) → Type 0
Writes writes.Ok piece old new = Appends old new piece
Writes writes.Failed piece old new = AppendsFront old new piece

-- the count of faults rises exactly where the answer is `Failed`
abbrev pub WriteCause : Wrote → ℕ → ℕ → Type 0
WriteCause writes.Failed before now = Rose before now
WriteCause writes.Ok before now = now ≡ before

-- the bytes are told, and end with those of these pieces
abbrev pub EndsWithPieces : Option (List ℕ) → List (List ℕ) → Type 0
EndsWithPieces None pieces = ⊥
EndsWithPieces (Some bytes) pieces =
    (before : List ℕ) × (bytes ≡ before ++ flat_map (λ piece. piece) pieces)

-- A piece was taken by one call. It stands behind those that were taken by the calls before.
abbrev pub TakesPiece : {K : Type 0} → (K → List (List ℕ) → Type 0) → Wrote → List ℕ → K → K → Type 0
TakesPiece taken writes.Ok piece old new =
    (pieces : List (List ℕ)) → taken old pieces → taken new (pieces ++ piece ∷ [])
TakesPiece taken writes.Failed piece old new = (front : List ℕ) × (rest : List ℕ) × (front ++ rest ≡ piece)
    × ((pieces : List (List ℕ)) → taken old pieces → taken new (pieces ++ front ∷ []))
