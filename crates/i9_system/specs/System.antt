-- Calls of the system, one after the other: which ones a fetch and a write are made of.
use Rattle.std.specs.Prelude.{◌≡◌, ◌≢◌, ◌⊎◌, ◌<◌, ℕ, List, [], ◌∷◌, ◌++◌, length, take, drop, flat_map}
use Rattle.std.specs.Prelude.{Option, Some, None, Result, Ok, Err}
use Rattle.i9_outside.specs.declared.traits.Fetch.{Fetch}
use Rattle.i9_outside.specs.declared.traits.Fetch.TheVariants as fetches
use Rattle.i9_outside.specs.declared.traits.Wrote.{Wrote}
use Rattle.i9_outside.specs.declared.traits.Wrote.TheVariants as writes

-- the bytes that a read gave, or none where it failed
abbrev pub read_piece : {E : Type 0} → Result ℕ E → List ℕ → Option (List ℕ)
read_piece (Ok n) buf = Some (take n buf)
read_piece (Err e) buf = None

-- how many bytes a write took, or none where it failed
abbrev pub ok_value : {E : Type 0} → Result ℕ E → Option ℕ
ok_value (Ok n) = Some n
ok_value (Err e) = None

-- `reads` says what a read may give.
module _ {F : Type 0} (reads : F → Option (List ℕ) → F → Type 0) where
  -- reads of these pieces, each of which has a byte, one after the other from one state of a reader to another
  abbrev pub ReadsOf : F → List (List ℕ) → F → Type 0
  ReadsOf before [] after = after ≡ before
  ReadsOf before (piece ∷ pieces) after =
      (next : F) × (0 < length piece) × reads before (Some piece) next × ReadsOf next pieces after

  -- The reads of a fetch, whose pieces went into the buffer. It ends at the first read that fails or gives nothing, at
  -- a piece for which memory was refused, or behind the limit.
  abbrev pub ReadsTo : Fetch → F → List (List ℕ) → F → Type 0
  ReadsTo fetches.Ok before pieces after =
      (last : F) × ReadsOf before pieces last × reads last (Some []) after
  ReadsTo fetches.Failed before pieces after =
      (last : F) × ReadsOf before pieces last × reads last None after
  ReadsTo (fetches.TooLong n) before pieces after = ReadsOf before pieces after
  ReadsTo fetches.Memory before pieces after =
      (last : F) × (lost : List ℕ) × ReadsOf before pieces last × reads last (Some lost) after

  -- the reads of a fetch, and what the buffer holds by them
  abbrev pub ReadsInto : Fetch → F → F → List ℕ → List ℕ → Type 0
  ReadsInto answer before after old new =
      (pieces : List (List ℕ)) × ReadsTo answer before pieces after × (new ≡ old ++ flat_map (λ piece. piece) pieces)

-- `opens` says which file an open of a name may give, and `reads` what a read of a file may.
module _ {O F : Type 0} (opens : O → List ℕ → Option F → O → Type 0) (reads : F → Option (List ℕ) → F → Type 0) where
  -- One open of the name, and the reads of the file that it gave; where it gave none, the fetch failed.
  abbrev pub FetchCalls : Fetch → List ℕ → O → O → List ℕ → List ℕ → Type 0
  FetchCalls answer name before after old new =
      (opens before name None after × (answer ≡ fetches.Failed) × (new ≡ old))
      ⊎ ((file : F) × (end : F) × opens before name (Some file) after × ReadsInto reads answer file end old new)

-- a write took nothing, or failed
abbrev pub TookNothing : Option ℕ → Type 0
TookNothing None = Unit {0}
TookNothing (Some n) = n ≡ 0

-- `calls` says how many bytes of a piece a write may take.
module _ {W : Type 0} (calls : W → List ℕ → Option ℕ → W → Type 0) where
  -- writes that take so many bytes each, at least one, one after the other from a piece on to its rest
  abbrev pub WritesOf : W → List ℕ → List ℕ → W → List ℕ → Type 0
  WritesOf before piece [] after rest = (after ≡ before) × (rest ≡ piece)
  WritesOf before piece (n ∷ ns) after rest =
      (next : W) × (0 < n) × calls before piece (Some n) next × WritesOf next (drop n piece) ns after rest

  -- the writes of a piece: until nothing is left, or up to one that fails or takes nothing of what is left
  abbrev pub WriteCalls : Wrote → List ℕ → W → W → Type 0
  WriteCalls writes.Ok piece before after = (counts : List ℕ) × WritesOf before piece counts after []
  WriteCalls writes.Failed piece before after = (counts : List ℕ) × (last : W) × (rest : List ℕ) × (taken : Option ℕ)
      × WritesOf before piece counts last rest × (rest ≢ []) × TookNothing taken × calls last rest taken after
