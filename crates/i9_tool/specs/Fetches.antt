-- Which files a call fetches, in which order, and whose count of faults rises.
use Rattle.std.specs.Prelude.{◌≡◌, ◌≢◌, ◌⊎◌, ◌<◌, ◌≤◌, ℕ, List, [], ◌∷◌, ◌++◌, Option, IsSome}
use Rattle.std.specs.List.{AllByRecursion}
use Rattle.i9_outside.specs.Counts.{one_more, Rose}
use Rattle.i9_tool.specs.FileKinds.{File, Value, IsRead, names}
use Rattle.i9_tool.specs.Refusals.{Refusal, Unread, TooLong, Faulty, Refuses, FirstRefusal}

-- What the members of a type of files say: each file, how many faults were met at it, how many fetches were begun, and
-- whether no fetch of it can fail.
pub record Shelf (F : Type 0) : Type 1 where
  pub told : F → List ℕ → Option (List ℕ)
  pub faults : F → List ℕ → ℕ
  pub fetches : F → ℕ
  pub sure : F → List ℕ → Type 0

abbrev pub shelf : {F : Type 0} → (F → List ℕ → Option (List ℕ)) → (F → List ℕ → ℕ) → (F → ℕ) → (F → List ℕ → Type 0)
    → Shelf F
shelf told faults fetches sure = record { told = told; faults = faults; fetches = fetches; sure = sure }

-- what was fetched from: what the members of a type of files say, and the files before and after
pub record Stock (F : Type 0) : Type 1 where
  pub shelf : Shelf F
  pub old : F
  pub new : F

abbrev pub stock : {F : Type 0} → Shelf F → F → F → Stock F
stock shelf old new = record { shelf = shelf; old = old; new = new }

-- the count of a name rose from one state of the files to another
abbrev pub rose_in : {F : Type 0} → (F → List ℕ → ℕ) → F → F → List ℕ → Type 0
rose_in faults old new name = Rose (faults old name) (faults new name)

-- ---- names

-- the count of one of these files rose
abbrev pub AnyRose : (List ℕ → Type 0) → List (List ℕ) → Type 0
AnyRose rose [] = ⊥
AnyRose rose (name ∷ names) = rose name ⊎ AnyRose rose names

-- each of these files is sure to be fetched
abbrev pub AllSure : (List ℕ → Type 0) → List (List ℕ) → Type 0
AllSure sure names = AllByRecursion sure names

-- each of these files is told
abbrev pub AllTold : (List ℕ → Option (List ℕ)) → List (List ℕ) → Type 0
AllTold told names = AllByRecursion (λ name. IsSome (told name)) names

-- ---- one file after the other

-- A file was fetched once. Where its count is greater then, which it is not once it stands at the end of its type, the
-- status is 5, or 6 where a write failed too.
pub record FetchesOnce {F : Type 0} (s : Shelf F) (name : List ℕ) (code : ℕ) (old new : F) : Type 0 where
  pub once : s.fetches new ≡ one_more (s.fetches old)
  pub unread : s.faults old name < s.faults new name → (code ≡ 5) ⊎ (code ≡ 6)

-- no file is fetched behind one where memory was refused, or the one is
abbrev pub EndsAt : {F : Type 0} → Shelf F → File → ℕ → F → F → Type 0
EndsAt s file code old new = (code ≡ 7) ⊎ ((r : Refusal) × Refuses (s.told old) (rose_in s.faults old new) file r)

-- Files were fetched in order, each at most once, and one after another only where that was read.
pub data FetchesFiles {F : Type 0} (s : Shelf F) (code : ℕ) : List File → F → F → Type 0 where
  none_left : (old : F) → FetchesFiles s code [] old old
  ends_at : (file : File) (files : List File) (old new : F) → FetchesOnce s file.name code old new
      → EndsAt s file code old new → FetchesFiles s code (file ∷ files) old new
  goes_on : (file : File) (files : List File) (value : Value file.kind) (old mid new : F)
      → FetchesOnce s file.name code old mid → IsRead (s.told old) file value → FetchesFiles s code files mid new
      → FetchesFiles s code (file ∷ files) old new

-- What a call does that fetches these files and answers a status: 5 only where the count of one of them rose, and not
-- where each is sure to be fetched, and then no count rises.
pub record Fetches {F : Type 0} (s : Shelf F) (code : ℕ) (files : List File) (old new : F) : Type 0 where
  pub order : FetchesFiles s code files old new
  pub read : code ≡ 5 → AnyRose (rose_in s.faults old new) (names files)
  pub calm : AllSure (s.sure old) (names files) → (code ≢ 5) × ((n : List ℕ) → s.faults new n ≡ s.faults old n)

-- ---- the same before a status is known

-- How reading files ended: they were read, they are refused, or memory was.
pub data Stop : Type 0 where
  Read : Stop
  Refused : (refusal : Refusal) → Stop
  NoMemory : Stop

-- the statuses that may follow
abbrev pub Follows : Stop → ℕ → Type 0
Follows Read code = code ≢ 5
Follows (Refused Unread) code = (code ≡ 5) ⊎ (code ≡ 6)
Follows (Refused (TooLong kind)) code = code ≢ 5
Follows (Refused (Faulty kind fault)) code = code ≢ 5
Follows NoMemory code = code ≡ 7

-- what files and status may come behind
abbrev pub Behind : {F : Type 0} → Shelf F → Stop → List File → ℕ → F → F → Type 0
Behind s Read files code mid new = FetchesFiles s code files mid new
Behind s (Refused refusal) files code mid new = (new ≡ mid) × Follows (Refused refusal) code
Behind s NoMemory files code mid new = (new ≡ mid) × (code ≡ 7)

-- a fact of the refusal, where there is one
abbrev pub IfRefused : Stop → (Refusal → Type 0) → Type 0
IfRefused Read P = Unit {0}
IfRefused (Refused refusal) P = P refusal
IfRefused NoMemory P = Unit {0}

-- What fetching a file does, whose reading ended so.
pub record FetchesOne {F : Type 0} (s : Shelf F) (name : List ℕ) (stop : Stop) (old new : F) : Type 0 where
  pub same : (n : List ℕ) → s.told new n ≡ s.told old n
  pub later : (n : List ℕ) → s.faults old n ≤ s.faults new n
  pub stays : (n : List ℕ) → s.sure old n → s.sure new n
  pub once : s.fetches new ≡ one_more (s.fetches old)
  pub unread : s.faults old name < s.faults new name → stop ≡ Refused Unread
  pub calm : s.sure old name → (stop ≢ Refused Unread) × ((n : List ℕ) → s.faults new n ≡ s.faults old n)

-- why a file was not fetched whole
abbrev pub Misses : {F : Type 0} → Shelf F → File → Stop → F → F → Type 0
Misses s file stop old new = IfRefused stop (λ r. Refuses (s.told old) (rose_in s.faults old new) file r)

-- What reading files in order does.
pub record ReadsFiles {F : Type 0} (s : Shelf F) (files : List File) (stop : Stop) (old new : F) : Type 0 where
  pub same : (n : List ℕ) → s.told new n ≡ s.told old n
  pub later : (n : List ℕ) → s.faults old n ≤ s.faults new n
  pub stays : (n : List ℕ) → s.sure old n → s.sure new n
  pub calm : AllSure (s.sure old) (names files)
      → (stop ≢ Refused Unread) × ((n : List ℕ) → s.faults new n ≡ s.faults old n)
  pub order : (others : List File) (code : ℕ) (last : F) → Behind s stop others code new last
      → FetchesFiles s code (files ++ others) old last
  pub first : IfRefused stop (λ r. FirstRefusal (s.told old) (rose_in s.faults old new) files r)
