-- Why the files of a command are refused, which refusal is the first, and what is answered then.
use Rattle.std.specs.Prelude.{ℕ, ◌<◌, ◌≤◌, ◌⊎◌, List, [], ◌∷◌, length, Option}
use Rattle.i9_outside.specs.declared.traits.TheConstants.{FILE_LIMIT}
use Rattle.i9_outside.specs.Traits.{IsFile}
use Rattle.i9_tool.specs.declared.refusal.FileKind.{FileKind}
use Rattle.i9_tool.specs.CommandLine.{read_line, long_line}
use Rattle.i9_tool.specs.FileKinds.{File, Value, FaultOf, IsFaulty, IsRead, word_of, fault_line, refusal_of}

-- A file was not read, it is too long for what it is to be, or it has this fault first.
pub data Refusal : Type 0 where
  Unread : Refusal
  TooLong : (kind : FileKind) → Refusal
  Faulty : (kind : FileKind) → (fault : FaultOf kind) → Refusal

-- the line
abbrev pub refusal_line : Refusal → List ℕ
refusal_line Unread = read_line
refusal_line (TooLong kind) = long_line (word_of kind)
refusal_line (Faulty kind fault) = fault_line kind fault

-- the status
abbrev pub refusal_code : Refusal → ℕ
refusal_code Unread = 5
refusal_code (TooLong kind) = refusal_of kind
refusal_code (Faulty kind fault) = refusal_of kind

-- Why one file is refused: the count of its faults rose, and it was not read; or its bytes are too many, or at fault.
pub data Refuses (told : List ℕ → Option (List ℕ)) (rose : List ℕ → Type 0) (file : File) : Refusal → Type 0 where
  unread : rose file.name → Refuses told rose file Unread
  too_long : (bytes : List ℕ) → IsFile (told file.name) bytes → FILE_LIMIT < length bytes
      → Refuses told rose file (TooLong file.kind)
  faulty : (bytes : List ℕ) (fault : FaultOf file.kind) → IsFile (told file.name) bytes → length bytes ≤ FILE_LIMIT
      → IsFaulty file.kind bytes fault → Refuses told rose file (Faulty file.kind fault)

-- the first refusal of files in order: that of the first of them; or this one is read, and it is the first of the
-- others
abbrev pub FirstRefusal : (List ℕ → Option (List ℕ)) → (List ℕ → Type 0) → List File → Refusal → Type 0
FirstRefusal told rose [] refusal = ⊥
FirstRefusal told rose (file ∷ files) refusal =
    Refuses told rose file refusal
    ⊎ ((value : Value file.kind) × IsRead told file value × FirstRefusal told rose files refusal)
