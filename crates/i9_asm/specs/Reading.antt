-- What the assembler keeps and answers.
use Rattle.std.specs.Prelude.{◌≡◌, ℕ, ◌<◌, ◌++◌, List, [], length, Option, Some, None, Result, Ok, Err}
use Rattle.std.specs.List.{flat_map}
use Rattle.std.specs.Int.{w32, to_le_bytes}
use Rattle.i9_statement.specs.Known.{definitions}
use Rattle.i9_model.specs.Image.{Part}
use Rattle.i9_statement.specs.declared.fault.Fault.{Fault}
use Rattle.i9_statement.specs.Noted.{kind_of}
use Rattle.i9_statement.specs.Values.{Names}
use Rattle.i9_statement.specs.Known.{known_in, values_of}
use Rattle.i9_statement.specs.Codes.{Stands}
use Rattle.i9_asm.specs.declared.strings.First as code
use Rattle.i9_asm.specs.declared.strings.First.TheVariants.{Character, End, Malformed}
use Rattle.i9_asm.specs.declared.places as code_places
use Rattle.i9_asm.specs.declared.naming as code_naming
use Rattle.i9_asm.specs.declared.source as code_source
use Rattle.i9_asm.specs.declared.source.LineError.{LineError}
use Rattle.i9_asm.specs.declared.source.LineError.TheVariants as lines
use Rattle.i9_asm.specs.declared.error.AsmFault.{AsmFault}
use Rattle.i9_asm.specs.declared.error.AsmError.{AsmError}
use Rattle.i9_asm.specs.declared.error.AsmError.TheVariants.{Bad, Memory}
use Rattle.i9_asm.specs.Lines.{Item}
use Rattle.i9_asm.specs.Strings.{characters, before_characters}
use Rattle.i9_asm.specs.Places.{Place, past_item, past_line, size_of, moved_to}
use Rattle.i9_asm.specs.Source.{Source, Gives, Assembles, item_fault, line_fault, begun, past_source}

-- ---- a string

-- what stands first behind an opening quote
abbrev pub IsFirst : List ℕ → code.First → Type 0
IsFirst s (Character c rest) = (characters s ≡ before_characters (Some c) (characters rest.now))
    × (length rest.now < length s)
IsFirst s End = characters s ≡ Some []
IsFirst s Malformed = characters s ≡ None

-- ---- a line

-- the place that the code has
abbrev pub place_of : code_places.Place.Place → Place
place_of p = record { location = p.location; known = known_in p.known }

-- the place of the first pass
abbrev pub naming_place : code_naming.Naming.Naming → Place
naming_place n = record { location = n.location; known = values_of (definitions n.table) }

-- what stands before, and bytes that an item gives
pub record Adds (names : Names) (p : Place) (item : Item) (old new : List ℕ) : Type 0 where
  pub bytes : List ℕ
  pub gives : Gives names p item bytes
  pub same : new ≡ old ++ bytes

-- what stands before, and the words of a statement, low bytes first
pub record AddsWords (names : Names) (ip : ℕ) (s old new : List ℕ) : Type 0 where
  pub words : List ℕ
  pub stands : Stands names ip s words
  pub same : new ≡ old ++ flat_map (to_le_bytes w32) words

-- the source that the code has, where these names are known
abbrev pub source_at : Names → code_source.Source.Source → Source
source_at known s = record {
  place = record { location = s.location; known = known };
  segments = s.segments;
  address = s.address;
  bytes = s.bytes.items;
  total = s.total;
}

-- the bytes that an item adds to a source, its fault, and how many bytes it counts
pub record GrowsBy (names : Names) (s : Source) (item : Item) (g : code_source.Grown.Grown) : Type 0 where
  pub same : source_at s.place.known g.source
      ≡ record (begun (moved_to s.place item) s) { bytes = g.source.bytes.items }
  pub fault : g.fault ≡ item_fault names s.place item
  pub size : g.size ≡ size_of s.place item
  pub adds : item_fault names s.place item ≡ None
      → Adds names s.place item (begun (moved_to s.place item) s).bytes g.source.bytes.items

-- an item leads from one source to the next
pub record Grows (names : Names) (s : Source) (item : Item) (t : Source) : Type 0 where
  pub bytes : List ℕ
  pub gives : Gives names s.place item bytes
  pub after : t ≡ past_source s (past_item s.place item) item bytes

-- the error is this fault, or want of memory
abbrev pub Faults : LineError → Option Fault → Type 0
Faults lines.Memory fault = Unit {0}
Faults (lines.Bad f) fault = fault ≡ Some f

-- the source is one that the item leads to, where there is no fault, else the error is the fault, or want of memory
abbrev pub Continues : Names → Source → Item → Option Fault → Result code_source.Source.Source LineError → Type 0
Continues names s item fault (Ok t) = (fault ≡ None) × Grows names s item (source_at (past_item s.place item).known t)
Continues names s item fault (Err e) = Faults e fault

-- the source is one that the line leads to, else the error is the line's fault, or want of memory
abbrev pub Takes : Names → Source → List ℕ → Result code_source.Source.Source LineError → Type 0
Takes names s line (Ok t) = Assembles names s line (source_at (past_line s.place line).known t)
Takes names s line (Err e) = Faults e (line_fault names s line)

-- the error of a source, for the line of this number
abbrev pub error_at : LineError → ℕ → AsmError
error_at lines.Memory number = Memory
error_at (lines.Bad f) number = Bad (record { line = number; kind = kind_of f })

-- ---- a source

-- the line and kind of a fault
abbrev pub fault_place : AsmFault → ℕ × ℕ
fault_place f = (f.line, f.kind)

-- the error is this fault, or want of memory
abbrev pub Refuses : AsmError → Result (List Part) (ℕ × ℕ) → Type 0
Refuses Memory answer = Unit {0}
Refuses (Bad f) answer = answer ≡ Err (fault_place f)

-- the result is this answer, segments or a first fault, or want of memory
abbrev pub Answers : Result (List Part) AsmError → Result (List Part) (ℕ × ℕ) → Type 0
Answers (Ok image) answer = answer ≡ Ok image
Answers (Err e) answer = Refuses e answer

-- the fact holds of the fault, where the error is one
abbrev pub IfBad : AsmError → (AsmFault → Type 0) → Type 0
IfBad Memory P = Unit {0}
IfBad (Bad f) P = P f
