-- Files by what they are to be: what each says, and which fault it has.
use Rattle.std.specs.Prelude.{ℕ, ◌%◌, ◌<◌, ◌≤◌, List, length, map, codes, Option}
use Rattle.std.specs.List.{AllByRecursion}
use Rattle.i9_text.specs.Text.{lines_of}
use Rattle.i9_elf.specs.Images.{Fault, AtLine, OfElf, IsImage, IsRefused}
use Rattle.i9_lines.specs.Lines.{refused_line, elf_line}
use Rattle.i9_model.specs.ScheduleText.{Contents, IsSchedule, IsRefused as IsRefusedSchedule}
use Rattle.i9_model.specs.Image.{Part}
use Rattle.i9_asm.specs.Laws.{IsAssembly, IsRefusedSource}
use Rattle.i9_schedule.specs.ScriptText.{IsScript, IsRefused as IsRefusedScript}
use Rattle.i9_schedule.specs.declared.command.Command.{Command}
use Rattle.i9_outside.specs.declared.traits.TheConstants.{FILE_LIMIT}
use Rattle.i9_outside.specs.Traits.{IsFile}
use Rattle.i9_tool.specs.declared.refusal.FileKind.{FileKind}
use Rattle.i9_tool.specs.declared.refusal.FileKind.TheVariants as kinds

-- a file by what it is to be, and its name
pub record File : Type 0 where
  pub kind : FileKind
  pub name : List ℕ

abbrev pub file_of : FileKind → List ℕ → File
file_of kind name = record { kind = kind; name = name }

abbrev pub names : List File → List (List ℕ)
names files = map (λ f. f.name) files

-- what a file says: the addresses of an image with their bytes, the version and events of a schedule, the segments of a
-- source, or the commands of a script
abbrev pub Value : FileKind → Type 0
Value kinds.Image = List (ℕ × ℕ)
Value kinds.Schedule = Contents
Value kinds.Source = List Part
Value kinds.Script = List Command

-- pairs of an address and a byte
abbrev pub AreBytes : List (ℕ × ℕ) → Type 0
AreBytes pairs = AllByRecursion (λ (p : ℕ × ℕ). p.1 < 256) pairs

-- the bytes of a file, of whose numbers each counts modulo 256
abbrev pub octets : List ℕ → List ℕ
octets file = map (λ n. n % 256) file

-- A file says this: an ELF image where it begins as ELF files do, and else the lines of an image in Intel HEX; or the
-- lines of another text.
abbrev pub Says : (kind : FileKind) → List ℕ → Value kind → Type 0
Says kinds.Image file pairs = IsImage (octets file) pairs
Says kinds.Schedule file schedule = IsSchedule (lines_of file) schedule
Says kinds.Source file image = IsAssembly (lines_of file) image
Says kinds.Script file commands = IsScript (lines_of file) commands

-- what a file is refused for: its first line at fault, with the kind, or the first fault of an ELF image
abbrev pub FaultOf : FileKind → Type 0
FaultOf kinds.Image = Fault
FaultOf kinds.Schedule = ℕ × ℕ
FaultOf kinds.Source = ℕ × ℕ
FaultOf kinds.Script = ℕ × ℕ

-- a file has this fault first
abbrev pub IsFaulty : (kind : FileKind) → List ℕ → FaultOf kind → Type 0
IsFaulty kinds.Image file fault = IsRefused (octets file) fault
IsFaulty kinds.Schedule file fault = IsRefusedSchedule (lines_of file) fault
IsFaulty kinds.Source file fault = IsRefusedSource (lines_of file) fault
IsFaulty kinds.Script file fault = IsRefusedScript (lines_of file) fault

-- a file is accepted, and says this
pub record IsAccepted (kind : FileKind) (file : List ℕ) (value : Value kind) : Type 0 where
  pub short : length file ≤ FILE_LIMIT
  pub says : Says kind file value

-- the bytes of a file are those that are told, where it is told, and they are not too many
pub record IsWhole (told : Option (List ℕ)) (bytes : List ℕ) : Type 0 where
  pub is_file : IsFile told bytes
  pub short : length bytes ≤ FILE_LIMIT

-- A file that is told is accepted, and says this.
pub record IsRead (told : List ℕ → Option (List ℕ)) (file : File) (value : Value file.kind) : Type 0 where
  pub bytes : List ℕ
  pub is_file : IsFile (told file.name) bytes
  pub accepted : IsAccepted file.kind bytes value

-- ---- what is answered where one is refused

-- the word for a file
abbrev pub word_of : FileKind → List ℕ
word_of kinds.Image = codes "image"
word_of kinds.Schedule = codes "schedule"
word_of kinds.Source = codes "source"
word_of kinds.Script = codes "script"

-- the line for an image
abbrev pub image_line : Fault → List ℕ
image_line (AtLine fault) = refused_line (word_of kinds.Image) fault
image_line (OfElf kind) = elf_line kind

-- the line for any file
abbrev pub fault_line : (kind : FileKind) → FaultOf kind → List ℕ
fault_line kinds.Image fault = image_line fault
fault_line kinds.Schedule fault = refused_line (word_of kinds.Schedule) fault
fault_line kinds.Source fault = refused_line (word_of kinds.Source) fault
fault_line kinds.Script fault = refused_line (word_of kinds.Script) fault

-- the status
abbrev pub refusal_of : FileKind → ℕ
refusal_of kinds.Image = 2
refusal_of kinds.Schedule = 3
refusal_of kinds.Source = 3
refusal_of kinds.Script = 3
