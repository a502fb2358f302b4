-- The words of the command, and the lines that answer what was refused.
use Rattle.std.specs.Prelude.{ℕ, ◌%◌, Bool, ◌&&◌, ◌==◌, nat_le, if◌then◌else◌}
use Rattle.std.specs.Prelude.{List, [], ◌∷◌, ◌++◌, length, Option, Some, None, codes}
use Rattle.std.specs.Option.{option_map}
use Rattle.std.specs.Str.{bytes_eq}
use Rattle.i9_text.specs.Text.{number_of}
use Rattle.i9_model.specs.declared.layout.TheConstants.{MAX_LENGTH, MOST_SETS}
use Rattle.i9_tool.specs.declared.words.Format.{Format}
use Rattle.i9_tool.specs.declared.words.Format.TheVariants as formats
use Rattle.i9_tool.specs.declared.words.Range.{Range}
use Rattle.i9_tool.specs.declared.refusal.FileKind.TheVariants.{Image, Schedule, Source, Script}
use Rattle.i9_tool.specs.FileKinds.{File, file_of}

-- What drives a run: its length, of at most so many instructions, and then it is printed, and the instructions of a
-- range of addresses or none are traced; or the script of this name.
pub data Driver : Type 0 where
  ByLength : (limit : ℕ) → (traced : Option Range) → Driver
  ByScript : (script : List ℕ) → Driver

-- What the words ask for: to run the image of this name, with the events of the schedule of this name or with none,
-- with so many sets or, where none are asked for, with those of the PRCB, as far as it is driven; to assemble the
-- source of this name and print its image in a format; to list the image of this name; to run, in so many sets, the job
-- that is made from a number; or to tune the block of so many instructions that stands in the image of this name from
-- an address on.
pub data Command : Type 0 where
  Run : (image : List ℕ) → (schedule : Option (List ℕ)) → (sets : Option ℕ) → (driver : Driver) → Command
  Asm : (format : Format) → (source : List ℕ) → Command
  Dis : (image : List ℕ) → Command
  Gen : (number : ℕ) → (sets : Option ℕ) → Command
  Tune : (image : List ℕ) → (address : ℕ) → (count : ℕ) → Command

-- the file of a schedule, where one is named
abbrev pub plan_files : Option (List ℕ) → List File
plan_files None = []
plan_files (Some name) = file_of Schedule name ∷ []

-- the file of a script, where one drives a run
abbrev pub driver_files : Driver → List File
driver_files (ByLength limit traced) = []
driver_files (ByScript script) = file_of Script script ∷ []

-- the files that a command names, in the order in which they are read
abbrev pub files_of : Command → List File
files_of (Run image schedule sets driver) = file_of Image image ∷ plan_files schedule ++ driver_files driver
files_of (Asm format source) = file_of Source source ∷ []
files_of (Dis image) = file_of Image image ∷ []
files_of (Gen number sets) = []
files_of (Tune image address count) = file_of Image image ∷ []

abbrev pub is_dash : List ℕ → Bool
is_dash word = bytes_eq word (codes "-")

-- a number that is there and lies in a range
abbrev pub in_range : ℕ → ℕ → Option ℕ → Option ℕ
in_range low high None = None
in_range low high (Some n) = if nat_le low n && nat_le n high then Some n else None

-- a number of one to ten decimal digits, in a range
abbrev pub number_in : ℕ → ℕ → List ℕ → Option ℕ
number_in low high word = in_range low high (number_of 10 10 word)

-- a number of sets, or `-` where none is asked for
unfoldable pub sets_for : List ℕ → Option (Option ℕ)
sets_for word = if is_dash word then Some None else option_map (λ n. Some n) (number_in 1 MOST_SETS word)

-- the name of a schedule, which isn't empty, or `-` for none
unfoldable pub schedule_for : List ℕ → Option (Option (List ℕ))
schedule_for word = if is_dash word then Some None else if length word == 0 then None else Some (Some word)

-- an address, of one to eight hexadecimal digits of either case
abbrev pub address_of : List ℕ → Option ℕ
address_of word = number_of 16 8 word

-- the range from an address to another one
abbrev pub range_for : Option ℕ → Option ℕ → Option Range
range_for (Some low) (Some high) = Some (record { low = low; high = high })
range_for None high = None
range_for (Some low) None = None

-- a length that drives a run, with what is traced
abbrev pub length_for : Option ℕ → Option Range → Option Driver
length_for (Some limit) traced = Some (ByLength limit traced)
length_for None traced = None

-- a length, with a range that is traced
abbrev pub tracer_for : Option ℕ → Option Range → Option Driver
tracer_for limit (Some range) = length_for limit (Some range)
tracer_for limit None = None

-- a script, whose name isn't empty
abbrev pub script_for : List ℕ → Option Driver
script_for name = if length name == 0 then None else Some (ByScript name)

-- what drives a run, by the name of its form and its last words: `run LENGTH`, `debug SCRIPT`, or
-- `trace LENGTH LOW HIGH`
abbrev pub driver_for : List ℕ → List (List ℕ) → Option Driver
driver_for name (word ∷ []) =
    if bytes_eq name (codes "run") then length_for (number_in 0 MAX_LENGTH word) None
    else if bytes_eq name (codes "debug") then script_for word
    else None
driver_for name (limit ∷ low ∷ high ∷ []) =
    if bytes_eq name (codes "trace")
    then tracer_for (number_in 0 MAX_LENGTH limit) (range_for (address_of low) (address_of high))
    else None
driver_for name _ = None

-- a run whose parts the words say, and whose image has a name that isn't empty
abbrev pub run_for : List ℕ → Option (Option (List ℕ)) → Option (Option ℕ) → Option Driver → Option Command
run_for image (Some schedule) (Some sets) (Some driver) =
    if length image == 0 then None else Some (Run image schedule sets driver)
run_for image None sets driver = None
run_for image (Some schedule) None driver = None
run_for image (Some schedule) (Some sets) None = None

-- the greatest number that a job is made from
abbrev pub most_number : ℕ
most_number = 4294967295

abbrev pub gen_for : Option ℕ → Option (Option ℕ) → Option Command
gen_for (Some number) (Some sets) = Some (Gen number sets)
gen_for None sets = None
gen_for (Some number) None = None

-- the most instructions of a block that is tuned
abbrev pub most_tuned : ℕ
most_tuned = 64

-- the address of an instruction, which is a multiple of 4
abbrev pub of_instruction : Option ℕ → Option ℕ
of_instruction (Some a) = if a % 4 == 0 then Some a else None
of_instruction None = None

-- a block of the image of a name that isn't empty, where no word is behind the number of its instructions
abbrev pub tune_for : List ℕ → Option ℕ → Option ℕ → List (List ℕ) → Option Command
tune_for image (Some address) (Some count) [] = if length image == 0 then None else Some (Tune image address count)
tune_for image address count _ = None

-- a command on the one file of this name
abbrev pub file_for : List ℕ → List ℕ → Option Command
file_for name file =
    if length file == 0 then None
    else if bytes_eq name (codes "asm") then Some (Asm formats.Hex file)
    else if bytes_eq name (codes "asmelf") then Some (Asm formats.Elf file)
    else if bytes_eq name (codes "dis") then Some (Dis file)
    else None

-- `asm SOURCE`, `asmelf SOURCE`, `dis IMAGE`, `gen NUMBER SETS`, `tune IMAGE A N`, `run IMAGE SCHEDULE SETS LENGTH`,
-- `debug IMAGE SCHEDULE SETS SCRIPT`, or `trace IMAGE SCHEDULE SETS LENGTH LOW HIGH`, with names of files that aren't
-- empty
unfoldable pub command_of : List (List ℕ) → Option Command
command_of (name ∷ file ∷ []) = file_for name file
command_of (name ∷ number ∷ sets ∷ []) =
    if bytes_eq name (codes "gen") then gen_for (number_in 0 most_number number) (sets_for sets) else None
command_of (name ∷ image ∷ second ∷ third ∷ last) =
    if bytes_eq name (codes "tune")
    then tune_for image (of_instruction (address_of second)) (number_in 1 most_tuned third) last
    else run_for image (schedule_for second) (sets_for third) (driver_for name last)
command_of _ = None

-- ---- lines that end with a line feed

abbrev pub words_line : List ℕ
words_line = codes "#words\n"

abbrev pub read_line : List ℕ
read_line = codes "#read\n"

-- a source whose bytes stand in more runs than an ELF file has headers
abbrev pub segments_line : List ℕ
segments_line = codes "#source segments\n"

-- a file that is too long, by what it is to be
abbrev pub long_line : List ℕ → List ℕ
long_line what = codes "#" ++ what ++ codes " too long\n"
