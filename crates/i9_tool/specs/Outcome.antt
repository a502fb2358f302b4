-- What the command answers and prints, for its words and files.
use Rattle.std.specs.Prelude.{◌≡◌, ◌≢◌, ◌⊎◌, ◌<◌, ◌≤◌, ℕ, List, [], length, map, String, Option, Some, None, Ok, Err}
use Rattle.std.specs.String.{string_bytes}
use Rattle.std.specs.Io.KnownBytes.{Appends}
use Rattle.i9_text.specs.Text.{lines_of}
use Rattle.i9_model.specs.declared.event.Timed.{Timed}
use Rattle.i9_model.specs.Given.{Given, given}
use Rattle.i9_model.specs.declared.run.End.{End}
use Rattle.i9_model.specs.Run.{Record, state_after, Finish, reached_in}
use Rattle.i9_model.specs.PrintedText.{end_code}
use Rattle.i9_model.specs.Image.{Part, pairs_of}
use Rattle.i9_model.specs.Writes.{last_put}
use Rattle.i9_isa.specs.declared.inst.Inst.{Inst}
use Rattle.i9_tune.specs.declared.block.BlockFault.{BlockFault}
use Rattle.i9_tune.specs.Reading.{block_at}
use Rattle.i9_tune.specs.Tuning.{fault_line as block_fault_line, IsTuning}
use Rattle.i9_model.specs.declared.layout.TheConstants.{MAX_LENGTH}
use Rattle.i9_course.specs.PipelinedRun.{IsPipelinedRun}
use Rattle.i9_hex.specs.Writing.{hex_text}
use Rattle.i9_hex.specs.Runs.{AreRuns}
use Rattle.i9_elf.specs.Written.{most_headers, file_of}
use Rattle.i9_asm.specs.Laws.{IsAssembly}
use Rattle.i9_asm.specs.Listing.{IsListing}
use Rattle.i9_model.specs.ScheduleText.{Contents, IsSchedule, IsByCounts}
use Rattle.i9_schedule.specs.declared.command.Command.{Command as ScriptCommand}
use Rattle.i9_tool.specs.FileKinds.{File, names}
use Rattle.i9_tool.specs.CommandLine.{Command, files_of, command_of, words_line, segments_line}
use Rattle.i9_tool.specs.Refusals.{Refusal, refusal_line, refusal_code, FirstRefusal}
use Rattle.i9_tool.specs.Inputs.{Inputs, AreRead, ToLength, ByCommands, task_of}
use Rattle.i9_tool.specs.Inputs.{Task, Runs, Assembles, Lists, Generates, Tunes}
use Rattle.i9_tool.specs.Fetches.{rose_in}
use Rattle.i9_lines.specs.Lines.{generated_line}
use Rattle.i9_debug.specs.Session.{Place, at, IsText, end_at}
use Rattle.i9_tool.specs.declared.words.Format.{Format}
use Rattle.i9_tool.specs.declared.words.Format.TheVariants as formats
use Rattle.i9_tool.specs.declared.words.Range.{Range}
use Rattle.i9_tool.specs.Traced.{headed_text}
use Rattle.i9_generator.specs.Generator.{generated_source, generated_schedule}
use Rattle.i9_lines.specs.declared.print.Printed.{Printed}
use Rattle.i9_lines.specs.declared.print.Printed.TheVariants as printed
use Rattle.i9_lines.specs.Print.{Account, CountsUpTo, Takes, TakesFront, TakesFirst, lines_in, counted_on}
use Rattle.i9_outside.specs.Counts.{Rose}
use Rattle.i9_outside.specs.Traits.{IsFile, AppendsFront}

-- ---- the status and the text, where no write fails and memory isn't refused

-- The run of an image with the events of a schedule is printed to its end behind the line of the schedule's version,
-- and what is traced of it. The results of this run land late: it is the run of the machine that does one instruction
-- after the other, but that an arithmetic fault which the next instruction overtakes ends it, named as imprecise.
pub data RunGives (sets : Option ℕ) (limit : ℕ) (traced : Option Range) (pairs : List (ℕ × ℕ)) (c : Contents)
    : ℕ → List ℕ → Type 0 where
  runs : (records : List Record) (f : Finish) → IsPipelinedRun (given pairs c.events limit sets) records f
      → RunGives sets limit traced pairs c (end_code f.end)
      (headed_text c.version traced (given pairs c.events limit sets) records f)

-- the status for a run that has come so far: that of its end, where that was reached
abbrev pub driven_code : Option End → ℕ
driven_code None = 0
driven_code (Some end) = end_code end

-- The commands of a script are done from the first turn of the run of an image with these events, and what they print
-- is printed.
pub data ScriptGives (sets : Option ℕ) (pairs : List (ℕ × ℕ)) (events : List Timed) (commands : List ScriptCommand)
    : ℕ → List ℕ → Type 0 where
  drives : (text : List ℕ) (last : Place) → IsText (given pairs events MAX_LENGTH sets) commands (at [] 1) text last
      → ScriptGives sets pairs events commands (driven_code (end_at last)) text

-- Segments are printed in a format: as Intel HEX text, or as the ELF file of the runs of their bytes, unless these are
-- more than it has headers.
pub data AsmGives : Format → List Part → ℕ → List ℕ → Type 0 where
  as_hex : (image : List Part) → AsmGives formats.Hex image 0 (hex_text image)
  as_elf : (image runs : List Part) → AreRuns image runs → length runs ≤ most_headers
      → AsmGives formats.Elf image 0 (file_of runs)
  too_many_runs : (image runs : List Part) → AreRuns image runs → most_headers < length runs
      → AsmGives formats.Elf image 3 segments_line

-- the listing of an image is printed
pub data DisGives (pairs : List (ℕ × ℕ)) : ℕ → List ℕ → Type 0 where
  listed : (image : List Part) (text : List ℕ) → pairs_of image ≡ pairs → IsListing image text → DisGives pairs 0 text

-- The block of so many instructions that stands in an image from an address on is tuned, and its text is printed; or
-- the line of its first instruction at fault is.
pub data TuneGives (a n : ℕ) (pairs : List (ℕ × ℕ)) : ℕ → List ℕ → Type 0 where
  no_block : (fault : BlockFault) → block_at (last_put pairs) n a ≡ Err fault
      → TuneGives a n pairs 3 (block_fault_line fault)
  tuned : (block : List Inst) (text : List ℕ) → block_at (last_put pairs) n a ≡ Ok block → IsTuning a block text
      → TuneGives a n pairs 0 text

-- the line of what the run of the job of a number comes to
abbrev pub job_line : ℕ → Given → List Record → Finish → List ℕ
job_line number g records f =
    generated_line number (state_after g records).count (length (reached_in g records f)) f.end

-- The run of the source and the schedule that are made from a number, whose results land late, is made to its end, and
-- a line says what it comes to.
pub data GenGives (number : ℕ) (sets : Option ℕ) : ℕ → List ℕ → Type 0 where
  job_runs : (image : List Part) (c : Contents) (records : List Record) (f : Finish)
      → IsAssembly (lines_of (generated_source number)) image → IsSchedule (lines_of (generated_schedule number)) c
      → IsPipelinedRun (given (pairs_of image) c.events MAX_LENGTH sets) records f
      → GenGives number sets (end_code f.end)
      (job_line number (given (pairs_of image) c.events MAX_LENGTH sets) records f)

-- what is done gives a status and a text
abbrev pub TaskGives : Task → ℕ → List ℕ → Type 0
TaskGives (Runs pairs plan sets (ToLength limit traced)) = RunGives sets limit traced pairs plan
TaskGives (Runs pairs plan sets (ByCommands commands)) = ScriptGives sets pairs plan.events commands
TaskGives (Assembles format image) = AsmGives format image
TaskGives (Lists pairs) = DisGives pairs
TaskGives (Generates number sets) = GenGives number sets
TaskGives (Tunes pairs a n) = TuneGives a n pairs

-- What a command gives: its files are refused for the first refusal in their order, or all are read, and what it asks
-- to do with them is done. `told` says the files that are told, and `rose` of which names the count of faults rose.
pub data CommandGives (told : List ℕ → Option (List ℕ)) (rose : List ℕ → Type 0) (c : Command)
    : ℕ → List ℕ → Type 0 where
  refused : (r : Refusal) → FirstRefusal told rose (files_of c) r
      → CommandGives told rose c (refusal_code r) (refusal_line r)
  done : (said : Inputs (files_of c)) (code : ℕ) (text : List ℕ) → AreRead told (files_of c) said
      → TaskGives (task_of c said) code text → CommandGives told rose c code text

-- each event of the schedule that the words name happens after so many instructions, whatever that file is
abbrev pub IsCountedSchedule : (List ℕ → Option (List ℕ)) → Option (List ℕ) → Type 0
IsCountedSchedule told None = Unit {0}
IsCountedSchedule told (Some name) =
    (file : List ℕ) (c : Contents) → IsFile (told name) file → IsSchedule (lines_of file) c → IsByCounts c.events

-- The status and the text for what the words ask for.
pub data Gives (told : List ℕ → Option (List ℕ)) (rose : List ℕ → Type 0) : Option Command → ℕ → List ℕ → Type 0 where
  in_no_form : Gives told rose None 1 words_line
  in_form : (c : Command) (code : ℕ) (text : List ℕ) → CommandGives told rose c code text
      → Gives told rose (Some c) code text

-- ---- the same for a call of the command

-- the command that words ask for
abbrev pub asked_for : {Z : Type 0} → List (String Z) → Option Command
asked_for words = command_of (map string_bytes words)

-- the files that a command names, in the order in which they are read
abbrev pub files_for : Option Command → List File
files_for None = []
files_for (Some c) = files_of c

-- their names
abbrev pub names_of : Option Command → List (List ℕ)
names_of asked = names (files_for asked)

-- what the words give, by the files before the call and the counts that rose in it
abbrev pub Outcomes : {F Z : Type 0} → (F → List ℕ → Option (List ℕ)) → (F → List ℕ → ℕ) → F → F → List (String Z)
    → ℕ → List ℕ → Type 0
Outcomes told faults old new words code text = Gives (told old) (rose_in faults old new) (asked_for words) code text

-- The status and its text were given whole, by as many writes as the text has lines, each of which took one of them; or
-- a front of a text that could have been, perhaps nothing of it, by at most as many.
pub record GivesWhole {K : Type 0} (gives : ℕ → List ℕ → Type 0) (code : ℕ) (k : Account K) (old new : K) : Type 0 where
  pub text : List ℕ
  pub is_given : gives code text
  pub appended : Appends (k.told old) (k.told new) text
  pub lines : k.writes new ≡ counted_on (k.writes old) (length (lines_in text))
  pub pieces : Takes k.pieces (lines_in text) old new

pub record GivesFront {K : Type 0} (gives : ℕ → List ℕ → Type 0) (k : Account K) (old new : K) : Type 0 where
  pub code : ℕ
  pub text : List ℕ
  pub is_given : gives code text
  pub appended : AppendsFront (k.told old) (k.told new) text
  pub lines : CountsUpTo (length (lines_in text)) (k.writes old) (k.writes new)
  pub pieces : TakesFront k.pieces (lines_in text) old new ⊎ TakesFirst k.pieces (lines_in text) old new

-- What a call does that answers a status of these on a sink: 6 where a write failed and 7 where memory was refused.
pub record Answers {K : Type 0} (gives : ℕ → List ℕ → Type 0) (code : ℕ) (k : Account K) (old new : K) : Type 0 where
  pub known : code < 8
  pub whole : code < 6 → GivesWhole gives code k old new
  pub front : 6 ≤ code → GivesFront gives k old new
  pub write : code ≡ 6 → Rose (k.faults old) (k.faults new)
  pub failed : k.faults old < k.faults new → code ≡ 6
  pub calm : ((c : ℕ) (t : List ℕ) → gives c t → k.sure old (length t)) → (code ≢ 6) × (k.faults new ≡ k.faults old)

-- the status for a text that was printed so
abbrev pub code_for : Printed → ℕ → ℕ
code_for printed.Done code = code
code_for printed.Write code = 6
code_for printed.Memory code = 7

-- this status and this text, and no other
abbrev pub Only : ℕ → List ℕ → ℕ → List ℕ → Type 0
Only code text c t = (c ≡ code) × (t ≡ text)

-- some status and text are given
abbrev pub SomeFor : (ℕ → List ℕ → Type 0) → Type 0
SomeFor gives = (code : ℕ) × (text : List ℕ) × gives code text

-- what a call does that answers a status of these, where there is one
abbrev pub AnswersSome : {K : Type 0} → (ℕ → List ℕ → Type 0) → ℕ → Account K → K → K → Type 0
AnswersSome gives code k old new = SomeFor gives → Answers gives code k old new
