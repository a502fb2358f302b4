-- What the command answers for its files, and for the words.
use Rattle.std.proofs.Common.{◌≡◌, ℕ, ◌<◌, ◌≤◌, ◌⊎◌, inl, inr, List, [], ◌∷◌, ◌++◌, length, Option, Some, None, Result, Ok, Err, IfOk, refl, sym, ap, ◌∙◌, subst, arith}
use Rattle.std.proofs.lemmas.List.Elements.{recursion_from_All}
use Rattle.i9_text.specs.Text.{lines_of}
use Rattle.i9_model.specs.ScheduleText.{first_version, Contents, IsSchedule}
use Rattle.i9_model.specs.declared.event.Timed.{Timed}
use Rattle.i9_model.specs.Given.{given}
use Rattle.i9_model.specs.Image.{Part, pairs_of}
use Rattle.i9_model.specs.Writes.{last_put}
use Rattle.i9_isa.specs.declared.inst.Inst.{Inst}
use Rattle.i9_tune.specs.declared.block.BlockFault.{BlockFault}
use Rattle.i9_tune.specs.Reading.{block_at}
use Rattle.i9_tune.specs.Tuning.{fault_line as block_fault_line}
use Rattle.i9_tune.proofs.OneText.{image_tunable, some_tuning}
use Rattle.i9_model.specs.declared.layout.TheConstants.{MAX_LENGTH}
use Rattle.i9_model.specs.Run.{state_after, reached_in}
use Rattle.i9_asm.specs.Laws.{IsAssembly}
use Rattle.i9_model.specs.declared.run.End.{End}
use Rattle.i9_model.specs.declared.run.End.TheVariants.{Exit, Limit, Hazard, Dead, Imprecise}
use Rattle.i9_model.specs.PrintedText.{end_code}
use Rattle.i9_course.proofs.PipelinedRuns.{pipelined_goes_on}
use Rattle.i9_hex.specs.Writing.{hex_text}
use Rattle.i9_elf.specs.Written.{most_headers, file_of}
use Rattle.i9_hex.proofs.Placed.{some_runs}
use Rattle.i9_schedule.specs.declared.command.Command.{Command as ScriptCommand}
use Rattle.i9_schedule.specs.ScriptText.{IsCommandInRange, IsInLimits}
use Rattle.i9_schedule.proofs.Limits.{script_in_limits}
use Rattle.i9_outside.specs.declared.traits.TheConstants.{FILE_LIMIT}
use Rattle.i9_outside.specs.Traits.{IsFile}
use Rattle.i9_lines.specs.declared.print.Printed.{Printed}
use Rattle.i9_debug.specs.declared.sessions.SessionEnd.{SessionEnd}
use Rattle.i9_lines.specs.Lines.{generated_line}
use Rattle.i9_lines.specs.Print.{Account, Prints, output}
use Rattle.i9_debug.specs.Session.{at, end_at}
use Rattle.i9_debug.specs.Driven.{RunsScript, printed_of as session_printed, target}
use Rattle.i9_lines.proofs.Prints.{prints_same}
use Rattle.i9_debug.proofs.Commands.{start_place, script_leads}
use Rattle.i9_machine.specs.declared.machine.Machine.{Machine}
use Rattle.i9_schedule.specs.Plan.{Plan}
use Rattle.i9_generator.specs.Generator.{generated_source, generated_schedule}
use Rattle.i9_tool.specs.declared.refusal.FileKind.TheVariants.{Image}
use Rattle.i9_tool.specs.declared.run.Counted.{Counted}
use Rattle.i9_tool.specs.declared.run.Ran.{Ran}
use Rattle.i9_tool.specs.declared.words.Format.TheVariants.{Hex, Elf}
use Rattle.i9_tool.specs.declared.words.Range.{Range}
use Rattle.i9_tool.specs.CommandLine.{Command, Run, Asm, Dis, Gen, Tune, Driver, ByLength, ByScript, driver_files, files_of, words_line, segments_line}
use Rattle.i9_tool.specs.FileKinds.{File, Value, AreBytes, IsAccepted, IsRead}
use Rattle.i9_tool.specs.Refusals.{Refusal, TooLong, Faulty, refusal_line, refusal_code, Refuses, too_long, faulty, FirstRefusal}
use Rattle.i9_tool.specs.Inputs.{Inputs, AreRead, Drive, ToLength, ByCommands, Task, Runs, Assembles, Lists, Generates, Tunes, no_schedule, drive_of, task_of, IsTaskOf}
use Rattle.i9_tool.specs.declared.made.Made.{Made}
use Rattle.i9_tool.specs.Values.{made_code, made_text, IsMade, PrintsMade}
use Rattle.i9_tool.specs.Traced.{headed_text}
use Rattle.i9_tool.specs.Run.{RunsHeaded, Counts, printed_of}
use Rattle.i9_generator.proofs.MadeSource.{made_source}
use Rattle.i9_generator.proofs.MadeSchedule.{made_schedule}
use Rattle.i9_tool.specs.Outcome.{RunGives, runs, driven_code, ScriptGives, drives, AsmGives, as_hex, as_elf, too_many_runs, TuneGives, no_block, tuned, GenGives, job_runs, job_line, TaskGives, CommandGives, refused, done, Gives, in_no_form, in_form, Answers, code_for, Only, SomeFor, AnswersSome}
use Rattle.i9_tool.proofs.Refusals.{known_refusal}
use Rattle.i9_tool.proofs.Answering.{answers_printed, answers_nothing, answers_wider}
use Rattle.i9_tool.proofs.AssembledBytes.{assembled_bytes}
use Rattle.i9_tool.proofs.FileAnswers.{some_answer}
use Rattle.i9_tool.proofs.Listable.{accepted_bytes, some_listed}

-- ---- statuses

-- the status of an end
known_finish : (f : End) → end_code f < 6
known_finish (Exit w) = omega arith
known_finish Limit = omega arith
known_finish (Hazard a) = omega arith
known_finish (Dead code a) = omega arith
known_finish (Imprecise a) = omega arith

known_driven : (end : Option End) → driven_code end < 6
known_driven None = omega arith
known_driven (Some f) = known_finish f

-- ---- some status and text

pub some_run : (sets : Option ℕ) (limit : ℕ) (traced : Option Range) (pairs : List (ℕ × ℕ)) (plan : Contents) → SomeFor (RunGives sets limit traced pairs plan)
some_run sets limit traced pairs plan =
    let g = given pairs plan.events limit sets in
    let later = pipelined_goes_on g [] tt in
    let records = later.0 ++ [] in
    (end_code later.1.end, headed_text plan.version traced g records later.1, runs records later.1 later.2)

-- the text of a script from the first turn of a run on
pub some_commands : (sets : Option ℕ) (pairs : List (ℕ × ℕ)) (events : List Timed) (commands : List ScriptCommand) → IsInLimits commands → SomeFor (ScriptGives sets pairs events commands)
some_commands sets pairs events commands limits =
    let g = given pairs events MAX_LENGTH sets in
    let ranges = recursion_from_All IsCommandInRange commands limits.each in
    let leads = script_leads g commands (at [] 1) ranges (start_place g) in
    (driven_code (end_at leads.1), leads.0, drives leads.0 leads.1 leads.2)

-- a file that may be the one that is told
some_file : (told : Option (List ℕ)) → (file : List ℕ) × IsFile told file
some_file None = ([], tt)
some_file (Some file) = (file, refl)

sized : (n : ℕ) → (n ≤ FILE_LIMIT) ⊎ (FILE_LIMIT < n)
sized n = grind arith

-- a block of an accepted image may be tuned, or has a first fault
some_block : (a n : ℕ) (file : List ℕ) (pairs : List (ℕ × ℕ)) (r : Result (List Inst) BlockFault) → IsAccepted Image file pairs → block_at (last_put pairs) n a ≡ r → SomeFor (TuneGives a n pairs)
some_block a n file pairs (Err fault) good e = (3, block_fault_line fault, no_block fault e)
some_block a n file pairs (Ok block) good e =
    let s = some_tuning a block (image_tunable pairs n a block (accepted_bytes file pairs good) e) in
    (0, s.0, tuned block s.0 e s.1)

pub some_tune : (a n : ℕ) (file : List ℕ) (pairs : List (ℕ × ℕ)) → IsAccepted Image file pairs → SomeFor (TuneGives a n pairs)
some_tune a n file pairs good = some_block a n file pairs (block_at (last_put pairs) n a) good refl

pub some_hex : (image : List Part) → SomeFor (AsmGives Hex image)
some_hex image = (0, hex_text image, as_hex image)

headed : (n : ℕ) → (n ≤ most_headers) ⊎ (most_headers < n)
headed n = grind arith

-- bytes have runs, which are not too many for an ELF file or are
pub some_elf : (image : List Part) → AreBytes (pairs_of image) → SomeFor (AsmGives Elf image)
some_elf image low =
    let runs = some_runs image low in
    elim (headed (length runs.0)) [
      | inl few ↦ (0, file_of runs.0, as_elf image runs.0 runs.1 few)
      | inr many ↦ (3, segments_line, too_many_runs image runs.0 runs.1 many)
    ]

-- a made job is accepted, and its run comes to an end
pub some_job : (number : ℕ) (sets : Option ℕ) → SomeFor (GenGives number sets)
some_job number sets =
    let source = made_source number in
    let schedule = made_schedule number in
    let g = given (pairs_of source.image) schedule.events MAX_LENGTH sets in
    let later = pipelined_goes_on g [] tt in
    let records = later.0 ++ [] in
    (end_code later.1.end, job_line number g records later.1, job_runs source.image (record { version = first_version; events = schedule.events }) records later.1 source.assembled schedule.said later.2)

-- what is to be done comes of accepted files
abbrev pub Sound : Task → Type 0
Sound (Runs pairs plan sets (ToLength limit traced)) = Unit {0}
Sound (Runs pairs plan sets (ByCommands commands)) = IsInLimits commands
Sound (Assembles format image) = AreBytes (pairs_of image)
Sound (Lists pairs) = (file : List ℕ) × IsAccepted Image file pairs
Sound (Generates number sets) = Unit {0}
Sound (Tunes pairs a n) = (file : List ℕ) × IsAccepted Image file pairs

some_task : (task : Task) → Sound task → SomeFor (TaskGives task)
some_task (Runs pairs plan sets (ToLength limit traced)) h = some_run sets limit traced pairs plan
some_task (Runs pairs plan sets (ByCommands commands)) h = some_commands sets pairs plan.events commands h
some_task (Assembles Hex image) h = some_hex image
some_task (Assembles Elf image) h = some_elf image h
some_task (Lists pairs) h = let s = some_listed h.0 pairs h.1 in (0, s.0, s.1)
some_task (Generates number sets) h = some_job number sets
some_task (Tunes pairs a n) h = some_tune a n h.0 pairs h.1

module _ (told : List ℕ → Option (List ℕ)) where
  sound_drive : (driver : Driver) (sets : Option ℕ) (pairs : List (ℕ × ℕ)) (plan : Contents) (said : Inputs (driver_files driver)) → AreRead told (driver_files driver) said
      → Sound (Runs pairs plan sets (drive_of driver said))
  sound_drive (ByLength limit traced) sets pairs plan said read = tt
  sound_drive (ByScript script) sets pairs plan said read = script_in_limits (lines_of read.0.bytes) said.0 read.0.accepted.says

  pub sound_task : (c : Command) (said : Inputs (files_of c)) → AreRead told (files_of c) said → Sound (task_of c said)
  sound_task (Run image None sets driver) said read = sound_drive driver sets said.0 no_schedule said.1 read.1
  sound_task (Run image (Some name) sets driver) said read = sound_drive driver sets said.0 said.1.0 said.1.1 read.1.1
  sound_task (Asm format source) said read = assembled_bytes (lines_of read.0.bytes) said.0 read.0.accepted.says
  sound_task (Dis image) said read = (read.0.bytes, read.0.accepted)
  sound_task (Gen number sets) said read = tt
  sound_task (Tune image a n) said read = (read.0.bytes, read.0.accepted)

  module _ (rose : List ℕ → Type 0) where
    -- a file is read or refused, and so are files
    some_short : (file : File) (bytes : List ℕ) → IsFile (told file.name) bytes → length bytes ≤ FILE_LIMIT
        → ((value : Value file.kind) × IsRead told file value) ⊎ ((r : Refusal) × Refuses told rose file r)
    some_short file bytes is short = elim (some_answer file.kind bytes) [
      | inl says ↦ inl (says.0, record { bytes = bytes; is_file = is; accepted = record { short = short; says = says.1 } })
      | inr bad ↦ inr (Faulty file.kind bad.0, faulty bytes bad.0 is short bad.1)
    ]

    some_answer_of : (file : File) → ((value : Value file.kind) × IsRead told file value) ⊎ ((r : Refusal) × Refuses told rose file r)
    some_answer_of file = let f = some_file (told file.name) in elim (sized (length f.0)) [
      | inl short ↦ some_short file f.0 f.1 short
      | inr long ↦ inr (TooLong file.kind, too_long f.0 f.1 long)
    ]

    some_inputs : (files : List File) → ((said : Inputs files) × AreRead told files said) ⊎ ((r : Refusal) × FirstRefusal told rose files r)
    some_inputs [] = inl (tt, tt)
    some_inputs (f ∷ files) = elim (some_answer_of f) [
      | inl one ↦ elim (some_inputs files) [
        | inl all ↦ inl ((one.0, all.0), (one.1, all.1))
        | inr bad ↦ inr (bad.0, inr (one.0, one.1, bad.1))
      ]
      | inr bad ↦ inr (bad.0, inl bad.1)
    ]

    pub some_command : (c : Command) → SomeFor (CommandGives told rose c)
    some_command c = elim (some_inputs (files_of c)) [
      | inl all ↦ let s = some_task (task_of c all.0) (sound_task c all.0 all.1) in (s.0, s.1, done all.0 s.0 s.1 all.1 s.2)
      | inr bad ↦ (refusal_code bad.0, refusal_line bad.0, refused bad.0 bad.1)
    ]

    pub some_outcome : (asked : Option Command) → SomeFor (Gives told rose asked)
    some_outcome None = (1, words_line, in_no_form)
    some_outcome (Some c) = let s = some_command c in (s.0, s.1, in_form c s.0 s.1 s.2)

-- ---- what is answered

module _ {K : Type 0} (k : Account K) where
  -- a text that goes with a status below 6 was printed
  pub answers_with : (gives : ℕ → List ℕ → Type 0) (p : Printed) (code status : ℕ) (text : List ℕ) (a b : K) → code < 6 → gives code text
      → Prints p k a b text → status ≡ code_for p code → Answers gives status k a b
  answers_with gives p code status text a b known is_given printed e =
      subst (λ (n : ℕ). Answers gives n k a b) (sym e) (answers_printed k gives p code text a b known is_given printed)

  -- the same of a text that is spelled in another way
  pub answers_line : (gives : ℕ → List ℕ → Type 0) (p : Printed) (code status : ℕ) (line text : List ℕ) (a b : K) → code < 6 → gives code text → line ≡ text
      → Prints p k a b line → status ≡ code_for p code → Answers gives status k a b
  answers_line gives p code status line text a b known is_given same printed e =
      answers_with gives p code status text a b known is_given (prints_same k p a b line text same printed) e

  -- memory was refused before anything was printed
  pub answers_unprinted : (gives : ℕ → List ℕ → Type 0) (a : K) → SomeFor gives → Answers gives 7 k a a
  answers_unprinted gives a some = answers_nothing k gives some.0 some.1 a some.2

  -- an image ran
  pub image_runs : (sets : Option ℕ) (limit : ℕ) (traced : Option Range) (pairs : List (ℕ × ℕ)) (plan : Contents) (ran : Ran) (code : ℕ) (a b : K)
      → (r : RunsHeaded ran plan.version traced (given pairs plan.events limit sets) (output k a b)) → code ≡ code_for (printed_of ran) (end_code r.finish.end)
      → Answers (RunGives sets limit traced pairs plan) code k a b
  image_runs sets limit traced pairs plan ran code a b r e =
      answers_with (RunGives sets limit traced pairs plan) (printed_of ran) (end_code r.finish.end) code _ a b (known_finish r.finish.end) (runs r.records r.finish r.run) r.prints e

  -- a script drove one
  pub script_runs : (sets : Option ℕ) (pairs : List (ℕ × ℕ)) (events : List Timed) (commands : List ScriptCommand) (answer : SessionEnd) (code : ℕ) (a b : K) (m : Machine) (plan : Plan)
      → (r : RunsScript answer (given pairs events MAX_LENGTH sets) (at [] 1) commands (output k a b) (target m plan)) → code ≡ code_for (session_printed answer) (driven_code (end_at r.drives.last))
      → Answers (ScriptGives sets pairs events commands) code k a b
  script_runs sets pairs events commands answer code a b m plan r e =
      answers_with (ScriptGives sets pairs events commands) (session_printed answer) (driven_code (end_at r.drives.last)) code r.drives.text a b (known_driven (end_at r.drives.last))
      (drives r.drives.text r.drives.last r.drives.is_text) r.drives.prints e

  -- the image of a job ran
  pub job_counted : (number : ℕ) (sets : Option ℕ) (image : List Part) (plan : Contents) (counted : Counted) (p : Printed) (code : ℕ) (a b : K)
      → IsAssembly (lines_of (generated_source number)) image → IsSchedule (lines_of (generated_schedule number)) plan → Counts counted (given (pairs_of image) plan.events MAX_LENGTH sets)
      → Prints p k a b (generated_line number counted.count counted.events counted.end) → code ≡ code_for p (end_code counted.end)
      → Answers (GenGives number sets) code k a b
  job_counted number sets image plan counted p code a b made says c printed e =
      let g = given (pairs_of image) plan.events MAX_LENGTH sets in
      let same = ap (λ (n : ℕ). generated_line number n counted.events counted.end) c.count
      ∙ ap (λ (n : ℕ). generated_line number (state_after g c.records).count n counted.end) c.events
      ∙ ap (generated_line number (state_after g c.records).count (length (reached_in g c.records c.finish))) c.end in
      answers_line (GenGives number sets) p (end_code c.finish.end) code _ _ a b (known_finish c.finish.end)
      (job_runs image plan c.records c.finish made says c.run) same printed (e ∙ ap (λ (x : End). code_for p (end_code x)) c.end)

  -- the line of a refusal was printed
  pub answers_refusal : (r : Refusal) (p : Printed) (status code : ℕ) (a b : K) → Prints p k a b (refusal_line r) → code ≡ refusal_code r → status ≡ code_for p code
      → Answers (Only (refusal_code r) (refusal_line r)) status k a b
  answers_refusal r p status code a b printed is e =
      answers_with (Only (refusal_code r) (refusal_line r)) p (refusal_code r) status (refusal_line r) a b (known_refusal r) (refl, refl) printed (e ∙ ap (code_for p) is)

  -- the one status and text are also given in another way
  pub answers_only : (gives : ℕ → List ℕ → Type 0) (code status : ℕ) (text : List ℕ) (a b : K) → gives code text → Answers (Only code text) status k a b → Answers gives status k a b
  answers_only gives code status text a b is_given h =
      answers_wider k (Only code text) gives status a b (λ c t e. subst (λ (n : ℕ). gives n t) (sym e.0) (subst (λ (x : List ℕ). gives code x) (sym e.1) is_given)) h

  -- a run is the same with the same schedule
  pub same_plan : (pairs : List (ℕ × ℕ)) (x y : Contents) (sets : Option ℕ) (drive : Drive) (code : ℕ) (a b : K) → x ≡ y
      → AnswersSome (TaskGives (Runs pairs x sets drive)) code k a b → AnswersSome (TaskGives (Runs pairs y sets drive)) code k a b
  same_plan pairs x y sets drive code a b same h = subst (λ (c : Contents). AnswersSome (TaskGives (Runs pairs c sets drive)) code k a b) same h

  -- what was made was printed
  pub made_answers : (gives : ℕ → List ℕ → Type 0) {E : Type 0} (m : Result Made E) (code : ℕ) (a b : K) → IfOk m (IsMade gives) → PrintsMade m code k a b → AnswersSome gives code k a b
  made_answers gives (Ok m) code a b is_given h some = answers_only gives (made_code m) code (made_text m) a b is_given h
  made_answers gives (Err e) code a b is_given h some = rw h.0 (rw h.1 (answers_unprinted gives a some))

  module _ (told : List ℕ → Option (List ℕ)) (rose : List ℕ → Type 0) where
    -- what a command is answered, where the words ask for it
    pub command_answered : (asked : Option Command) (c : Command) (code : ℕ) (a b : K) → Some c ≡ asked → Answers (CommandGives told rose c) code k a b → Answers (Gives told rose asked) code k a b
    command_answered asked c code a b e h =
        subst (λ (o : Option Command). Answers (Gives told rose o) code k a b) e (answers_wider k (CommandGives told rose c) (Gives told rose (Some c)) code a b (λ d t g. in_form c d t g) h)

    -- the words are in no form
    pub words_refused : (asked : Option Command) (p : Printed) (code : ℕ) (a b : K) → None ≡ asked → Prints p k a b words_line → code ≡ code_for p 1 → Answers (Gives told rose asked) code k a b
    words_refused asked p code a b none printed e =
        subst (λ (o : Option Command). Answers (Gives told rose o) code k a b) none (answers_with (Gives told rose None) p 1 code words_line a b (omega arith) in_no_form printed e)

    -- its files are read, and what it asks for is done
    pub command_done : (c : Command) (task : Task) (code : ℕ) (a b : K) → IsTaskOf told c task → AnswersSome (TaskGives task) code k a b → Answers (CommandGives told rose c) code k a b
    command_done c task code a b t h =
        answers_wider k (TaskGives task) (CommandGives told rose c) code a b
        (λ d text g. done t.said d text t.are_read (subst (λ (x : Task). TaskGives x d text) t.is g))
        (h (some_task task (subst Sound (sym t.is) (sound_task told c t.said t.are_read))))

    -- they are refused
    pub command_refused : (c : Command) (r : Refusal) (code : ℕ) (a b : K) → FirstRefusal told rose (files_of c) r → Answers (Only (refusal_code r) (refusal_line r)) code k a b
        → Answers (CommandGives told rose c) code k a b
    command_refused c r code a b first h = answers_only (CommandGives told rose c) (refusal_code r) code (refusal_line r) a b (refused r first) h
