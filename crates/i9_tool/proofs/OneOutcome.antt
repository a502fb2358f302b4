-- Words and files have one status and one text.
use Rattle.std.proofs.Common.{◌≡◌, ◌≢◌, ℕ, List, [], ◌∷◌, ◌++◌, inl, inr, length, Option, Some, None, Result, Ok, Err, refl, sym, ap, ◌∙◌, subst, arith}
use Rattle.std.specs.Prelude.{IsSome}
use Rattle.i9_model.specs.State.{State}
use Rattle.i9_model.specs.Given.{Given, given}
use Rattle.i9_model.specs.declared.event.Timed.{Timed}
use Rattle.i9_model.specs.ScheduleText.{Contents, IsByCounts}
use Rattle.i9_model.specs.Run.{Record, reached_after, Finish, reached_last}
use Rattle.i9_model.specs.PrintedText.{text_of, lines_of, end_lines, end_code, heading_text}
use Rattle.i9_model.specs.Image.{Part, pairs_of}
use Rattle.i9_isa.specs.declared.inst.Inst.{Inst}
use Rattle.i9_tune.specs.declared.block.BlockFault.{BlockFault}
use Rattle.i9_tune.specs.Tuning.{fault_line as block_fault_line, IsTuning}
use Rattle.i9_tune.proofs.OneText.{image_tunable, one_tuning}
use Rattle.i9_tool.proofs.Listable.{accepted_bytes}
use Rattle.i9_model.specs.declared.layout.TheConstants.{MAX_LENGTH}
use Rattle.i9_past.proofs.Cuts.{state_by}
use Rattle.i9_course.specs.PipelinedRun.{IsPipelinedRun}
use Rattle.i9_course.proofs.PipelinedRuns.{pipelined_records, late_end}
use Rattle.i9_course.proofs.PipelinedSame.{run_sets}
use Rattle.i9_elf.specs.Written.{file_of}
use Rattle.i9_hex.proofs.Joining.{runs_once}
use Rattle.i9_dis.proofs.Listed.{one_text as one_listing, by_pairs}
use Rattle.i9_schedule.specs.declared.command.Command.{Command as ScriptCommand}
use Rattle.i9_lines.specs.Lines.{generated_line}
use Rattle.i9_debug.specs.Session.{Place, at, end_at}
use Rattle.i9_generator.specs.Generator.{generated_source, generated_schedule}
use Rattle.i9_tool.specs.declared.refusal.FileKind.TheVariants.{Schedule, Source}
use Rattle.i9_tool.specs.declared.words.Format.{Format}
use Rattle.i9_tool.specs.declared.words.Format.TheVariants.{Hex, Elf}
use Rattle.i9_tool.specs.declared.words.Range.{Range}
use Rattle.i9_generator.proofs.MadeSchedule.{schedule_counted}
use Rattle.i9_tool.specs.FileKinds.{File, Value, AreBytes, IsRead, names}
use Rattle.i9_outside.specs.Traits.{IsFile}
use Rattle.i9_tool.specs.Fetches.{AllTold}
use Rattle.i9_tool.specs.Traced.{is_within, traced_lines, printed_text, headed_text}
use Rattle.i9_tool.specs.CommandLine.{Command, Run, Gen, ByLength, files_of}
use Rattle.i9_tool.specs.Refusals.{Refusal, Unread, Faulty, refusal_code, refusal_line, Refuses, unread, too_long, faulty, FirstRefusal}
use Rattle.i9_tool.specs.Inputs.{Inputs, AreRead, ToLength, ByCommands, Task, Runs, Assembles, Lists, Generates, Tunes, no_schedule, task_of}
use Rattle.i9_tool.specs.Outcome.{RunGives, runs, driven_code, ScriptGives, drives, AsmGives, as_hex, as_elf, too_many_runs, GenGives, job_runs, job_line, DisGives, listed, TuneGives, no_block, tuned, TaskGives, CommandGives, refused, done, IsCountedSchedule, Gives, in_no_form, in_form, names_of}
use Rattle.i9_tool.proofs.FileAnswers.{apart, one_value, one_fault}
use Rattle.i9_tool.proofs.OneText.{one_text}
use Rattle.i9_tool.proofs.Outcomes.{Sound, sound_task}

-- a status and a text at once
pub record Same (c d : ℕ) (s t : List ℕ) : Type 0 where
  pub status : c ≡ d
  pub text : s ≡ t

-- a run has one list of records and one end
same_run : (g : Given) (rs qs : List Record) (e f : Finish) → IsPipelinedRun g rs e → IsPipelinedRun g qs f → (rs ≡ qs) × (e ≡ f)
same_run g rs qs e f a b = (pipelined_records g rs qs e f a b, late_end g rs qs e f a b)

-- one status and one text, but for those of a file that was not read
abbrev Once : (ℕ → List ℕ → Type 0) → Type 0
Once gives = (c d : ℕ) (s t : List ℕ) → c ≢ 5 → d ≢ 5 → gives c s → gives d t → Same c d s t

once_run : (sets : Option ℕ) (limit : ℕ) (traced : Option Range) (pairs : List (ℕ × ℕ)) (plan : Contents) → Once (RunGives sets limit traced pairs plan)
once_run sets limit traced pairs plan c d s t p q (runs rs e run) (runs us f other) =
    let g = given pairs plan.events limit sets in
    let same = same_run g rs us e f run other in
    record {
      status = ap (λ (x : Finish). end_code x.end) same.1;
      text = ap (λ (x : List Record). headed_text plan.version traced g x e) same.0 ∙ ap (headed_text plan.version traced g us) same.1;
    }

-- one text of a script, and one place behind it
once_script : (sets : Option ℕ) (pairs : List (ℕ × ℕ)) (events : List Timed) (commands : List ScriptCommand) → Once (ScriptGives sets pairs events commands)
once_script sets pairs events commands c d s t p q (drives x last is) (drives y other is') =
    let same = one_text (given pairs events MAX_LENGTH sets) commands (at [] 1) last other x y is is' in
    record { status = ap (λ (z : Place). driven_code (end_at z)) same.1; text = same.0 }

-- one text of segments in a format, since they have one list of runs
once_asm : (format : Format) (image : List Part) → Once (AsmGives format image)
once_asm Hex image c d s t p q (as_hex _) (as_hex _) = record { status = refl; text = refl }
once_asm Elf image c d s t p q (as_elf _ parts are few) (as_elf _ others are' few') = record { status = refl; text = ap file_of (runs_once (pairs_of image) parts others are are') }
once_asm Elf image c d s t p q (as_elf _ parts are few) (too_many_runs _ others are' many) = absurd (let same = ap length (runs_once (pairs_of image) parts others are are') in omega (arith, same))
once_asm Elf image c d s t p q (too_many_runs _ parts are many) (as_elf _ others are' few) = absurd (let same = ap length (runs_once (pairs_of image) parts others are are') in omega (arith, same))
once_asm Elf image c d s t p q (too_many_runs _ parts are many) (too_many_runs _ others are' many') = record { status = refl; text = refl }

once_dis : (pairs : List (ℕ × ℕ)) → Once (DisGives pairs)
once_dis pairs c d s t p q (listed image _ says h) (listed other _ says' g) = record { status = refl; text = one_listing image s t h (by_pairs other image t (says' ∙ sym says) g) }

-- one block is tuned one way, or has one first fault
same_fault : (f g : BlockFault) → ◌≡◌ {A = Result (List Inst) BlockFault} (Err f) (Err g) → f ≡ g
same_fault f g e = cc e

same_block : (is js : List Inst) → ◌≡◌ {A = Result (List Inst) BlockFault} (Ok is) (Ok js) → is ≡ js
same_block is js e = cc e

once_tune : (a n : ℕ) (pairs : List (ℕ × ℕ)) → AreBytes pairs → Once (TuneGives a n pairs)
once_tune a n pairs low c d s t p q (no_block f e) (no_block g h) = record { status = refl; text = ap block_fault_line (same_fault f g (sym e ∙ h)) }
once_tune a n pairs low c d s t p q (no_block f e) (tuned js t' h is) = absurd (cc (sym e ∙ h))
once_tune a n pairs low c d s t p q (tuned is s' e one) (no_block g h) = absurd (cc (sym e ∙ h))
once_tune a n pairs low c d s t p q (tuned is s' e one) (tuned js t' h other) =
    let same = same_block is js (sym e ∙ h) in
    let ok = image_tunable pairs n a js low h in
    record { status = refl; text = one_tuning a js s t ok (subst (λ (block : List Inst). IsTuning a block s) same one) other }

-- one job is made, whose run comes to one line
once_job : (number : ℕ) (sets : Option ℕ) → Once (GenGives number sets)
once_job number sets c d s t p q (job_runs i ts rs e made says run) (job_runs j us qs f made' says' other) =
    let image = one_value Source (generated_source number) j i made' made in
    let events = one_value Schedule (generated_schedule number) us ts says' says in
    let g = given (pairs_of i) ts.events MAX_LENGTH sets in
    let same = same_run g rs qs e f run (rw (image, events) at other) in
    rw (image, events) (record {
      status = ap (λ (x : Finish). end_code x.end) same.1;
      text = ap (λ (x : List Record). job_line number g x e) same.0 ∙ ap (job_line number g qs) same.1;
    })

once_task : (task : Task) → Sound task → Once (TaskGives task)
once_task (Runs pairs plan sets (ToLength limit traced)) h = once_run sets limit traced pairs plan
once_task (Runs pairs plan sets (ByCommands commands)) h = once_script sets pairs plan.events commands
once_task (Assembles format image) h = once_asm format image
once_task (Lists pairs) h = once_dis pairs
once_task (Generates number sets) h = once_job number sets
once_task (Tunes pairs a n) h = once_tune a n pairs (accepted_bytes h.0 pairs h.1)

-- ---- files that are told are read or refused, not both, and for one value or one refusal

same_file : (told : Option (List ℕ)) (x y : List ℕ) → IsSome told → IsFile told x → IsFile told y → x ≡ y
same_file None x y some h g = absurd cc
same_file (Some file) x y some h g = h ∙ sym g

module _ (told : List ℕ → Option (List ℕ)) (rose : List ℕ → Type 0) where
  once_read : (f : File) → IsSome (told f.name) → (v w : Value f.kind) → IsRead told f v → IsRead told f w → v ≡ w
  once_read f some v w h g =
      let same = same_file (told f.name) h.bytes g.bytes some h.is_file g.is_file in
      one_value f.kind h.bytes v w h.accepted.says (rw same g.accepted.says)

  once_refused : (f : File) → IsSome (told f.name) → (r q : Refusal) → r ≢ Unread → q ≢ Unread → Refuses told rose f r → Refuses told rose f q → r ≡ q
  once_refused f some _ q x y (unread h) g = absurd (x refl)
  once_refused f some r _ x y h (unread g) = absurd (y refl)
  once_refused f some _ _ x y (too_long b is long) (too_long c is' long') = refl
  once_refused f some _ _ x y (too_long b is long) (faulty c fault is' short bad) = let same = ap length (same_file (told f.name) b c some is is') in absurd (omega (arith, same, long, short))
  once_refused f some _ _ x y (faulty b fault is short bad) (too_long c is' long) = let same = ap length (same_file (told f.name) b c some is is') in absurd (omega (arith, same, long, short))
  once_refused f some _ _ x y (faulty b fault is short bad) (faulty c other is' short' bad') =
      let same = same_file (told f.name) b c some is is' in
      ap (Faulty f.kind) (one_fault f.kind b fault other bad (rw same bad'))

  never_both : (f : File) → IsSome (told f.name) → (v : Value f.kind) (r : Refusal) → r ≢ Unread → IsRead told f v → ¬ Refuses told rose f r
  never_both f some v _ x h (unread g) = x refl
  never_both f some v _ x h (too_long b is long) =
      let same = ap length (same_file (told f.name) h.bytes b some h.is_file is) in
      let short = h.accepted.short in
      omega (arith, same, long, short)
  never_both f some v _ x h (faulty b fault is short bad) =
      let same = same_file (told f.name) h.bytes b some h.is_file is in
      apart f.kind h.bytes v fault h.accepted.says (rw same bad)

  once_inputs : (files : List File) → AllTold told (names files) → (said other : Inputs files) → AreRead told files said → AreRead told files other → said ≡ other
  once_inputs [] known said other h g = refl
  once_inputs (f ∷ files) known said other h g =
      let first = once_read f known.0 said.0 other.0 h.0 g.0 in
      let rest = once_inputs files known.1 said.1 other.1 h.1 g.1 in
      ap (λ (v : Value f.kind). (v, said.1)) first ∙ ap (λ (w : Inputs files). (other.0, w)) rest

  once_first : (files : List File) → AllTold told (names files) → (r q : Refusal) → r ≢ Unread → q ≢ Unread → FirstRefusal told rose files r → FirstRefusal told rose files q → r ≡ q
  once_first [] known r q x y h g = absurd h
  once_first (f ∷ files) known r q x y (inl h) (inl g) = once_refused f known.0 r q x y h g
  once_first (f ∷ files) known r q x y (inl h) (inr g) = absurd (never_both f known.0 g.0 r x g.1 h)
  once_first (f ∷ files) known r q x y (inr h) (inl g) = absurd (never_both f known.0 h.0 q y h.1 g)
  once_first (f ∷ files) known r q x y (inr h) (inr g) = once_first files known.1 r q x y h.2 g.2

  none_refused : (files : List File) → AllTold told (names files) → (said : Inputs files) (r : Refusal) → r ≢ Unread → AreRead told files said → ¬ FirstRefusal told rose files r
  none_refused [] known said r x h g = g
  none_refused (f ∷ files) known said r x h (inl g) = never_both f known.0 said.0 r x h.0 g
  none_refused (f ∷ files) known said r x h (inr g) = none_refused files known.1 said.1 r x h.1 g.2

  -- 5 is the status of a file that was not read
  other_code : (r : Refusal) → refusal_code r ≢ 5 → r ≢ Unread
  other_code r other e = other (ap refusal_code e)

  once_command : (command : Command) → AllTold told (names (files_of command)) → Once (CommandGives told rose command)
  once_command command known c d s t p q (refused r h) (refused u g) =
      let same = once_first (files_of command) known r u (other_code r p) (other_code u q) h g in
      record { status = ap refusal_code same; text = ap refusal_line same }
  once_command command known c d s t p q (refused r h) (done said d' t' read g) = absurd (none_refused (files_of command) known said r (other_code r p) read h)
  once_command command known c d s t p q (done said c' s' read h) (refused r g) = absurd (none_refused (files_of command) known said r (other_code r q) read g)
  once_command command known c d s t p q (done said c' s' read h) (done other d' t' read' g) =
      let same = once_inputs (files_of command) known said other read read' in
      once_task (task_of command said) (sound_task told command said read) c d s t p q h (subst (λ (x : Inputs (files_of command)). TaskGives (task_of command x) d t) (sym same) g)

  pub one_outcome : (asked : Option Command) → AllTold told (names_of asked) → Once (Gives told rose asked)
  one_outcome None known c d s t p q in_no_form in_no_form = record { status = refl; text = refl }
  one_outcome (Some command) known c d s t p q (in_form x c' s' g) (in_form y d' t' h) = once_command command known c d s t p q g h

-- ---- what is printed of a run does not depend on the number of sets

other_run : (ps : List (ℕ × ℕ)) (ts : List Timed) (limit : ℕ) (sets others : Option ℕ) (rs : List Record) (e : Finish) → IsByCounts ts → IsPipelinedRun (given ps ts limit sets) rs e → IsPipelinedRun (given ps ts limit others) rs e
other_run ps ts limit sets others rs e counted run = (run_sets (given ps ts limit sets) others rs e counted).1 run

other_text : (traced : Option Range) (ps : List (ℕ × ℕ)) (ts : List Timed) (limit : ℕ) (sets others : Option ℕ) (rs : List Record) (e : Finish)
    → printed_text traced (given ps ts limit others) rs e ≡ printed_text traced (given ps ts limit sets) rs e
other_text None ps ts limit sets others rs e =
    ap (λ (s : State). text_of (lines_of rs ++ end_lines s e)) (state_by (given ps ts limit sets) (given ps ts limit others) rs refl)
other_text (Some range) ps ts limit sets others rs e =
    ap (λ (s : State). traced_lines (is_within range) rs ++ text_of (end_lines s e)) (state_by (given ps ts limit sets) (given ps ts limit others) rs refl)

other_sets : (sets others : Option ℕ) (limit : ℕ) (traced : Option Range) (ps : List (ℕ × ℕ)) (plan : Contents) (code : ℕ) (text : List ℕ)
    → IsByCounts plan.events → RunGives sets limit traced ps plan code text → RunGives others limit traced ps plan code text
other_sets sets others limit traced ps plan code text counted (runs rs e run) =
    let same = ap (λ (t : List ℕ). heading_text plan.version ++ t) (other_text traced ps plan.events limit sets others rs e) in
    subst (RunGives others limit traced ps plan (end_code e.end)) same
    (runs rs e (other_run ps plan.events limit sets others rs e counted run))

-- by a schedule by counts
module _ (told : List ℕ → Option (List ℕ)) (rose : List ℕ → Type 0) where
  counted_sets : (image : List ℕ) (schedule : Option (List ℕ)) (sets others : Option ℕ) (limit : ℕ) (traced : Option Range) (said : Inputs (files_of (Run image schedule sets (ByLength limit traced))))
      (code : ℕ) (text : List ℕ) → IsCountedSchedule told schedule → AreRead told (files_of (Run image schedule sets (ByLength limit traced))) said
      → TaskGives (task_of (Run image schedule sets (ByLength limit traced)) said) code text → TaskGives (task_of (Run image schedule others (ByLength limit traced)) said) code text
  counted_sets image None sets others limit traced said code text counted read g = other_sets sets others limit traced said.0 no_schedule code text tt g
  counted_sets image (Some name) sets others limit traced said code text counted read g =
      other_sets sets others limit traced said.0 said.1.0 code text (counted read.1.0.bytes said.1.0 read.1.0.is_file read.1.0.accepted.says) g

  pub same_in_sets : (image : List ℕ) (schedule : Option (List ℕ)) (sets others : Option ℕ) (limit code : ℕ) (traced : Option Range) (text : List ℕ) → IsCountedSchedule told schedule
      → Gives told rose (Some (Run image schedule sets (ByLength limit traced))) code text → Gives told rose (Some (Run image schedule others (ByLength limit traced))) code text
  same_in_sets image schedule sets others limit code traced text counted (in_form _ _ _ (refused r h)) = in_form (Run image schedule others (ByLength limit traced)) code text (refused r h)
  same_in_sets image schedule sets others limit code traced text counted (in_form _ _ _ (done said _ _ read g)) =
      in_form (Run image schedule others (ByLength limit traced)) code text
      (done said code text read (counted_sets image schedule sets others limit traced said code text counted read g))

other_job : (number : ℕ) (sets others : Option ℕ) (code : ℕ) (text : List ℕ) → GenGives number sets code text → GenGives number others code text
other_job number sets others code text (job_runs i plan rs e made says run) =
    let ps = pairs_of i in
    let line = λ (s : State). generated_line number s.count (length (reached_after rs ++ reached_last s.count e.event)) e.end in
    let same = state_by (given ps plan.events MAX_LENGTH sets) (given ps plan.events MAX_LENGTH others) rs refl in
    subst (GenGives number others (end_code e.end)) (ap line same)
    (job_runs i plan rs e made says (other_run ps plan.events MAX_LENGTH sets others rs e (schedule_counted number plan says) run))

pub job_same_in_sets : (told : List ℕ → Option (List ℕ)) (rose : List ℕ → Type 0) (number : ℕ) (sets others : Option ℕ) (code : ℕ) (text : List ℕ)
    → Gives told rose (Some (Gen number sets)) code text → Gives told rose (Some (Gen number others)) code text
job_same_in_sets told rose number sets others code text (in_form _ _ _ (refused r h)) = absurd h
job_same_in_sets told rose number sets others code text (in_form _ _ _ (done said _ _ read g)) =
    in_form (Gen number others) code text (done said code text read (other_job number sets others code text g))
