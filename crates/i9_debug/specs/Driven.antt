-- What a debugger does to a machine and to a sink.
use Rattle.std.specs.Prelude.{◌≡◌, ℕ, ◌≤◌, Bool, true, List, [], ◌∷◌, ◌++◌, drop, length, Option, Some, None, Result}
use Rattle.std.specs.Prelude.{OnOk, OnErr}
use Rattle.std.specs.List.{AllByRecursion}
use Rattle.i9_model.specs.declared.layout.TheConstants.{MAX_LENGTH}
use Rattle.i9_model.specs.declared.view.View.{View}
use Rattle.i9_model.specs.Given.{given}
use Rattle.i9_model.specs.Image.{Part, pairs_of}
use Rattle.i9_model.specs.PrintedText.{text_of, lines_of}
use Rattle.i9_model.specs.Late.{turns as late_turns}
use Rattle.i9_model.specs.Turns.{last_issue}
use Rattle.i9_course.specs.Course.{Item, Step, course, IsCourse}
use Rattle.i9_course.specs.PipelinedRun.{steps, IsPipelinedPast}
use Rattle.i9_back.specs.Stands.{StaysAt, last_change}
use Rattle.i9_machine.specs.Turned.{steps_on}
use Rattle.i9_tracer.specs.Until.{view_behind, IsPassed}
use Rattle.i9_model.specs.declared.run.End.{End}
use Rattle.i9_model.specs.Run.{Given, Record, counts_of, Finish}
use Rattle.i9_schedule.specs.Plan.{Plan}
use Rattle.i9_machine.specs.declared.machine.Machine.{Machine}
use Rattle.i9_machine.specs.StandsFor.{StandsFor, FollowsUntil}
use Rattle.i9_schedule.specs.declared.command.Command.{Command}
use Rattle.i9_schedule.specs.declared.command.Command.TheVariants as commands
use Rattle.i9_lines.specs.declared.print.Printed.{Printed}
use Rattle.i9_lines.specs.declared.print.Printed.TheVariants as printed
use Rattle.i9_debug.specs.declared.sessions.SessionEnd.{SessionEnd}
use Rattle.i9_debug.specs.declared.sessions.SessionEnd.TheVariants as ends
use Rattle.i9_lines.specs.Print.{Account, Output, Prints, OnDone, IsCut, OnCut}
use Rattle.i9_debug.specs.Session.{Place, at, ended, turn_ahead, EndsBehind, ending_lines, UnlessOver, IsBack, Runs}
use Rattle.i9_debug.specs.Session.{told, IsText, end_at}

-- a machine stands at a place of the run of what is given, a schedule is its plan, and follows it as long as no end was
-- answered
pub record StandsAt (g : Given) (p : Place) (m : Machine) (plan : Plan) : Type 0 where
  pub stands : StandsFor g p.items p.end m
  pub turn : m.pipeline.turn ≡ p.turn
  pub follows : FollowsUntil g p.items p.end plan
  pub events : plan.events ≡ g.plan

-- ---- the run of an image

-- what a session runs: an image with the events of a schedule, in so many sets
abbrev pub given_of : List Part → Option ℕ → Plan → Given
given_of image sets plan = given (pairs_of image) plan.events MAX_LENGTH sets

-- what is given is an image in so many sets, with some events
abbrev pub IsOf : List Part → Option ℕ → Given → Type 0
IsOf image sets g = g ≡ given (pairs_of image) g.plan MAX_LENGTH sets

-- A place of a run in which no mark was set; nothing has issued above its turn, as long as no end was answered.
pub record IsPlace (g : Given) (p : Place) : Type 0 where
  pub records : List Record
  pub are : p.items ≡ steps records
  pub past : IsPipelinedPast g records
  pub begun : UnlessOver p.end (last_issue (late_turns (course g p.items).late) ≤ p.turn) (Unit {0})

-- a machine stands at such a place of the run of an image
pub record IsDebugged (image : List Part) (sets : Option ℕ) (m : Machine) (plan : Plan) : Type 0 where
  pub given : Given
  pub place : Place
  pub of : IsOf image sets given
  pub is_place : IsPlace given place
  pub stands : StandsAt given place m plan

-- what a debugger drives: a machine, and the schedule that it follows
pub record Target : Type 0 where
  pub machine : Machine
  pub plan : Plan

abbrev pub target : Machine → Plan → Target
target m plan = record { machine = m; plan = plan }

-- The run went back to right after so many instructions, or memory was refused and machine and schedule stay where they
-- are.
pub record GoneBack {A E : Type 0} (g : Given) (c : ℕ) (result : Result A E) (old new : Target) : Type 0 where
  pub gone : OnOk result ((q : Place) × IsBack g c q × StandsAt g q new.machine new.plan)
  pub same : OnErr result ((new.machine ≡ old.machine) × StaysAt old.plan new.plan)

-- what a command tells of the last change of a byte among records, if anything
abbrev pub change_for : Command → List Record → Option (ℕ × ℕ)
change_for (commands.Who a) rs = last_change a rs
change_for c rs = None

-- ---- printing

-- A text was printed whole, and then a front of another one, and both lead to the place at which printing stopped.
pub record StopsAt {K : Type 0} (cut : List ℕ → List ℕ → Place → Type 0) (answer : Printed) (k : Account K)
    (old new : K)
    (place : Place) : Type 0 where
  pub whole : List ℕ
  pub rest : List ℕ
  pub is_cut : cut whole rest place
  pub between : K
  pub first : Prints printed.Done k old between whole
  pub behind : Prints answer k between new rest

-- A text that leads to a place was printed on a sink of this type, or a front of it; and the machine stands at some
-- place behind whole steps, which is that one where all was printed. Where printing stopped, it is the place of the
-- cut: all is printed as it comes.
pub record Drives {K : Type 0} (leads : List ℕ → Place → Type 0) (cut : List ℕ → List ℕ → Place → Type 0)
    (answer : Printed)
    (g : Given) (out : Output K) (driven : Target) : Type 0 where
  pub text : List ℕ
  pub last : Place
  pub is_text : leads text last
  pub prints : Prints answer out.account out.old out.new text
  pub place : Place
  pub stands : StandsAt g place driven.machine driven.plan
  pub whole : OnDone answer (place ≡ last)
  pub stopped : OnCut answer (StopsAt cut answer out.account out.old out.new place)

-- ---- where printing stopped

-- one record behind items, or none
abbrev pub AtMostOne : List Item → List Record → Type 0
AtMostOne h rs = length rs ≤ 1

-- the records of one step of a command, which prints between its steps
abbrev pub StepOf : Command → List Item → List Record → Type 0
StepOf (commands.Turn n) h rs = AtMostOne h rs
StepOf (commands.Until a) h rs = AtMostOne h rs
StepOf commands.Regs h rs = ⊥
StepOf commands.Raw h rs = ⊥
StepOf commands.Held h rs = ⊥
StepOf (commands.Mem a n) h rs = ⊥
StepOf (commands.RawMem a n) h rs = ⊥
StepOf (commands.Back k) h rs = ⊥
StepOf (commands.Last a) h rs = ⊥
StepOf (commands.Who a) h rs = ⊥

-- A run was cut: what is shown of the records before is whole, and behind them only those of one step were done, or the
-- end came with them.
pub data CutInRun (g : Given) (step : List Item → List Record → Type 0) (h : List Item) : List ℕ → List ℕ → Place
    → Type 0 where
  behind_step : (before last : List Record) (t : ℕ) → step (steps_on before h) last
      → CutInRun g step h (text_of (lines_of before)) (text_of (lines_of last))
      (at (steps_on last (steps_on before h)) t)
  behind_end : (before last : List Record) (t : ℕ) (f : Finish) → step (steps_on before h) last
      → CutInRun g step h (text_of (lines_of before)) (text_of (ending_lines g (steps_on before h) last f))
      (ended (steps_on last (steps_on before h)) t f)

-- What a command runs was cut: its run was, or memory was refused on the way back, and the place is as before.
pub data CutOnWay (g : Given) (p : Place) : Command → List ℕ → List ℕ → Place → Type 0 where
  in_run : (c : Command) (x y : List ℕ) (q : Place) → CutInRun g (StepOf c) p.items x y q → CutOnWay g p c x y q
  not_back : (k : ℕ) → CutOnWay g p (commands.Back k) [] [] p
  not_last : (a : ℕ) → CutOnWay g p (commands.Last a) [] [] p

-- A command was cut: what it runs was, or it ran to its place, all of it was shown, and what it tells was cut.
pub data CutInAnswer (g : Given) (c : Command) (p : Place) : List ℕ → List ℕ → Place → Type 0 where
  on_way : (x y : List ℕ) (q : Place) → CutOnWay g p c x y q → CutInAnswer g c p x y q
  in_told : (x : List ℕ) (q : Place) → Runs g c p x q → CutInAnswer g c p x (told g q.items q.turn c) q

-- A script was cut in a command: the text of the commands before it is whole.
pub data CutInScript (g : Given) : List Command → Place → List ℕ → List ℕ → Place → Type 0 where
  in_command : (before : List Command) (c : Command) (left : List Command) (p q place : Place) (x y z : List ℕ)
      → IsText g before p x q
      → CutInAnswer g c q y z place → CutInScript g (before ++ c ∷ left) p (x ++ y) z place

-- ---- up to a stop

-- The same as running until an instruction address, by the answers that a stop may give behind each instruction. Where
-- printing stopped, the text may be that of the records so far, of which the stop was not asked behind the newest.
pub data StopsBy (answer : Printed) (allows : View → Bool → Type 0) (g : Given) (h : List Item) : List ℕ → Place
    → Type 0 where
  stops : (rs : List Record) (r : Record) → IsCourse g (Step r ∷ steps_on rs h) → AllByRecursion (IsPassed allows) rs
      → counts_of r.kind ≡ 1 → allows (view_behind r) true
      → StopsBy answer allows g h (text_of (lines_of (r ∷ rs)))
      (at (Step r ∷ steps_on rs h) (turn_ahead g (steps_on rs h)))
  never_stops : (rs : List Record) (f : Finish) → EndsBehind g h rs f → AllByRecursion (IsPassed allows) rs
      → StopsBy answer allows g h (text_of (ending_lines g h rs f))
      (ended (steps_on rs h) (turn_ahead g (steps_on rs h)) f)
  goes_on : (rs : List Record) (q : Place) → IsCut answer → IsCourse g (steps_on rs h)
      → AllByRecursion (IsPassed allows) (drop 1 rs)
      → StopsBy answer allows g h (text_of (lines_of rs)) q

-- ---- whole scripts

-- how the printing of a script's text ended
abbrev pub printed_of : SessionEnd → Printed
printed_of ends.Done = printed.Done
printed_of (ends.Stopped e) = printed.Done
printed_of ends.Write = printed.Write
printed_of ends.Memory = printed.Memory

-- where all was printed, the answer says whether the run is over behind the script, and with which end
abbrev pub TellsEnd : SessionEnd → Option End → Type 0
TellsEnd ends.Done end = end ≡ None
TellsEnd (ends.Stopped e) end = end ≡ Some e
TellsEnd ends.Write end = Unit {0}
TellsEnd ends.Memory end = Unit {0}

-- The text of a script from a place on was printed, or a front of it.
pub record RunsScript {K : Type 0} (answer : SessionEnd) (g : Given) (p : Place) (cs : List Command) (out : Output K)
    (driven : Target) : Type 0 where
  pub drives : Drives (IsText g cs p) (CutInScript g cs p) (printed_of answer) g out driven
  pub tells : TellsEnd answer (end_at drives.last)
