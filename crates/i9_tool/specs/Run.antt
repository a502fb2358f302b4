-- What running an image does to a sink, and what a run comes to.
use Rattle.std.specs.Prelude.{◌≡◌, ℕ, ◌≤◌, Bool, List, [], ◌∷◌, ◌++◌, length, flat_map, Option, Some}
use Rattle.i9_model.specs.Run.{Given, Record, counts_of, state_after, Finish, reached_in}
use Rattle.i9_model.specs.PrintedText.{text_of, record_lines, end_lines}
use Rattle.i9_course.specs.PipelinedRun.{steps, IsPipelinedPast, IsPipelinedRun, finish_after}
use Rattle.i9_machine.specs.declared.line.Line.{Line}
use Rattle.i9_machine.specs.declared.line.Turn.{Turn}
use Rattle.i9_machine.specs.declared.line.Turn.TheVariants as turns
use Rattle.i9_tool.specs.declared.words.Range.{Range}
use Rattle.i9_tool.specs.Traced.{line_where, traced_line, printed_text, headed_text}
use Rattle.i9_lines.specs.declared.print.Printed.{Printed}
use Rattle.i9_lines.specs.declared.print.Printed.TheVariants as printed
use Rattle.i9_tool.specs.declared.run.Counted.{Counted}
use Rattle.i9_tool.specs.declared.run.Ran.{Ran}
use Rattle.i9_tool.specs.declared.run.Ran.TheVariants as ran
use Rattle.i9_lines.specs.Print.{Output, Prints, line_text, OnCut}
use Rattle.i9_debug.specs.Session.{Place, at, ended}
use Rattle.i9_debug.specs.Driven.{StandsAt, StopsAt, Target}

-- how the printing of the run's text ended
abbrev pub printed_of : Ran → Printed
printed_of (ran.Done end) = printed.Done
printed_of ran.Write = printed.Write
printed_of ran.Memory = printed.Memory

-- where all was printed, the end of the run is answered
abbrev pub TellsEnd : Ran → Finish → Type 0
TellsEnd (ran.Done end) f = end ≡ f.end
TellsEnd ran.Write f = Unit {0}
TellsEnd ran.Memory f = Unit {0}

-- A text of the run of what is given, whose results land late, was printed on a sink of this type, or a front of it.
pub record RunsAs {K : Type 0} (text : Given → List Record → Finish → List ℕ) (answer : Ran) (g : Given)
    (out : Output K) : Type 0 where
  pub records : List Record
  pub finish : Finish
  pub run : IsPipelinedRun g records finish
  pub prints : Prints (printed_of answer) out.account out.old out.new (text g records finish)
  pub tells : TellsEnd answer finish

-- the text of a run of which a range is traced, or nothing
abbrev pub Runs : {K : Type 0} → Ran → Option Range → Given → Output K → Type 0
Runs answer traced g out = RunsAs (printed_text traced) answer g out

-- the same behind the line of the version of its schedule
abbrev pub RunsHeaded : {K : Type 0} → Ran → ℕ → Option Range → Given → Output K → Type 0
RunsHeaded answer version traced g out = RunsAs (headed_text version traced) answer g out

-- ---- the same under a relation of answers, those that it allows at an address

-- A text of records, newest first, where the line of an instruction goes by an answer that is allowed at its address.
pub data TracedBy (allows : ℕ → Bool → Type 0) : List Record → List ℕ → Type 0 where
  traced_none : TracedBy allows [] []
  traced_next : (rs : List Record) (text : List ℕ) (r : Record) (answer : Bool) → TracedBy allows rs text
      → (counts_of r.kind ≡ 1 → allows r.before.ip answer)
      → TracedBy allows (r ∷ rs) (text ++ (traced_line (λ a. answer) r ++ text_of (record_lines r)))

-- printing stopped before all was printed
abbrev pub IsCut : Ran → Type 0
IsCut (ran.Done end) = ⊥
IsCut ran.Write = Unit {0}
IsCut ran.Memory = Unit {0}

-- what came behind the text of records: that of the end, where it was reached, and nothing where printing stopped
pub data StopsWith (g : Given) (rs : List Record) : Ran → List ℕ → Type 0 where
  at_end : (answer : Ran) (f : Finish) → finish_after g rs ≡ Some f → TellsEnd answer f
      → StopsWith g rs answer (text_of (end_lines (state_after g rs) f))
  before_end : (answer : Ran) → IsCut answer → StopsWith g rs answer []

-- The text of the first records of the run of what is given was printed on a sink of this type, or a front of it; where
-- all was printed, they are all, and the end is behind them.
pub record TracesBy {K : Type 0} (answer : Ran) (allows : ℕ → Bool → Type 0) (g : Given) (out : Output K)
    : Type 0 where
  pub records : List Record
  pub past : IsPipelinedPast g records
  pub text : List ℕ
  pub traced : TracedBy allows records text
  pub rest : List ℕ
  pub stops : StopsWith g records answer rest
  pub prints : Prints (printed_of answer) out.account out.old out.new (text ++ rest)

-- A traced run was cut: the text of the records before is whole, and behind them one more was done at most, or the end
-- came.
pub data CutInTrace (allows : ℕ → Bool → Type 0) (g : Given) : List ℕ → List ℕ → Place → Type 0 where
  behind_step : (before last : List Record) (x y : List ℕ) (t : ℕ) → length last ≤ 1 → TracedBy allows before x
      → TracedBy allows (last ++ before) (x ++ y) → CutInTrace allows g x y (at (steps (last ++ before)) t)
  behind_end : (before : List Record) (x : List ℕ) (t : ℕ) (f : Finish) → TracedBy allows before x
      → CutInTrace allows g x (text_of (end_lines (state_after g before) f)) (ended (steps before) t f)

-- The same of a machine, which stands behind what was done. Where printing stopped, that is the place of the cut: all
-- is printed as it comes.
pub record DrivesBy {K : Type 0} (answer : Ran) (allows : ℕ → Bool → Type 0) (g : Given) (out : Output K)
    (driven : Target) : Type 0 where
  pub traces : TracesBy answer allows g out
  pub place : Place
  pub stands : StandsAt g place driven.machine driven.plan
  pub stopped : OnCut (printed_of answer)
      (StopsAt (CutInTrace allows g) (printed_of answer) out.account out.old out.new place)

-- an answer is allowed at the address of a step's instruction
abbrev pub AllowsTurn : (ℕ → Bool → Type 0) → Turn → Bool → Type 0
AllowsTurn allows turns.On answer = Unit {0}
AllowsTurn allows (turns.Issued t) answer = allows t.address answer
AllowsTurn allows (turns.End e) answer = Unit {0}
AllowsTurn allows turns.Memory answer = Unit {0}

-- the line of a step's instruction, where the answer is true
abbrev pub turn_text : Bool → Turn → List ℕ
turn_text answer turns.On = []
turn_text answer (turns.Issued t) = line_where answer t.count t.address t.first t.second
turn_text answer (turns.End e) = []
turn_text answer turns.Memory = []

-- what is printed of a step: the line of its instruction, and then its lines
abbrev pub step_text : Bool → Turn → List Line → List ℕ
step_text answer turn lines = turn_text answer turn ++ flat_map line_text lines

-- The text of a step was printed, where an answer that is allowed says whether it has the line of an instruction.
pub record PrintsBy {K : Type 0} (answer : Printed) (allows : ℕ → Bool → Type 0) (turn : Turn) (text : Bool → List ℕ)
    (out : Output K) : Type 0 where
  pub passes : Bool
  pub allowed : AllowsTurn allows turn passes
  pub prints : Prints answer out.account out.old out.new (text passes)

-- The run of what is given, whose results land late, comes to so many instructions and so many events, and to this end.
pub record Counts (counted : Counted) (g : Given) : Type 0 where
  pub records : List Record
  pub finish : Finish
  pub run : IsPipelinedRun g records finish
  pub end : counted.end ≡ finish.end
  pub count : counted.count ≡ (state_after g records).count
  pub events : counted.events ≡ length (reached_in g records finish)
