-- What is printed while an image runs is the text of its run, or a front of it.
use Rattle.std.proofs.Common.{◌≡◌, ◌≢◌, ℕ, ◌≤◌, Bool, false, List, [], ◌∷◌, ◌++◌, length, flat_map, Option, Some, None, inl, inr, codes, refl, sym, ap, ◌∙◌, subst, append_assoc, arith}
use Rattle.std.proofs.lemmas.Bool.{cases_Bool}
use Rattle.std.proofs.lemmas.List.{append-nil}
use Rattle.std.specs.Prelude.{◌==◌}
use Rattle.i9_model.specs.ScheduleText.{levels_version}
use Rattle.i9_model.specs.State.{State}
use Rattle.i9_model.specs.declared.run.End.{End}
use Rattle.i9_model.specs.Run.{Given, Kind, Instruction, Faulted, Entered, Interrupted, Reached, Record, counts_of, state_after, Finish}
use Rattle.i9_model.specs.PrintedText.{text_of, lines_of, record_lines, end_lines, run_text, heading_text}
use Rattle.i9_past.proofs.Lines.{text_of-append}
use Rattle.i9_course.specs.PipelinedRun.{steps, IsPipelinedPast}
use Rattle.i9_course.proofs.PipelinedRuns.{pipelined_goes_on, records_of-steps}
use Rattle.i9_machine.specs.declared.line.Line.{Line}
use Rattle.i9_machine.specs.declared.line.Turn.{Turn}
use Rattle.i9_machine.specs.declared.line.Turn.TheVariants as turns
use Rattle.i9_machine.specs.declared.machine.Machine.{Machine}
use Rattle.i9_schedule.specs.Plan.{Plan}
use Rattle.i9_machine.specs.Step.{TellsRecord}
use Rattle.i9_machine.specs.StandsFor.{StandsFor, Follows, IsUnderWay, DoesNext, Comes}
use Rattle.i9_machine.specs.Progress.{progress}
use Rattle.i9_lines.specs.declared.print.Printed.{Printed}
use Rattle.i9_lines.specs.declared.print.Printed.TheVariants.{Done}
use Rattle.i9_tool.specs.declared.run.Ran.{Ran}
use Rattle.i9_tool.specs.declared.run.Ran.TheVariants as ran
use Rattle.i9_lines.specs.Print.{Account, Prints, line_text, output}
use Rattle.i9_tool.specs.declared.words.Range.{Range}
use Rattle.i9_tool.specs.Traced.{is_within, issued_words, issued_line, traced_line, traced_lines, traced_text}
use Rattle.i9_tool.specs.Run.{RunsAs, Runs, RunsHeaded, TracedBy, traced_none, traced_next, IsCut, StopsWith, at_end, before_end, TracesBy, behind_step, behind_end, DrivesBy, AllowsTurn, TellsEnd, turn_text, step_text, printed_of}
use Rattle.i9_debug.specs.Session.{at, ended}
use Rattle.i9_debug.specs.Driven.{target}
use Rattle.i9_lines.proofs.TextLines.{IsClosed, closed_none, closed_line}
use Rattle.i9_lines.proofs.Prints.{prints_none, prints_then, prints_stop, prints_same, prints_refused, on_cut}
use Rattle.i9_lines.proofs.ClosedLines.{lines-text}
use Rattle.i9_tool.proofs.TracedLines.{closed_traces, closed_by}

-- the machine of a run stands for its records
pub under_way : (g : Given) (rs : List Record) (m : Machine) (plan : Plan) → StandsFor g (steps rs) None m → Follows g (steps rs) plan → IsUnderWay m plan
under_way g rs m plan stands follows = record { given = g; items = steps rs; stands = stands; follows = follows }

-- ---- where printing stopped before its end

tells_cut : (answer : Ran) (e : Finish) → IsCut answer → TellsEnd answer e
tells_cut (ran.Done end) e cut = absurd cut
tells_cut ran.Write e cut = tt
tells_cut ran.Memory e cut = tt

not_done : (answer : Ran) → IsCut answer → printed_of answer ≢ Done
not_done (ran.Done e) cut = absurd cut
not_done ran.Write cut = λ e. cc
not_done ran.Memory cut = λ e. cc

-- ---- the line of a step's instruction, by an answer

module _ (allows : ℕ → Bool → Type 0) (answer : Bool) where
  -- An instruction is told as its record has it, and an answer that is allowed at it is allowed there; what is none has
  -- no line.
  told_as : (kind : Kind) (s : State) (turn : Turn) → TellsRecord kind s turn → AllowsTurn allows turn answer
      → (turn_text answer turn ≡ issued_line (λ a. answer) s (issued_words kind)) × (counts_of kind ≡ 1 → allows s.ip answer)
  told_as (Instruction i) s (turns.Issued t) h allowed =
      (rw (h.number, h.place, h.one, h.two) refl, λ one. rw h.place at allowed)
  told_as (Faulted inst fault) s (turns.Issued t) h allowed =
      (rw (h.number, h.place, h.one, h.two) refl, λ one. rw h.place at allowed)
  told_as (Entered e) s turns.On h allowed = (refl, λ one. absurd (omega (arith, one)))
  told_as (Interrupted c e) s turns.On h allowed = (refl, λ one. absurd (omega (arith, one)))
  told_as (Reached e u) s turns.On h allowed = (refl, λ one. absurd (omega (arith, one)))
  told_as _ s _ h allowed = absurd h

  -- the text of a step is that of its record
  more_traced : (g : Given) (rs : List Record) (before m : Machine) (was plan : Plan) (ls : List Line) (turn : Turn)
      (text : List ℕ) → (d : DoesNext g (steps rs) turn (progress before was []) (progress m plan ls))
      → AllowsTurn allows turn answer → TracedBy allows rs text
      → TracedBy allows (d.done ∷ rs) (text ++ step_text answer turn ls)
  more_traced g rs before m was plan ls turn text d allowed traced =
      let told = told_as d.done.kind d.done.before turn d.tells allowed in
      let lines : flat_map line_text ls ≡ text_of (record_lines d.done) = lines-text ls ∙ ap text_of d.lines in
      rw (told.0, lines) (traced_next rs text d.done answer traced told.1)

module _ (allows : ℕ → Bool → Type 0) (g : Given) {K : Type 0} (k : Account K) where
  abbrev Printing : Printed → K → K → List ℕ → Type 0
  Printing answer a b text = Prints answer k a b text

  -- memory was refused before the first step
  pub nothing_yet : (a : K) → TracesBy ran.Memory allows g (output k a a)
  nothing_yet a = record {
    records = [];
    past = tt;
    text = [];
    traced = traced_none;
    rest = [];
    stops = before_end ran.Memory tt;
    prints = prints_refused k a _;
  }

  -- Records were done from the start of the run, and their text was printed.
  pub record Traced (a b : K) (m : Machine) (plan : Plan) : Type 0 where
    pub done : List Record
    pub stands : StandsFor g (steps done) None m
    pub follows : Follows g (steps done) plan
    pub text : List ℕ
    pub traced : TracedBy allows done text
    pub prints : Printing Done a b text

  pub none_done : (a : K) (m : Machine) (plan : Plan) → StandsFor g [] None m → Follows g [] plan → Traced a a m plan
  none_done a m plan stands follows =
      record { done = []; stands = stands; follows = follows; text = []; traced = traced_none; prints = prints_none k a }

  module _ (a b c : K) (old before m : Machine) (was plan : Plan) (ls : List Line) (passes : Bool) (s : Traced a b old was) where
    abbrev Came : Turn → Type 0
    Came turn = Comes g (steps s.done) turn (progress before was []) (progress m plan ls)

    behind : (answer : Printed) (x : List ℕ) → Printing answer b c x → Printing answer a c (s.text ++ x)
    behind answer x p = prints_then k answer a b c s.text x (closed_by allows s.done s.text s.traced) s.prints p

    -- a step was done
    pub one_done : (turn : Turn) → DoesNext g (steps s.done) turn (progress before was []) (progress m plan ls)
        → AllowsTurn allows turn passes → Printing Done b c (step_text passes turn ls) → Traced a c m plan
    one_done turn d allowed p = record {
      done = d.done ∷ s.done;
      stands = d.stands;
      follows = d.follows;
      text = s.text ++ step_text passes turn ls;
      traced = more_traced allows passes g s.done before m was plan ls turn s.text d allowed s.traced;
      prints = behind Done _ p;
    }

    -- printing stopped in the text of a record more, or none
    cut_by : (answer : Ran) (last : List Record) (x : List ℕ) → IsCut answer → length last ≤ 1
        → StandsFor g (steps (last ++ s.done)) None m → Follows g (steps (last ++ s.done)) plan
        → TracedBy allows (last ++ s.done) (s.text ++ x) → Printing (printed_of answer) b c x
        → DrivesBy answer allows g (output k a c) (target m plan)
    cut_by answer last x cut few stands follows traced p = record {
      traces = record {
        records = last ++ s.done;
        past = stands.past;
        text = s.text ++ x;
        traced = traced;
        rest = [];
        stops = before_end answer cut;
        prints = rw append-nil (behind (printed_of answer) x p);
      };
      place = at (steps (last ++ s.done)) m.pipeline.turn;
      stands = record { stands = stands; turn = refl; follows = follows; events = follows.events };
      stopped = on_cut (printed_of answer) _ (record {
        whole = s.text;
        rest = x;
        is_cut = behind_step s.done last s.text x m.pipeline.turn few s.traced traced;
        between = b;
        first = s.prints;
        behind = p;
      });
    }

    -- the end was reached
    pub at_the_end : (answer : Ran) (e : End) → (d : Came (turns.End e)) → TellsEnd answer d.finish
        → Printing (printed_of answer) b c (step_text passes (turns.End e) ls)
        → DrivesBy answer allows g (output k a c) (target m plan)
    at_the_end answer e d tells p =
        let last = text_of (end_lines (state_after g s.done) d.finish) in
        let same : flat_map line_text ls ≡ last = lines-text ls ∙ ap text_of d.lines
        ∙ ap (λ (qs : List Record). text_of (end_lines (state_after g qs) d.finish)) (records_of-steps s.done) in
        let said : Printing (printed_of answer) b c last = prints_same k (printed_of answer) b c _ _ same p in
        record {
          traces = record {
            records = s.done;
            past = d.stands.past;
            text = s.text;
            traced = s.traced;
            rest = last;
            stops = at_end answer d.finish d.is_end tells;
            prints = behind (printed_of answer) last said;
          };
          place = ended (steps s.done) m.pipeline.turn d.finish;
          stands = record { stands = d.stands; turn = refl; follows = tt; events = d.follows.events };
          stopped = on_cut (printed_of answer) _ (record {
            whole = s.text;
            rest = last;
            is_cut = behind_end s.done s.text m.pipeline.turn d.finish s.traced;
            between = b;
            first = s.prints;
            behind = said;
          });
        }

    in_next : (answer : Ran) (turn : Turn) → IsCut answer
        → DoesNext g (steps s.done) turn (progress before was []) (progress m plan ls) → AllowsTurn allows turn passes
        → Printing (printed_of answer) b c (step_text passes turn ls)
        → DrivesBy answer allows g (output k a c) (target m plan)
    in_next answer turn cut d allowed p =
        cut_by answer (d.done ∷ []) _ cut (omega arith) d.stands d.follows
        (more_traced allows passes g s.done before m was plan ls turn s.text d allowed s.traced) p

    -- printing stopped in the text of a step, or memory was refused for it
    pub in_step : (answer : Ran) (turn : Turn) → IsCut answer → Came turn → AllowsTurn allows turn passes
        → Printing (printed_of answer) b c (step_text passes turn ls)
        → DrivesBy answer allows g (output k a c) (target m plan)
    in_step answer turns.On cut d allowed p = in_next answer turns.On cut d allowed p
    in_step answer (turns.Issued t) cut d allowed p = in_next answer (turns.Issued t) cut d allowed p
    in_step answer (turns.End e) cut d allowed p = at_the_end answer e d (tells_cut answer d.finish cut) p
    in_step answer turns.Memory cut d allowed p =
        cut_by answer [] [] cut (omega arith) d.stands d.follows (rw append-nil s.traced)
        (prints_same k (printed_of answer) b c _ _ (ap (flat_map line_text) d.lines) p)

-- ---- a relation that allows one answer at each address

-- it allows no answer but this one
abbrev pub AnswersAs : (ℕ → Bool → Type 0) → (ℕ → Bool) → Type 0
AnswersAs allows passes = (a : ℕ) (answer : Bool) → allows a answer → answer ≡ passes a

module _ (allows : ℕ → Bool → Type 0) (passes : ℕ → Bool) (agree : AnswersAs allows passes) where
  same_line : (answer : Bool) (kind : Kind) (s : State) → (counts_of kind ≡ 1 → allows s.ip answer) → issued_line (λ a. answer) s (issued_words kind) ≡ issued_line passes s (issued_words kind)
  same_line answer (Instruction i) s allowed = ap (λ (b : Bool). issued_line (λ a. b) s (issued_words (Instruction i))) (agree s.ip answer (allowed refl))
  same_line answer (Faulted inst fault) s allowed = ap (λ (b : Bool). issued_line (λ a. b) s (issued_words (Faulted inst fault))) (agree s.ip answer (allowed refl))
  same_line answer _ s allowed = refl

  same_lines : (rs : List Record) (text : List ℕ) → TracedBy allows rs text → text ≡ traced_lines passes rs
  same_lines [] text traced_none = refl
  same_lines (r ∷ rs) text (traced_next _ before _ answer traced allowed) =
      ap (λ (t : List ℕ). t ++ (traced_line (λ a. answer) r ++ text_of (record_lines r))) (same_lines rs before traced)
      ∙ ap (λ (t : List ℕ). traced_lines passes rs ++ (t ++ text_of (record_lines r))) (same_line answer r.kind r.before allowed)

  later_lines : (later rs : List Record) → (more : List ℕ) × (traced_lines passes (later ++ rs) ≡ traced_lines passes rs ++ more)
  later_lines [] rs = ([], sym (append-nil (traced_lines passes rs)))
  later_lines (r ∷ later) rs =
      let l = later_lines later rs in
      let mine = traced_line passes r ++ text_of (record_lines r) in
      (l.0 ++ mine, ap (λ (t : List ℕ). t ++ mine) l.1 ∙ append_assoc (traced_lines passes rs) l.0 mine)

  module _ {K : Type 0} (k : Account K) (g : Given) where
    -- the text that was printed goes on to that of a whole run
    whole_run : (answer : Ran) (rs : List Record) (text rest : List ℕ) (a b : K) → IsPipelinedPast g rs → text ≡ traced_lines passes rs → StopsWith g rs answer rest
        → Prints (printed_of answer) k a b (text ++ rest) → RunsAs (traced_text passes) answer g (output k a b)
    whole_run answer rs text rest a b past same (at_end _ e ends tells) p = record {
      records = rs;
      finish = e;
      run = record { past = past; ends = ends };
      prints = prints_same k (printed_of answer) a b _ _ (ap (λ (t : List ℕ). t ++ text_of (end_lines (state_after g rs) e)) same) p;
      tells = tells;
    }
    whole_run answer rs text rest a b past same (before_end _ cut) p =
        let on = pipelined_goes_on g rs past in
        let l = later_lines on.0 rs in
        let last = text_of (end_lines (state_after g (on.0 ++ rs)) on.1) in
        let closed : IsClosed (text ++ []) = subst IsClosed (sym (append-nil text ∙ same)) (closed_traces passes rs) in
        let goes_on : (text ++ []) ++ (l.0 ++ last) ≡ traced_lines passes (on.0 ++ rs) ++ last =
        ap (λ (t : List ℕ). t ++ (l.0 ++ last)) (append-nil text ∙ same) ∙ sym (append_assoc (traced_lines passes rs) l.0 last) ∙ ap (λ (t : List ℕ). t ++ last) (sym l.1) in
        record {
          records = on.0 ++ rs;
          finish = on.1;
          run = on.2;
          prints = prints_same k (printed_of answer) a b _ _ goes_on (prints_stop k (printed_of answer) a b _ (l.0 ++ last) closed (not_done answer cut) p);
          tells = tells_cut answer on.1 cut;
        }

    whole : (answer : Ran) (a b : K) → TracesBy answer allows g (output k a b) → RunsAs (traced_text passes) answer g (output k a b)
    whole answer a b h = whole_run answer h.records h.text h.rest a b h.past (same_lines h.records h.text h.traced) h.stops h.prints

-- the addresses of a range pass
pub runs_ranged : (allows : ℕ → Bool → Type 0) {K : Type 0} (k : Account K) (g : Given) (answer : Ran) (traced : Option Range) (range : Range) (a b : K) → traced ≡ Some range
    → TracesBy answer allows g (output k a b) → AnswersAs allows (is_within range) → Runs answer traced g (output k a b)
runs_ranged allows k g answer traced range a b e traces agree = subst (λ (o : Option Range). Runs answer o g (output k a b)) (sym e) (whole allows (is_within range) agree k g answer a b traces)

-- ---- nothing is traced

-- the text without the line of any instruction
none_traced : (rs : List Record) → traced_lines (λ a. false) rs ≡ text_of (lines_of rs)
none_traced [] = refl
none_traced (r ∷ rs) =
    ap (λ (t : List ℕ). traced_lines (λ a. false) rs ++ (t ++ text_of (record_lines r))) (no_line r.before (issued_words r.kind))
    ∙ ap (λ (t : List ℕ). t ++ text_of (record_lines r)) (none_traced rs) ∙ sym (text_of-append (lines_of rs) (record_lines r))
  where
    no_line : (s : State) (words : _) → issued_line (λ a. false) s words ≡ []
    no_line s None = refl
    no_line s (Some n) = refl

untraced_text : (g : Given) (rs : List Record) (f : Finish) → traced_text (λ a. false) g rs f ≡ run_text g rs f
untraced_text g rs f =
    ap (λ (t : List ℕ). t ++ text_of (end_lines (state_after g rs) f)) (none_traced rs) ∙ sym (text_of-append (lines_of rs) (end_lines (state_after g rs) f))

pub runs_unranged : (allows : ℕ → Bool → Type 0) {K : Type 0} (k : Account K) (g : Given) (answer : Ran) (traced : Option Range) (a b : K) → traced ≡ None
    → TracesBy answer allows g (output k a b) → AnswersAs allows (λ a. false) → Runs answer traced g (output k a b)
runs_unranged allows k g answer traced a b e traces agree =
    let h = whole allows (λ a. false) agree k g answer a b traces in
    subst (λ (o : Option Range). Runs answer o g (output k a b)) (sym e)
    (record { records = h.records; finish = h.finish; run = h.run; prints = prints_same k (printed_of answer) a b _ _ (untraced_text g h.records h.finish) h.prints; tells = h.tells })

-- ---- behind the line of the version of the schedule

closed_heading : (version : ℕ) → IsClosed (heading_text version)
unfolding heading_text
closed_heading version = elim (cases_Bool (version == levels_version)) [
  | inl is ↦ rw is (closed_line (codes "schedule 2" ++ 10 ∷ []) refl)
  | inr other ↦ rw other closed_none
]

pub headed : {K : Type 0} (k : Account K) (g : Given) (answer : Ran) (said version : ℕ) (traced : Option Range) (a b c : K) → said ≡ version
    → Prints Done k a b (heading_text said) → Runs answer traced g (output k b c) → RunsHeaded answer version traced g (output k a c)
headed k g answer said version traced a b c same first r = record {
  records = r.records;
  finish = r.finish;
  run = r.run;
  prints = prints_then k (printed_of answer) a b c _ _ (closed_heading version) (prints_same k Done a b _ _ (ap heading_text same) first) r.prints;
  tells = r.tells;
}

-- the line was not printed, and so nothing of the run
pub headed_cut : {K : Type 0} (k : Account K) (g : Given) (answer : Ran) (said version : ℕ) (traced : Option Range) (a b : K) → IsCut answer → said ≡ version
    → Prints (printed_of answer) k a b (heading_text said) → RunsHeaded answer version traced g (output k a b)
headed_cut k g answer said version traced a b cut same p =
    let on = pipelined_goes_on g [] tt in
    let first = prints_same k (printed_of answer) a b _ _ (ap heading_text same) p in
    record {
      records = on.0 ++ [];
      finish = on.1;
      run = on.2;
      prints = prints_stop k (printed_of answer) a b _ _ (closed_heading version) (not_done answer cut) first;
      tells = tells_cut answer on.1 cut;
    }
