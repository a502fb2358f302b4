-- A record that was done is what the step answers.
use Rattle.std.proofs.Common.{Bor, ◌≡◌, ℕ, ◌+◌, ◌^◌, ◌<◌, ◌≤◌, Bool, true, false, cond, eqb, List, length, drop, ◌++◌, ◌||◌, nat_lt, Option, Some, None, refl, sym, ap, ◌∙◌, subst, length-append, arith}
use Rattle.std.proofs.lemmas.Bool.Decides.{nat_tests}
use Rattle.std.specs.Prelude.{is_some}
use Rattle.std.specs.Option.{option_map, option_copied}
use Rattle.std.proofs.lemmas.Option.{slice_get_within}
use Rattle.i9_model.specs.declared.event.Event.{Event}
use Rattle.i9_model.specs.declared.event.Event.TheVariants as events
use Rattle.i9_model.specs.declared.event.Timed.{Timed}
use Rattle.i9_model.specs.declared.need.Need.{Need}
use Rattle.i9_model.specs.Alike.{AreAlike}
use Rattle.i9_model.specs.Before.{choice_in}
use Rattle.i9_model.specs.Left.{left_in}
use Rattle.i9_past.proofs.Comes.{MayCome, next_comes}
use Rattle.i9_past.proofs.Left.{counts_after, standing_by_place, plan_after, next_leaves}
use Rattle.i9_schedule.specs.Plan.{Plan}
use Rattle.i9_model.specs.State.{State}
use Rattle.i9_model.specs.declared.run.Point.{Point}
use Rattle.i9_model.specs.declared.run.End.TheVariants.{Limit}
use Rattle.i9_model.specs.Memory.{console_byte}
use Rattle.i9_model.specs.Step.{Action, acted, counted}
use Rattle.i9_model.specs.Run.{Kind, Reached, Record, Does, Ends, record_of, counts_of, due_by, reached_by, next_by_event, next_by_choice, next_in, finish}
use Rattle.i9_model.specs.PrintedText.{out_lines, point_lines, bytes_lines, event_lines, record_lines}
use Rattle.i9_processor.specs.declared.processor.Processor.{Processor}
use Rattle.i9_model.specs.declared.run.Due.{Due}
use Rattle.i9_model.specs.declared.run.Due.TheVariants as dues
use Rattle.i9_processor.specs.declared.effect.Effect.{Effect}
use Rattle.i9_processor.specs.Effect.{writes_in, HasRoomFor, has_writes, is_restart}
use Rattle.i9_processor.proofs.Rooms.{room_space}
use Rattle.i9_pipeline.specs.Issuing.{state_behind}
use Rattle.i9_machine.specs.Doing.{lines_of, asks_room, plan_behind_event, point_count, bytes_count, reached_lines, reached_count, event_in, line_count, HasRoomForStep, next_event}
use Rattle.i9_machine.specs.declared.step.Step.{Step}
use Rattle.i9_machine.specs.declared.line.Turn.{Turn}
use Rattle.i9_machine.specs.declared.line.Turn.TheVariants as turns
use Rattle.i9_machine.specs.Contents.{Situation, situation_in, Contents, at_turn}
use Rattle.i9_machine.specs.Step.{TellsRecord, NeedsRoom, LeavesFewer, IsStep, HasRoomToDo, HasRoom, turn_at, event_for, next_where, next_for, event_of, plan_behind, records_left, left_from, Stage, left_of, Did, Steps}
use Rattle.i9_machine.specs.Opening.{IsFreeToIssue}
use Rattle.i9_course.specs.Course.{instruction_ahead}

pub no_memory : (k : Kind) (s : State) → TellsRecord k s turns.Memory → ⊥
no_memory k s t = grind (arith, t)

pub did_steps : (before : Stage) (answer : Turn) (after : Stage) (s : State) (k : Kind) → TellsRecord k s answer
    → Did before answer after → Steps before answer after
did_steps before answer after s k t d = grind (arith, t, d)

pub fewer_by : (answer : Turn) (s : State) (k : Kind) (before now : ℕ) → TellsRecord k s answer → now < before
    → LeavesFewer answer before now
fewer_by answer s k before now t h = grind (arith, h)

-- ---- what is left

-- what is left in states that are alike
left_alike : (l : ℕ) (ts : List Timed) (d : Due) (s t : State) → AreAlike s t → left_in l ts d t ≡ left_in l ts d s
unfolding left_in
left_alike l ts d s t alike = ap (left_in l ts d) alike.rest

-- a step leaves less
pub did_fewer : (before : Stage) (answer : Turn) (after : Stage)
    → before.contents.pipeline.state.count ≤ before.contents.length → Did before answer after
    → left_of after < left_of before
unfolding left_from
did_fewer before answer after within d =
    let at = situation_in before.contents in
    let was = before.plan in
    let now = after.contents in
    let r = d.done in
    let leaves = next_leaves at.length was.events was.place at.due (event_for at was) at.state r
    (standing_by_place was.events was.place at.state.count (turn_at at)) d.is_next in
    let same : records_left (situation_in now) after.plan
    ≡ left_in at.length (plan_after was.events was.place r) (due_by r.kind r.before) r.after =
    (λ i. left_in (d.rest i).length (drop (d.behind i).place (d.behind i).events) (d.due i) now.pipeline.state)
    ∙ left_alike at.length (plan_after was.events was.place r) (due_by r.kind r.before) r.after now.pipeline.state d.state in
    let less : records_left (situation_in now) after.plan < records_left at was =
    subst (λ (n : ℕ). n < records_left at was) (sym same) (leaves.less within) in
    let turn : now.pipeline.turn ≡ before.contents.pipeline.turn = λ i. (d.issued.keeps i).turn in
    omega (arith, less, turn)

-- a move of the turn leaves less
pub move_fewer : (k : Contents) (plan : Plan) → k.pipeline.turn < 2 ^ 62
    → left_from (at_turn (k.pipeline.turn + 1) k) plan < left_from k plan
unfolding left_from
move_fewer k plan early = omega (arith, early)

-- a step stays within the length
pub did_within : (at : Situation) (was : Plan) (k : Kind) → at.state.count ≤ at.length
    → next_for at was ≡ Does (record_of k at.state) → at.state.count + counts_of k ≤ at.length
did_within at was k within is =
    let s = at.state in
    let leaves = next_leaves at.length was.events was.place at.due (event_for at was) s (record_of k s)
    (standing_by_place was.events was.place s.count (turn_at at)) is in
    let fits = leaves.within within in
    let count = counts_after k s in
    omega (arith, fits, count)

-- ---- one instruction comes next

-- below the length what comes goes by the choice of an interrupt
pub goes_on : (at : Situation) (stands : Option Event) → at.due ≡ dues.Nothing → at.state.count < at.length
    → next_where at stands ≡ next_by_choice stands at.state (choice_in at.state)
goes_on at stands none below =
    let s = at.state in
    let other : eqb s.count at.length ≡ false = grind (arith, nat_tests, below) in
    ap (λ (d : Due). next_in at.length d stands s) none
    ∙ ap (λ (b : Bool). cond b (Ends (finish Limit)) (next_by_choice stands s (choice_in s))) other

-- where none is chosen it goes by the event that stands there
pub goes_by_event : (at : Situation) (stands : Option Event) → IsFreeToIssue at
    → next_where at stands ≡ next_by_event stands at.state
goes_by_event at stands free = goes_on at stands free.due free.below ∙ ap (next_by_choice stands at.state) free.chosen

-- and where none stands there it is the instruction's turn
pub goes_by_itself : (at : Situation) → IsFreeToIssue at → next_where at None ≡ instruction_ahead at.state
goes_by_itself at free = goes_by_event at None free

-- what is borrowed, or nothing
pub copied_some : (o : Option (Bor Event)) → is_some o ≡ true → (e : Event) × (option_copied o ≡ Some e)
copied_some (Some x) is = (x.now, refl)
copied_some None is = absurd (cc is)

pub copied_none : (o : Option (Bor Event)) → is_some o ≡ false → option_copied o ≡ None
copied_none o is = grind arith

-- ---- lines

points_long : (p : Option Point) (s : State) → length (point_lines p s) ≡ point_count p
points_long p s = grind arith

-- the lines of the event that a record reached
event_lines_of : (k : Kind) (s : State) → event_lines k s ≡ reached_lines (event_of k) s
event_lines_of k s = grind arith

bytes_long : (e : Event) (s : State) → length (bytes_lines e s) ≡ bytes_count e
bytes_long e s = grind arith

reached_long : (o : Option Event) (s : State) → length (reached_lines o s) ≡ reached_count o
reached_long o s = grind (arith, bytes_long)

-- ---- the schedule

-- a step that reaches no event
pub no_event : (plan : Plan) (step : Step) → step.reaches ≡ false → event_in plan step ≡ None
no_event plan step none = grind arith

-- a step that reaches the event that stands there
pub next_stands : (at : Situation) (plan : Plan) (e : Event) → event_for at plan ≡ Some e
    → next_event plan true ≡ Some e
next_stands at plan e stands =
    let found = standing_by_place plan.events plan.place at.state.count (turn_at at) e stands in
    ap (option_map (λ (t : Timed). t.event)) found.1
    ∙ ap (λ (x : Event). Some x) found.2

pub one_event : (at : Situation) (plan : Plan) (step : Step) (e : Event) → step.reaches ≡ true
    → event_for at plan ≡ Some e → event_in plan step ≡ Some e
one_event at plan step e reaches stands = ap (next_event plan) reaches ∙ next_stands at plan e stands

-- what is answered as no instruction
pub tells_on : (k : Kind) (s : State) (answer : Turn) → answer ≡ turns.On → TellsRecord k s turns.On
    → TellsRecord k s answer
tells_on k s answer is tells = subst (TellsRecord k s) (sym is) tells

-- a record reaches the event that it names, and no other
pub reached_one : (k : Kind) (s : State) → length (reached_by k s) ≡ cond (is_some (event_of k)) 1 0
reached_one k s = grind arith

stands_within : (at : Situation) (plan : Plan) (e : Event) → event_for at plan ≡ Some e
    → plan.place < length plan.events
stands_within at plan e is =
    let found = standing_by_place plan.events plan.place at.state.count (turn_at at) e is in
    slice_get_within plan.events plan.place found.0 found.1

reaches_within : (at : Situation) (plan : Plan) (k : Kind) → MayCome at.length at.due (event_for at plan) at.state k
    → is_some (event_of k) ≡ true → plan.place < length plan.events
reaches_within at plan (Reached e u) may some = stands_within at plan e may.2
reaches_within at plan _ may some = absurd cc

-- a schedule has the event that a step reaches
pub step_within : (at : Situation) (plan : Plan) (k : Kind) → next_for at plan ≡ Does (record_of k at.state)
    → is_some (event_of k) ≡ true → plan.place < length plan.events
step_within at plan k is some =
    reaches_within at plan k (next_comes at.length at.due (event_for at plan) at.state (record_of k at.state) is).1 some

-- ---- a step

module _ (at : Situation) (plan : Plan) (step : Step) (need : Need) (e : Effect) (is : IsStep at plan step need e) where
  abbrev r : Record
  r = record_of is.kind at.state

  -- a schedule behind it is behind its record
  pub plan_is_behind : plan_behind_event plan step.reaches ≡ plan_behind plan r
  plan_is_behind =
      ap (plan_behind_event plan) is.reaches ∙ ap (λ (n : ℕ). record plan { place = plan.place + n })
      (sym (reached_one is.kind at.state))

  -- so is the state
  pub step_after : state_behind at.state e step.counts ≡ r.after
  step_after = λ i. counted (is.counts i) (acted at.state (is.effect.same i))

  -- its lines are those of its record
  pub step_lines : lines_of e step (event_in plan step) at.state (state_behind at.state e step.counts) ≡ record_lines r
  step_lines =
      let event = ap (λ (o : Option Event). reached_lines o at.state) is.event ∙ sym
      (event_lines_of is.kind at.state) in
      λ i. event i ++ (out_lines (console_byte (is.effect.same i).writes) ++ point_lines (is.point i) (step_after i))

  -- how many lines a record has
  record_long : length (record_lines r) ≡ line_count e step (event_in plan step)
  record_long =
      let event = reached_lines (event_in plan step) at.state in
      let out = out_lines (console_byte (writes_in e)) in
      let points = point_lines step.point (state_behind at.state e step.counts) in
      ap length (sym step_lines)
      ∙ length-append event (out ++ points)
      ∙ (λ i. reached_long (event_in plan step) at.state i + length-append out points i)
      ∙ ap (λ (n : ℕ). reached_count (event_in plan step) + (length out + n))
      (points_long step.point (state_behind at.state e step.counts))

  -- what it asks room for is what its record needs it for
  pub step_needs : asks_room at.state e step (event_in plan step) ≡ true → NeedsRoom (next_for at plan)
  step_needs asks =
      let action = sym is.effect.same in
      subst NeedsRoom (sym is.is_next)
      ((λ i. nat_lt 0 (record_long i) || (has_writes (action i) || is_restart (action i).control)) ∙ asks)

  -- a processor that has room for what comes next has room for it
  pub step_room : (p : Processor) (spare : ℕ) → HasRoom p spare (next_for at plan)
      → HasRoomForStep p spare e step (event_in plan step)
  step_room p spare room =
      let here : HasRoomToDo p spare r = subst (HasRoom p spare) is.is_next room in
      record {
        lines = subst (λ (n : ℕ). n ≤ spare) record_long here.lines;
        effect = room_space p at.state e (subst (HasRoomFor p) (sym is.effect.same) here.effect);
        no_sets = ap (λ (a : Action). is_restart a.control) is.effect.same ∙ here.no_sets;
      }
