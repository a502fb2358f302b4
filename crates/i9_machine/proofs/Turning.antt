-- The turn moves: what is planned stays, and what comes next comes at its turn.
use Rattle.std.proofs.Common.{◌≡◌, ℕ, ◌+◌, ◌<◌, ◌≤◌, true, List, [], Some, None, refl, sym, ap, ◌∙◌, subst, inl, inr, arith, Bool, cond, Option}
use Rattle.std.specs.List.{slice_get}
use Rattle.std.specs.Prelude.{IsTrue}
use Rattle.i9_model.specs.declared.need.Need.{Need}
use Rattle.i9_model.specs.declared.need.TimedNeed.{TimedNeed}
use Rattle.i9_model.specs.Run.{Given, Kind, Record, Does, record_of, due_after, state_after}
use Rattle.i9_model.specs.State.{State}
use Rattle.i9_model.specs.HeldFrames.{cache_after}
use Rattle.i9_model.specs.Turns.{HasCost, last_issue, issue_turn, end_turn, waiting_until}
use Rattle.i9_model.specs.Turns as board
use Rattle.i9_turns.proofs.TurnPending.{stands-pending_turn}
use Rattle.i9_model.specs.Late.{turns}
use Rattle.i9_schedule.specs.Plan.{Plan}
use Rattle.i9_course.specs.NeedOf.{need_of, need_ahead}
use Rattle.i9_course.specs.Course.{Item, records_of, course, need_after, issue_of_next, event_ahead, comes_next, ahead, issue_after, instruction_ahead, instruction_turn}
use Rattle.i9_course.proofs.Ahead.{ahead_by_end, ahead_precise}
use Rattle.i9_course.proofs.Barriers.{next_barrier, next_by_end}
use Rattle.i9_course.proofs.Checks.{checked_waits}
use Rattle.i9_course.proofs.NeedAlike.{next_need_alike}
use Rattle.i9_course.proofs.Placing.{next_turn}
use Rattle.i9_agree.proofs.AlikeSteps.{does_alike}
use Rattle.i9_agree.proofs.HeldRuns.{next_free}
use Rattle.i9_machine.specs.declared.line.Line.{Line}
use Rattle.i9_machine.specs.declared.machine.Machine.{Machine}
use Rattle.i9_pipeline.specs.Flow.{IsEndTurn}
use Rattle.i9_pipeline.proofs.InRun.{flow_moves, flow_quiet}
use Rattle.i9_pipeline.proofs.Paced.{paced_moves}
use Rattle.i9_machine.specs.Contents.{Situation, situation_in, Contents, contents_of, at_turn, IsMovedTo}
use Rattle.i9_machine.specs.Step.{need_at, turn_at, next_where, next_for, event_for}
use Rattle.i9_machine.specs.StandsFor.{Stand, StandsFor, Follows, IsUnderWay, MovesOn, left_after}
use Rattle.i9_machine.specs.Opening.{IsFreeToIssue, NextWaits, IsTimely}
use Rattle.i9_machine.specs.Overtaking.{HasPace}
use Rattle.i9_machine.specs.Progress.{progress}
use Rattle.i9_machine.proofs.Overtaking.{beside, same_turn_at, drained_precise, ahead_need, course_blind}
use Rattle.i9_machine.proofs.Issuing.{same_need}
use Rattle.i9_machine.proofs.Stepping.{goes_by_itself}
use Rattle.std.proofs.lemmas.Bool.{cases_lt, le-leb, lt-leb}
use Rattle.i9_model.specs.declared.event.Event.{Event}
use Rattle.i9_model.specs.declared.event.Timed.{Timed}
use Rattle.i9_model.specs.declared.event.When.{When}
use Rattle.i9_model.specs.declared.event.When.TheVariants.{At, Turn}
use Rattle.i9_model.specs.ScheduleText.{event_where, has_come_by, standing_by}

-- ---- the turn moves

-- to a turn below which nothing comes next, so that what is paced stays so
pub moved_stands : (g : Given) (h : List Item) (t : ℕ) (k : Contents) (wait : ℕ) → Stand g h None k
    → k.pipeline.turn ≤ t
    → t ≤ (ahead g h).turn → wait ≤ (ahead g h).turn → Stand g h None (record (at_turn t k) { wait = wait })
moved_stands g h t k wait stands later within bound =
    let by_end : (ahead g h).turn ≤ end_turn (turns (course g h).late) = ahead_by_end g h in
    record {
      past = stands.past;
      flow = flow_moves g h t k.pipeline later stands.flow;
      in_time = within;
      early = bound;
      paced = paced_moves k.pipeline (turns (course g h).late) t k.pipeline.floor _ stands.flow.board
          (omega (arith, within, by_end)) (omega arith) stands.paced;
      due = stands.due;
      length = stands.length;
      sets = stands.sets;
      ended = stands.ended;
      over = tt;
    }

-- by one
pub moved : (g : Given) (h : List Item) (before m : Machine) (plan : Plan) (lines : List Line) (wait : ℕ)
    → StandsFor g h None before → Follows g h plan → before.pipeline.turn < wait → wait ≤ (ahead g h).turn
    → IsMovedTo (before.pipeline.turn + 1) (record before { wait = wait }) m
    → MovesOn g h (progress before plan lines) (progress m plan lines)
moved g h before m plan lines wait stands follows later bound i = record {
  early = omega (arith, later, bound);
  turn = λ j. (i j).pipeline.turn;
  stands = subst (Stand g h None) (sym i)
      (moved_stands g h (before.pipeline.turn + 1) (contents_of before) wait stands (omega arith)
      (omega (arith, later, bound)) bound);
  follows = follows;
  lines = refl;
}

-- the turn is small
pub has_pace : (m : Machine) (plan : Plan) → IsUnderWay m plan → HasPace (contents_of m)
has_pace m plan u = (left_after u.given (records_of u.items), u.stands.paced)

-- it has a cost
pub waiting_cost : (t : ℕ) (need : Need) → HasCost need → HasCost (waiting_until t need)
waiting_cost t need h = record { some = h.some; plain = h.plain }

-- ---- the turn of what comes next

-- what waits for all comes when all is done
pub waits_until : (k : Contents) (plan : Plan) (until : ℕ) → IsEndTurn k.pipeline.board until
    → NextWaits (situation_in k) plan
    → (g : Given) (h : List Item) → Stand g h None k → Follows g h plan → (ahead g h).imprecise ≡ None
    → until ≤ (ahead g h).turn
waits_until k plan until end (inl check) g h stands follows precise =
    let rs = turns (course g h).late in
    let is : until ≡ end_turn rs = end rs stands.flow.board in
    let set : (state_after g (records_of h)).check ≡ true = sym (ap (λ (s : State). s.check) stands.flow.state.rest)
    ∙ check in
    let turn : (ahead g h).turn ≡ end_turn rs = checked_waits g h stands.past precise set in
    omega (arith, is, turn)
waits_until k plan until end (inr held) g h stands follows precise =
    let rs = turns (course g h).late in
    let is : until ≡ end_turn rs = end rs stands.flow.board in
    let o = comes_next g h in
    let need = next_need_alike g.sets (cache_after g (records_of h)) o (next_for (situation_in k) plan)
    (beside g h k plan stands follows) in
    let barrier : IsTrue (need_after g h o).barrier = sym (ap (λ (n : Need). n.barrier) need) ∙ held g.sets
    (cache_after g (records_of h)) in
    let turn : issue_of_next g h o ≡ end_turn rs = next_barrier g h o barrier in
    let ahead_turn : (ahead g h).turn ≡ issue_of_next g h o = ahead_precise g h precise in
    omega (arith, is, turn, ahead_turn)

-- an instruction comes at the turn that the scoreboard gives its need
pub comes_at : (j : Contents) (plan : Plan) (k : Kind) (need : Need) (t : ℕ)
    → next_for (situation_in j) plan ≡ Does (record_of k j.pipeline.state)
    → need ≡ need_of j.pipeline.size j.pipeline.cache j.pipeline.state k
    → ((rs : List TimedNeed) → board.StandsFor j.pipeline.board rs
    → t ≡ issue_turn (last_issue rs) rs (waiting_until j.pipeline.floor need))
    → (g : Given) (h : List Item) → Stand g h None j → Follows g h plan → (ahead g h).imprecise ≡ None
    → t ≡ (ahead g h).turn
comes_at j plan k need t is_next is_need turn g h stands follows precise =
    let rs = turns (course g h).late in
    let found = does_alike (comes_next g h) (next_for (situation_in j) plan) (record_of k j.pipeline.state)
    (beside g h j plan stands follows) is_next in
    let run = next_free g.length (due_after (records_of h)) (event_ahead g h)
    (state_after g (records_of h)) found.0 found.1 in
    let same = same_need g h j found.0 (record_of k j.pipeline.state) need stands found.2
    (ap (λ (x : Record). x.before) run.0) refl is_need in
    turn rs stands.flow.board
    ∙ ap (λ (f : ℕ). issue_turn (last_issue rs) rs (waiting_until f need)) stands.flow.fence
    ∙ sym (next_turn g h need precise (ap (need_ahead g.sets (cache_after g (records_of h))) found.1 ∙ same))

-- an instruction that comes where no event stands would issue at the turn of the instruction ahead
pub open_turn : (at : Situation) (k : Kind) (need : Need) (t : ℕ) (rs : List TimedNeed) → board.StandsFor at.board rs
    → IsFreeToIssue at → next_where at None ≡ Does (record_of k at.state) → need ≡ need_of at.size at.cache at.state k
    → t ≡ issue_turn (last_issue rs) rs (waiting_until at.floor need) → t ≡ turn_at at
open_turn at k need t rs stands free is_next is_need turn =
    let same : need ≡ need_at at = is_need ∙ sym
    (ap (need_ahead (Some at.size) at.cache) (sym (goes_by_itself at free) ∙ is_next)) in
    turn
    ∙ sym (stands-pending_turn at.board rs (waiting_until at.floor need) stands)
    ∙ ap (λ (n : Need). issue_turn at.board.last at.board.records (waiting_until at.floor n)) same

-- where nothing is open, what comes next may issue, and nothing waits
pub all_now : (g : Given) (h : List Item) (k : Contents) (until : ℕ) → IsEndTurn k.pipeline.board until
    → until ≤ k.pipeline.turn
    → Stand g h None k → ((ahead g h).imprecise ≡ None) × ((ahead g h).turn ≤ k.pipeline.turn)
all_now g h k until end le stands =
    let is : until ≡ end_turn (turns (course g h).late) = end (turns (course g h).late) stands.flow.board in
    let by_end : (ahead g h).turn ≤ end_turn (turns (course g h).late) = ahead_by_end g h in
    (drained_precise g h k stands (omega (arith, is, le)), omega (arith, is, le, by_end))

pub all_landed : (g : Given) (h : List Item) (k : Contents) (until : ℕ) → Stand g h None k
    → IsEndTurn k.pipeline.board until
    → until ≤ k.pipeline.turn → k.pipeline.queue ≡ []
all_landed g h k until stands end le =
    let is : until ≡ end_turn (turns (course g h).late) = end (turns (course g h).late) stands.flow.board in
    (flow_quiet g h k.pipeline stands.flow (omega (arith, is, le))).waiting

-- where the instruction comes next, it issues at its turn
itself_issues : (g : Given) (h : List Item) (k : Contents) (plan : Plan) → Stand g h None k → Follows g h plan
    → IsFreeToIssue (situation_in k) → event_for (situation_in k) plan ≡ None
    → issue_of_next g h (comes_next g h) ≡ instruction_turn g h
itself_issues g h k plan stands follows free none =
    let c = cache_after g (records_of h) in
    let same = next_need_alike g.sets c (comes_next g h) (next_for (situation_in k) plan)
    (beside g h k plan stands follows) in
    ap (issue_after (course g h))
    (sym same
    ∙ ap (need_ahead g.sets c) (ap (next_where (situation_in k)) none ∙ goes_by_itself (situation_in k) free)
    ∙ ahead_need g.sets c (state_after g (records_of h)) k.pipeline.state (course_blind g h stands.past) stands.flow.state)

pub is_timely : (g : Given) (h : List Item) (k : Contents) (plan : Plan) → Stand g h None k → Follows g h plan
    → end_turn (turns (course g h).late) ≤ k.pipeline.turn → IsTimely (situation_in k) k.pipeline.turn plan
is_timely g h k plan stands follows ended =
    let same : turn_at (situation_in k) ≡ instruction_turn g h = same_turn_at g h k stands in
    let by_end : instruction_turn g h ≤ end_turn (turns (course g h).late) = next_by_end g h
    (instruction_ahead (state_after g (records_of h))) in
    record {
      come = omega (arith, same, by_end, ended);
      early = λ free none.
          let in_time : k.pipeline.turn ≤ (ahead g h).turn = stands.in_time in
          let turn : (ahead g h).turn ≡ issue_of_next g h (comes_next g h) = ahead_precise g h
          (drained_precise g h k stands ended) in
          let itself : issue_of_next g h (comes_next g h) ≡ instruction_turn g h = itself_issues g h k plan stands
          follows free none in
          omega (arith, in_time, turn, itself, same);
    }

-- the event that stands there by the machine's turn
pub timely_event : (at : Situation) (now n : ℕ) (plan : Plan) (o : Option Event) → IsTimely at now plan
    → IsFreeToIssue at → n ≡ at.state.count → o ≡ standing_by plan.events plan.place n now → event_for at plan ≡ o
timely_event at now n plan o timely free count found =
    sym (found ∙ ap (λ (k : ℕ). standing_by plan.events plan.place k now) count
    ∙ by_next (slice_get plan.events plan.place) refl)
  where
    by_form : (w : When) (e : Event)
        → (cond (has_come_by at.state.count (turn_at at) w) (Some e) None ≡ None → now ≤ turn_at at)
        → cond (has_come_by at.state.count now w) (Some e) None ≡ cond (has_come_by at.state.count (turn_at at) w)
        (Some e) None
    by_form (At k) e early = refl
    by_form (Turn k) e early = elim (cases_lt (turn_at at) k) [
      | inl later ↦
          let none = ap (λ (b : Bool). cond b (Some e) None) (lt-leb k (turn_at at) later) in
          let turn : now ≤ turn_at at = early none in
          ap (λ (b : Bool). cond b (Some e) None) (lt-leb k now (omega (arith, later, turn))) ∙ sym none
      | inr come ↦
          let before : turn_at at ≤ now = timely.come in
          ap (λ (b : Bool). cond b (Some e) None)
          (le-leb k now (omega (arith, come, before)) ∙ sym (le-leb k (turn_at at) come))
    ]

    by_next : (o : Option Timed) → slice_get plan.events plan.place ≡ o
        → event_where (has_come_by at.state.count now) o ≡ event_where (has_come_by at.state.count (turn_at at)) o
    by_next None is = refl
    by_next (Some t) is =
        by_form t.when t.event
        (λ none. timely.early free (ap (event_where (has_come_by at.state.count (turn_at at))) is ∙ none))
