-- When what comes next of a machine comes, and what is known of it as the turn moves.
use Rattle.std.proofs.Common.{◌≡◌, ℕ, ◌+◌, ◌<◌, ◌≤◌, max, Bool, false, List, Option, None, Some, refl, sym, ap, ◌∙◌, subst, subst₂, inl, inr, arith}
use Rattle.std.proofs.lemmas.Bool.{cases_lt}
use Rattle.i9_isa.specs.declared.inst.Inst.{Inst}
use Rattle.i9_model.specs.declared.need.Need.{Need}
use Rattle.i9_model.specs.declared.need.TimedNeed.{TimedNeed}
use Rattle.i9_model.specs.declared.event.Event.{Event}
use Rattle.i9_model.specs.Late as late
use Rattle.i9_model.specs.Run.{Given, Kind, Does, record_of}
use Rattle.i9_model.specs.ScheduleText.{standing_by}
use Rattle.i9_model.specs.State.{State}
use Rattle.i9_model.specs.Turns.{HasCost, last_issue, issue_turn, end_turn, waiting_until}
use Rattle.i9_model.specs.Turns as board
use Rattle.i9_schedule.specs.Plan.{Plan}
use Rattle.i9_course.specs.NeedOf.{need_of}
use Rattle.i9_course.specs.Course.{Item, course, ahead}
use Rattle.i9_course.proofs.Ahead.{ahead_by_end}
use Rattle.i9_course.proofs.Timed.{need_cost}
use Rattle.i9_processor.specs.declared.effect.Effect.{Effect}
use Rattle.i9_machine.specs.declared.line.Turn.{Turn}
use Rattle.i9_machine.specs.declared.line.Turn.TheVariants as turns
use Rattle.i9_machine.specs.declared.machine.Machine.{Machine}
use Rattle.i9_machine.specs.declared.step.Coming.{Coming}
use Rattle.i9_machine.specs.declared.step.Coming.TheVariants.{Waiting, Overtaking}
use Rattle.i9_machine.specs.Coming.{ArrivesAt, Arrives, HasArrived, IsAhead, IsNextInstruction, kind_of, overtaken_by}
use Rattle.i9_pipeline.proofs.Paced.{paced_turn}
use Rattle.i9_machine.specs.Contents.{Situation, situation, situation_in, outlook, Contents, contents_of, IsLike, at_turn, IsMovedTo, IsPassedTo}
use Rattle.i9_pipeline.specs.Flow.{flow_of, IsEndTurn}
use Rattle.i9_pipeline.specs.Issuing.{most_turns}
use Rattle.i9_machine.specs.Opening.{NextWaits, HasKept, HasNeed}
use Rattle.i9_machine.specs.Overtaking.{late_due, HasPace, IssuesAhead}
use Rattle.i9_machine.specs.StandsFor.{Stand, StandsFor, Follows, IsUnderWay}
use Rattle.i9_machine.specs.Step.{event_for, next_for, left_from, steps_left, LeavesFewer, IsStepIn, IsStep, IsPlannedIn, IsPlanned}
use Rattle.i9_machine.specs.declared.step.Step.{Step}
use Rattle.i9_course.proofs.Barriers.{need_unbound}
use Rattle.i9_machine.proofs.Overtaking.{calm_precise, ahead_issues}
use Rattle.i9_machine.proofs.Stepping.{move_fewer}
use Rattle.i9_machine.proofs.Turning.{moved_stands, waits_until, comes_at, open_turn, all_now}

-- the need of a kind of record is kept
keeps_need : (at : Situation) (kind : Kind) (need kept : Need) → kept ≡ waiting_until at.floor need
    → need ≡ need_of at.size at.cache at.state kind → need.cost ≤ most_turns → HasKept at.floor kept
keeps_need at kind need kept fenced is cost = record {
  need = need;
  fenced = fenced;
  some = subst HasCost (sym is) (need_cost at.size at.cache at.state kind);
  cost = cost;
  none = ap (λ (n : Need). n.not_before) is ∙ need_unbound at.size at.cache at.state kind;
}

-- so is that of the instruction ahead
pub kept_need : (at : Situation) (kind : Kind) (kept : Need) → HasNeed at kind kept → HasKept at.floor kept
kept_need at kind kept n = keeps_need at kind n.need kept n.fenced n.is_need n.cost

pub like_kept : (m mid : Machine) (kind : Kind) → IsLike m mid → HasNeed (situation m) kind mid.need
    → HasKept mid.pipeline.floor mid.need
like_kept m mid kind like n =
    subst (λ (x : Machine). HasKept x.pipeline.floor mid.need) (sym like) (kept_need (situation m) kind mid.need n)

-- and that of a step
pub kept_planned : (at : Situation) (plan : Plan) (step : Step) (m : Machine) → IsPlannedIn at plan step m
    → HasKept at.floor m.need
kept_planned at plan step m p = keeps_need at p.is.kind p.need m.need p.fenced p.is.is_need p.is.cost

-- by it the instruction ahead issues
pub need_issues : (m mid : Machine) (kind : Kind) (t : ℕ) → IsLike m mid → HasNeed (situation m) kind mid.need
    → ((rs : List TimedNeed) → board.StandsFor mid.pipeline.board rs → t ≡ issue_turn (last_issue rs) rs mid.need)
    → IssuesAhead (contents_of m) t
need_issues m mid kind t like n turn =
    let same = subst (λ (x : Machine). (rs : List TimedNeed) → board.StandsFor x.pipeline.board rs → t ≡ issue_turn
    (last_issue rs) rs mid.need) like turn in
    ahead_issues (contents_of m) n.need t n.ahead
    (λ rs stands. same rs stands ∙ ap (issue_turn (last_issue rs) rs) n.fenced)

-- the event that a schedule has where the instruction ahead would issue
pub open_event : (m : Machine) (plan : Plan) (coming : Coming) (t n : ℕ) (o : Option Event) → IsUnderWay m plan
    → (next : IsNextInstruction (outlook m) coming)
    → ((rs : List TimedNeed) → board.StandsFor m.pipeline.board rs → t ≡ issue_turn (last_issue rs) rs m.need)
    → n ≡ (situation m).state.count → o ≡ standing_by plan.events plan.place n t → event_for (situation m) plan ≡ o
open_event m plan coming t n o u next turn count found =
    let rs = late.turns (course u.given u.items).late in
    let stands = u.stands.flow.board in
    let kept = next.kept in
    let same = open_turn (situation m) next.kind kept.need t rs stands next.free next.is_next kept.is_need
    (turn rs stands ∙ ap (issue_turn (last_issue rs) rs) kept.fenced) in
    sym (found ∙ λ i. standing_by plan.events plan.place (count i) (same i))

-- ---- when it comes

-- what waits for all comes when all is done
pub ends_arrive : (k : Contents) (plan : Plan) (until : ℕ) (read : Bool) → IsEndTurn k.pipeline.board until
    → k.pipeline.turn < until
    → NextWaits (situation_in k) plan → (g : Given) (h : List Item) → Stand g h None k → Follows g h plan
    → (ahead g h).imprecise ≡ None → ArrivesAt g h k.pipeline.turn until (Waiting read)
ends_arrive k plan until read end later waits g h stands follows precise =
    let bound = waits_until k plan until end waits g h stands follows precise in
    let is : until ≡ end_turn (late.turns (course g h).late) = end (late.turns (course g h).late) stands.flow.board in
    let by_end : (ahead g h).turn ≤ end_turn (late.turns (course g h).late) = ahead_by_end g h in
    record { turn = omega (arith, is, by_end, later, bound); imprecise = precise }

pub waits_arrive : (k : Contents) (plan : Plan) (until : ℕ) (read : Bool) → IsEndTurn k.pipeline.board until
    → k.pipeline.turn < until
    → late_due (situation_in k) ≡ None → NextWaits (situation_in k) plan → Arrives k plan until (Waiting read)
waits_arrive k plan until read end later none waits g h stands follows =
    ends_arrive k plan until read end later waits g h stands follows (calm_precise g h k stands none)

-- and what comes when all is done already comes now
pub drained_arrive : (k : Contents) (plan : Plan) (until : ℕ) → IsEndTurn k.pipeline.board until
    → until ≤ k.pipeline.turn
    → Arrives k plan until (Waiting false)
drained_arrive k plan until end le g h stands follows =
    let now = all_now g h k until end le stands in
    let come : (ahead g h).turn ≤ k.pipeline.turn = now.1 in
    let in_time : k.pipeline.turn ≤ (ahead g h).turn = stands.in_time in
    record { turn = omega (arith, le, come, in_time); imprecise = now.0 }

-- an instruction comes at its turn
pub instruction_arrives : (k : Contents) (plan : Plan) (kind : Kind) (need : Need) (t : ℕ) (coming : Coming)
    → late_due (situation_in k) ≡ None → overtaken_by coming ≡ None
    → next_for (situation_in k) plan ≡ Does (record_of kind k.pipeline.state)
    → need ≡ need_of k.pipeline.size k.pipeline.cache k.pipeline.state kind
    → ((rs : List TimedNeed) → board.StandsFor k.pipeline.board rs
    → t ≡ issue_turn (last_issue rs) rs (waiting_until k.pipeline.floor need))
    → Arrives k plan t coming
instruction_arrives k plan kind need t coming none calm is_next is_need turn g h stands follows =
    let precise = calm_precise g h k stands none in
    let is : t ≡ (ahead g h).turn = comes_at k plan kind need t is_next is_need turn g h stands follows precise in
    let in_time : k.pipeline.turn ≤ (ahead g h).turn = stands.in_time in
    record { turn = omega (arith, is, in_time); imprecise = precise ∙ sym calm }

-- an instruction is no fault that is overtaken
pub instruction_calm : (i : Inst) (s : State) (k : Kind) (coming : Coming) → kind_of i s coming ≡ Some k
    → overtaken_by coming ≡ None
instruction_calm i s k (Overtaking a) is = absurd (cc is)
instruction_calm i s k _ is = refl

-- ---- as the turn moves

-- what holds of contents that moved, and of those that stay, holds where the turn was passed to
passed_by : (P : Contents → Type 0) (t : ℕ) (before m : Machine) → IsPassedTo t before m
    → (before.pipeline.turn < t → P (at_turn t (contents_of before)))
    → (t ≤ before.pipeline.turn → P (contents_of before))
    → P (contents_of m)
passed_by P t before m p moved stays = elim (cases_lt before.pipeline.turn t) [
  | inl later ↦ subst P (sym (p.moved later)) (moved later)
  | inr come ↦ subst (λ (x : Machine). P (contents_of x)) (sym (p.stays come)) (stays come)
]

pub passed_stands : (g : Given) (h : List Item) (t : ℕ) (before m : Machine) → IsPassedTo t before m
    → t ≤ (ahead g h).turn → StandsFor g h None before → StandsFor g h None m
passed_stands g h t before m p bound stands =
    passed_by (Stand g h None) t before m p
    (λ later. moved_stands g h t (contents_of before) before.wait stands (omega (arith, later)) bound stands.early)
    (λ come. stands)

-- the turn has come
pub passed_turn : (t : ℕ) (before m : Machine) → IsPassedTo t before m → m.pipeline.turn ≡ max before.pipeline.turn t
passed_turn t before m p =
    passed_by (λ (k : Contents). k.pipeline.turn ≡ max before.pipeline.turn t) t before m p
    (λ later. omega (arith, later))
    (λ come. omega (arith, come))

pub passed_ended : (t : ℕ) (before m : Machine) → IsPassedTo t before m → m.ended ≡ before.ended
passed_ended t before m p =
    passed_by (λ (k : Contents). k.ended ≡ before.ended) t before m p (λ later. refl) (λ come. refl)

-- as much is left, or less
pub passed_left : (t : ℕ) (before m : Machine) (plan : Plan) → IsPassedTo t before m
    → steps_left m plan ≤ steps_left before plan
unfolding left_from
passed_left t before m plan p =
    passed_by (λ (k : Contents). left_from k plan ≤ left_from (contents_of before) plan) t before m p
    (λ later. omega (arith, later)) (λ come. omega arith)

-- a move by one leaves less
pub moved_fewer : (before m : Machine) (plan : Plan) (wait : ℕ) → HasPace (contents_of before)
    → IsMovedTo (before.pipeline.turn + 1) (record before { wait = wait }) m
    → steps_left m plan < steps_left before plan
unfolding left_from
moved_fewer before m plan wait pace i =
    subst (λ (k : Contents). left_from k plan < steps_left before plan) (sym i)
    (move_fewer (contents_of before) plan (paced_turn (flow_of before.pipeline) pace.0 pace.1))

-- and what is planned changes none of it
pub like_left : (before mid : Machine) (plan : Plan) → IsLike before mid → steps_left mid plan ≡ steps_left before plan
like_left before mid plan l = ap (λ (m : Machine). steps_left m plan) l

-- ---- as a step

-- a step that comes where no event stands is planned, once its need is kept and its effect is made
pub planned : (at : Situation) (m : Machine) (plan : Plan) (step : Step) (need : Need) (e : Effect)
    → m.need ≡ waiting_until at.floor need → m.effect ≡ e → event_for at plan ≡ None → IsStepIn at None plan step need e
    → IsPlannedIn at plan step m
planned at m plan step need e kept effect none is = record {
  need = need;
  fenced = kept;
  is = subst₂ (λ (o : Option Event) (x : Effect). IsStepIn at o plan step need x) (sym none) (sym effect) is;
}

-- so is an instruction that comes next
pub ahead_planned : (m mid : Machine) (plan : Plan) (t : ℕ) (kind : Kind) (step : Step)
    → (is : IsAhead (outlook m) plan t kind) → mid.need ≡ m.need
    → IsStepIn (situation m) None plan step is.kept.need mid.effect → IsPlannedIn (situation m) plan step mid
ahead_planned m mid plan t kind step is need where_none =
    planned (situation m) mid plan step is.kept.need mid.effect (need ∙ is.kept.fenced) refl is.none where_none

-- a step is planned still, where a machine contains the same, and has the same of it
pub same_planned : (m mid : Machine) (plan : Plan) (step : Step) → contents_of mid ≡ contents_of m
    → mid.effect ≡ m.effect → mid.need ≡ m.need → IsPlanned m plan step → IsPlanned mid plan step
same_planned m mid plan step same effect need p = record {
  need = p.need;
  fenced = need ∙ p.fenced ∙ λ i. waiting_until (sym same i).pipeline.floor p.need;
  is = subst₂ (λ (at : Situation) (e : Effect). IsStep at plan step p.need e) (λ i. situation_in (sym same i))
      (sym effect) p.is;
}

-- it comes at the turn that was passed to
pub come_passed : (g : Given) (h : List Item) (m mid next : Machine) (t : ℕ) (coming : Coming) → IsLike m mid
    → ArrivesAt g h m.pipeline.turn t coming → IsPassedTo t mid next → StandsFor g h None m
    → StandsFor g h None next × ((ahead g h).turn ≡ next.pipeline.turn)
come_passed g h m mid next t coming like at passed stands =
    let turn : (ahead g h).turn ≡ max m.pipeline.turn t = at.turn in
    let same : mid.pipeline.turn ≡ m.pipeline.turn = λ i. (like i).pipeline.turn in
    let now : next.pipeline.turn ≡ max mid.pipeline.turn t = passed_turn t mid next passed in
    (passed_stands g h t mid next passed (omega (arith, turn)) (rw like stands), omega (arith, turn, same, now))

-- where it has come, it has arrived
pub here_arrived : (g : Given) (h : List Item) (k j : Contents) (t : ℕ) (plan : Plan) (coming : Coming)
    → ArrivesAt g h k.pipeline.turn t coming → Stand g h None j → Follows g h plan → (ahead g h).turn ≤ j.pipeline.turn
    → HasArrived j plan coming
here_arrived g h k j t plan coming at stands follows now =
    record { given = g; items = h; stands = stands; follows = follows; imprecise = at.imprecise; now = now }

-- less than less is less
pub fewer_from : (answer : Turn) (before mid now : ℕ) → mid ≤ before → LeavesFewer answer mid now
    → LeavesFewer answer before now
fewer_from turns.On before mid now le less = let lt : now < mid = less in omega (arith, le, lt)
fewer_from (turns.Issued t) before mid now le less = let lt : now < mid = less in omega (arith, le, lt)
fewer_from _ before mid now le less = tt
