-- What comes next for a machine is what comes next in the run that it stands for, and whether that overtakes a fault.
use Rattle.std.proofs.Common.{◌≡◌, ℕ, ◌<◌, ◌≤◌, Bool, false, cond, List, [], ◌∷◌, Option, Some, None, refl, sym, ap, ◌∙◌, arith, subst}
use Rattle.std.specs.Prelude.{nat_lt, ◌&&◌, not}
use Rattle.std.proofs.lemmas.Bool.{lt-ltb}
use Rattle.i9_isa.specs.declared.inst.Inst.{Inst}
use Rattle.i9_model.specs.declared.need.Need.{Need}
use Rattle.i9_model.specs.declared.need.TimedNeed.{TimedNeed}
use Rattle.i9_model.specs.State.{State}
use Rattle.i9_model.specs.Alike.{AreAlike, AreNextAlike}
use Rattle.i9_model.specs.HeldFrames.{Cache, sets_in, cache_after}
use Rattle.i9_model.specs.Standing.{Standing, Meets, Refused, Faults, Runs, stands_at}
use Rattle.i9_model.specs.Turns.{last_issue, issue_turn, end_turn, waiting_until}
use Rattle.i9_model.specs.Turns as board
use Rattle.i9_model.specs.Late.{turns}
use Rattle.i9_model.specs.Run.{Given, Kind, Instruction, Faulted, Record, fault_at, due_by, due_after, next_by_standing, state_after, Next, next_in}
use Rattle.i9_agree.proofs.AlikeSteps.{IsBlind, agree-alike, next_alike}
use Rattle.i9_agree.proofs.AgreeStands.{stands-same}
use Rattle.i9_agree.proofs.BlindRuns.{blind-after}
use Rattle.i9_course.specs.NeedOf.{need_of, need_ahead}
use Rattle.i9_course.specs.Course.{Item, IsCourse, records_of, course, instruction_ahead, issue_of_next, late_fault, last_fault, last_done, to_issue, ahead, instruction_turn, event_ahead, comes_next}
use Rattle.i9_course.proofs.Ahead.{some_both, imprecise_overtaken, precise_by}
use Rattle.i9_course.proofs.Barriers.{next_barrier, last_reached}
use Rattle.i9_course.proofs.NeedAlike.{need_alike}
use Rattle.i9_course.proofs.Orderly.{course_events}
use Rattle.i9_plan.specs.Open.{WaitsForAll, NeedsAhead}
use Rattle.i9_machine.specs.Contents.{situation_in, Situation, Contents}
use Rattle.i9_machine.specs.StandsFor.{Stand, Follows}
use Rattle.i9_machine.specs.Overtaking.{late_entry, late_due, IssuesAhead}
use Rattle.i9_model.specs.ScheduleText.{standing_by}
use Rattle.i9_agree.proofs.SoundRuns.{sound-after}
use Rattle.i9_turns.proofs.TurnPending.{stands-pending_turn}
use Rattle.i9_schedule.specs.Plan.{Plan}
use Rattle.i9_machine.specs.Step.{need_at, turn_at, event_for, next_for}

-- ---- the last fault, by what is due

kind_fault : (k : Kind) (s : State) → late_entry (due_by k s) ≡ late_fault k
kind_fault k s = grind arith

-- the entry of an arithmetic fault is due where the last record is one
entry_fault : (rs : List Record) → late_entry (due_after rs) ≡ last_fault rs
entry_fault [] = refl
entry_fault (r ∷ rs) = kind_fault r.kind r.before

-- the same for contents, within the length
late_is : (g : Given) (h : List Item) (k : Contents) → Stand g h None k
    → late_due (situation_in k) ≡ cond (nat_lt (state_after g (records_of h)).count g.length)
    (last_fault (records_of h)) None
late_is g h k stands =
    (λ i. cond (nat_lt (stands.flow.state.rest i).count (stands.length i)) (late_entry (stands.due i)) None)
    ∙ ap (λ (o : Option ℕ). cond (nat_lt (state_after g (records_of h)).count g.length) o None)
    (entry_fault (records_of h))

none_by : (b c : Bool) (o : Option ℕ) → cond b o None ≡ None → cond (b && c) o None ≡ None
none_by b c o h = grind arith

-- where none is due, none is imprecise
pub calm_precise : (g : Given) (h : List Item) (k : Contents) → Stand g h None k → late_due (situation_in k) ≡ None
    → (ahead g h).imprecise ≡ None
calm_precise g h k stands none =
    none_by (nat_lt (state_after g (records_of h)).count g.length) _ (last_fault (records_of h))
    (sym (late_is g h k stands) ∙ none)

-- where one is due, it is imprecise if it is overtaken
late_imprecise : (g : Given) (h : List Item) (k : Contents) (a : ℕ) → Stand g h None k
    → late_due (situation_in k) ≡ Some a
    → issue_of_next g h (instruction_ahead (state_after g (records_of h))) < last_done (course g h).late
    → (ahead g h).imprecise ≡ Some a
late_imprecise g h k a stands late before =
    let both = some_both (nat_lt (state_after g (records_of h)).count g.length) (last_fault (records_of h)) a
    (sym (late_is g h k stands) ∙ late) in
    let issue = issue_of_next g h (instruction_ahead (state_after g (records_of h))) in
    ap (λ (b : Bool). cond (b && nat_lt issue (last_done (course g h).late)) (last_fault (records_of h)) None) both.0
    ∙ ap (λ (b : Bool). cond b (last_fault (records_of h)) None) (lt-ltb issue (last_done (course g h).late) before)
    ∙ both.1

-- ---- the instruction behind it

-- what stands there needs the same in states that are alike
standing_need : (asked : Option ℕ) (c : Cache) (s t : State) → AreAlike s t → (x : Standing)
    → need_ahead asked c (next_by_standing t x) ≡ need_ahead asked c (next_by_standing s x)
standing_need asked c s t alike (Meets a) = refl
standing_need asked c s t alike (Refused number) =
    ap (λ (u : State). need_of (sets_in asked u) c t (Faulted None (fault_at u number))) alike.rest
    ∙ need_alike (sets_in asked s) c s t (Faulted None (fault_at s number)) alike
standing_need asked c s t alike (Faults i number) =
    ap (λ (u : State). need_of (sets_in asked u) c t (Faulted (Some i) (fault_at u number))) alike.rest
    ∙ need_alike (sets_in asked s) c s t (Faulted (Some i) (fault_at s number)) alike
standing_need asked c s t alike (Runs i) =
    ap (λ (u : State). need_of (sets_in asked u) c t (Instruction i)) alike.rest
    ∙ need_alike (sets_in asked s) c s t (Instruction i) alike

-- the run reads soft bytes as 0
pub course_blind : (g : Given) (h : List Item) → IsCourse g h → IsBlind (state_after g (records_of h))
course_blind g h past = blind-after g (records_of h) (course_events g h past)

-- so the same stands at the instruction address of states that are alike
standing_alike : (s t : State) → IsBlind s → AreAlike s t → stands_at t ≡ stands_at s
standing_alike s t blind alike =
    let agree = agree-alike s t blind alike in
    ap stands_at agree.rest
    ∙ stands-same false s t.regs t.memory.bytes t.reading
    (record { regs = agree.regs; bytes = agree.bytes; reading = agree.reading })

pub ahead_need : (asked : Option ℕ) (c : Cache) (s t : State) → IsBlind s → AreAlike s t
    → need_ahead asked c (instruction_ahead t) ≡ need_ahead asked c (instruction_ahead s)
ahead_need asked c s t blind alike =
    ap (λ (x : Standing). need_ahead asked c (next_by_standing t x)) (standing_alike s t blind alike)
    ∙ standing_need asked c s t alike (stands_at s)

-- it issues at the turn that the scoreboard gives its need
pub ahead_issues : (k : Contents) (need : Need) (t : ℕ) → NeedsAhead k.pipeline.state need
    → ((rs : List TimedNeed) → board.StandsFor k.pipeline.board rs
    → t ≡ issue_turn (last_issue rs) rs (waiting_until k.pipeline.floor need))
    → IssuesAhead k t
ahead_issues k need t is turn g h stands =
    let rs = turns (course g h).late in
    let c = cache_after g (records_of h) in
    let same = sym (is g.sets c) ∙ ahead_need g.sets c (state_after g (records_of h)) k.pipeline.state
    (course_blind g h stands.past) stands.flow.state in
    turn rs stands.flow.board ∙ λ i. issue_turn (last_issue rs) rs (waiting_until (stands.flow.fence i) (same i))

-- where it waits for all, it overtakes nothing
pub waits_precise : (g : Given) (h : List Item) (k : Contents) → Stand g h None k
    → WaitsForAll k.pipeline.state (stands_at k.pipeline.state) → (ahead g h).imprecise ≡ None
waits_precise g h k stands waits =
    let s = state_after g (records_of h) in
    let c = cache_after g (records_of h) in
    let barrier = sym (ap (λ (n : Need). n.barrier)
    (ahead_need g.sets c s k.pipeline.state (course_blind g h stands.past) stands.flow.state)) ∙ waits g.sets c in
    let turn : issue_of_next g h (instruction_ahead s) ≡ end_turn (turns (course g h).late) = next_barrier g h
    (instruction_ahead s) barrier in
    let reached : last_done (course g h).late ≤ end_turn (turns (course g h).late) = last_reached (course g h).late in
    precise_by g h (omega (arith, turn, reached))

-- where it would not issue before the last record is done, neither
pub later_precise : (g : Given) (h : List Item) (k : Contents) (t : ℕ) → Stand g h None k → IssuesAhead k t
    → k.pipeline.done ≤ t
    → (ahead g h).imprecise ≡ None
later_precise g h k t stands issues le =
    let is : t ≡ issue_of_next g h (instruction_ahead (state_after g (records_of h))) = issues g h stands in
    let last : k.pipeline.done ≡ last_done (course g h).late = stands.flow.last in
    precise_by g h (omega (arith, is, last, le))

-- nor where all records are done
pub drained_precise : (g : Given) (h : List Item) (k : Contents) → Stand g h None k
    → end_turn (turns (course g h).late) ≤ k.pipeline.turn → (ahead g h).imprecise ≡ None
drained_precise g h k stands le = by_fault (ahead g h).imprecise refl
  where
    by_fault : (o : Option ℕ) → (ahead g h).imprecise ≡ o → (ahead g h).imprecise ≡ None
    by_fault None is = is
    by_fault (Some a) is =
        let before : (ahead g h).turn < last_done (course g h).late = (imprecise_overtaken g h a is).0 in
        let in_time : k.pipeline.turn ≤ (ahead g h).turn = stands.in_time in
        let reached : last_done (course g h).late ≤ end_turn (turns (course g h).late) = last_reached
        (course g h).late in
        absurd (omega (arith, before, in_time, reached, le))

-- where it would, the fault is imprecise, and the run ends at that turn
pub sooner_imprecise : (g : Given) (h : List Item) (k : Contents) (a t : ℕ) → Stand g h None k → IssuesAhead k t
    → late_due (situation_in k) ≡ Some a → t < k.pipeline.done
    → ((ahead g h).imprecise ≡ Some a) × ((ahead g h).turn ≡ t)
sooner_imprecise g h k a t stands issues late before =
    let issue = issue_of_next g h (instruction_ahead (state_after g (records_of h))) in
    let is : t ≡ issue = issues g h stands in
    let last : k.pipeline.done ≡ last_done (course g h).late = stands.flow.last in
    let fault = late_imprecise g h k a stands late (omega (arith, is, last, before)) in
    (fault, ap (λ (o : Option ℕ). issue_of_next g h (to_issue g h o)) fault ∙ sym is)

-- ---- what it needs

-- an instruction that runs
pub runs_ahead : (at : Situation) (need : Need) (i : Inst) (known : Need) → stands_at at.state ≡ Runs i
    → NeedsAhead at.state known → need ≡ need_of at.size at.cache at.state (Instruction i) → NeedsAhead at.state need
runs_ahead at need i known stands ahead is asked c =
    ahead asked c ∙ sym (ahead (Some at.size) at.cache)
    ∙ ap (λ (x : Standing). need_ahead (Some at.size) at.cache (next_by_standing at.state x)) stands
    ∙ sym is

-- one that faults
pub faults_ahead : (s : State) (need : Need) (i : Inst) (number : ℕ × ℕ) → stands_at s ≡ Faults i number
    → ((n : ℕ) (c : Cache) → need ≡ need_of n c s (Faulted (Some i) (fault_at s number))) → NeedsAhead s need
faults_ahead s need i number stands is asked c =
    ap (λ (x : Standing). need_ahead asked c (next_by_standing s x)) stands ∙ sym (is (sets_in asked s) c)

-- a number of sets that is the one that is asked for, or that the PRCB asks for
standing_sets : (asked : Option ℕ) (n : ℕ) (c : Cache) (s : State) (x : Standing) → n ≡ sets_in asked s
    → need_ahead (Some n) c (next_by_standing s x) ≡ need_ahead asked c (next_by_standing s x)
standing_sets asked n c s x is = grind arith

-- the instruction ahead needs the same
same_need_at : (g : Given) (h : List Item) (k : Contents) → Stand g h None k
    → need_at (situation_in k) ≡ need_ahead g.sets (cache_after g (records_of h))
    (instruction_ahead (state_after g (records_of h)))
same_need_at g h k stands =
    let s = state_after g (records_of h) in
    let c = cache_after g (records_of h) in
    let size = stands.flow.size ∙ sym (ap (sets_in g.sets) stands.flow.state.rest) in
    ap (λ (d : Cache). need_ahead (Some k.pipeline.size) d (instruction_ahead k.pipeline.state)) stands.flow.cache
    ∙ standing_sets g.sets k.pipeline.size c k.pipeline.state (stands_at k.pipeline.state) size
    ∙ ahead_need g.sets c s k.pipeline.state (course_blind g h stands.past) stands.flow.state

-- so it would issue at the same turn
pub same_turn_at : (g : Given) (h : List Item) (k : Contents) → Stand g h None k
    → turn_at (situation_in k) ≡ instruction_turn g h
same_turn_at g h k stands =
    let rs = turns (course g h).late in
    stands-pending_turn k.pipeline.board rs (waiting_until k.pipeline.floor (need_at (situation_in k)))
    stands.flow.board
    ∙ λ i. issue_turn (last_issue rs) rs (waiting_until (stands.flow.fence i) (same_need_at g h k stands i))

-- the event that stands there for contents stands there in the run
same_event : (g : Given) (h : List Item) (k : Contents) (plan : Plan) → Stand g h None k → Follows g h plan
    → event_for (situation_in k) plan ≡ event_ahead g h
same_event g h k plan stands follows =
    λ i. standing_by (follows.events i) (follows.place i) (stands.flow.state.rest i).count (same_turn_at g h k stands i)

-- what comes next for contents, beside what comes next in the run
pub beside : (g : Given) (h : List Item) (k : Contents) (plan : Plan) → Stand g h None k → Follows g h plan
    → AreNextAlike (comes_next g h) (next_for (situation_in k) plan)
beside g h k plan stands follows =
    let s = state_after g (records_of h) in
    subst (λ (n : Next). AreNextAlike n (next_for (situation_in k) plan))
    (λ i. next_in (stands.length i) (stands.due i) (same_event g h k plan stands follows i) s)
    (next_alike k.length k.due (event_for (situation_in k) plan) s k.pipeline.state
    (sound-after g (records_of h) (course_events g h stands.past)) (course_blind g h stands.past) stands.flow.state)
