-- A record issues and can act.
use Rattle.std.proofs.Common.{◌≡◌, ℕ, ◌<◌, ◌≤◌, Bool, true, false, List, [], ◌∷◌, length, length-append, drop, None, Some, refl, sym, ap, ◌∙◌, subst, inl, inr, Option, ◌⊎◌}
use Rattle.i9_model.specs.declared.need.Need.{Need}
use Rattle.i9_model.specs.Alike.{AreAlike, AreRecordsAlike}
use Rattle.i9_model.specs.HeldFrames.{sets_in, cache_after}
use Rattle.i9_model.specs.Left.{left_in}
use Rattle.i9_model.specs.Run.{Given, Record, Does, due_by, reached_by, due_after, reached_after, state_after, record_of}
use Rattle.i9_model.specs.State.{State}
use Rattle.i9_model.specs.Turns.{waiting_until}
use Rattle.i9_agree.proofs.AlikeSteps.{does_alike, view_alike}
use Rattle.i9_past.proofs.Comes.{next_comes}
use Rattle.i9_past.proofs.Left.{standing_by_place, next_leaves}
use Rattle.i9_course.specs.NeedOf.{need_of, record_need}
use Rattle.i9_course.specs.Course.{Item, records_of, instruction_turn, event_ahead, comes_next}
use Rattle.i9_course.proofs.Landed.{request_last}
use Rattle.i9_course.proofs.NeedActs.{need_still}
use Rattle.i9_course.proofs.NeedAlike.{need_alike}
use Rattle.i9_processor.specs.Effect.{IsStill, action_in, CanWait}
use Rattle.i9_processor.specs.State.{IsDrained}
use Rattle.i9_pipeline.proofs.InRun.{flow_lands, clear_need, placed_done}
use Rattle.i9_machine.specs.declared.machine.Machine.{Machine}
use Rattle.i9_pipeline.specs.Flow.{kernel_of}
use Rattle.i9_pipeline.specs.Issuing.{CanActPlaced}
use Rattle.i9_machine.specs.Contents.{Contents, contents_of, Situation, situation, situation_in}
use Rattle.i9_machine.specs.StandsFor.{Stand, left_after, HasCome}
use Rattle.std.specs.List.{AllByRecursion}
use Rattle.i9_model.specs.PrintedText.{Drained, point_lines}
use Rattle.i9_model.specs.declared.run.Point.{Point}
use Rattle.i9_model.specs.declared.view.View.{View}
use Rattle.i9_agree.proofs.HeldRuns.{next_free}
use Rattle.i9_schedule.specs.Plan.{Plan}
use Rattle.i9_regs.specs.Covered.{IsCovered}
use Rattle.i9_course.proofs.NeedCovers.{need_covers}
use Rattle.i9_processor.specs.declared.effect.Effect.{Effect}
use Rattle.i9_machine.specs.declared.step.Step.{Step as Performed}
use Rattle.i9_machine.specs.Step.{IsStep, next_for}
use Rattle.i9_machine.proofs.Overtaking.{beside}

-- ---- the need

-- what is needed is what is needed in the run
pub same_need : (g : Given) (h : List Item) (k : Contents) (r q : Record) (need : Need) → Stand g h None k
    → AreRecordsAlike r q → r.before ≡ state_after g (records_of h) → q.before ≡ k.pipeline.state
    → need ≡ need_of k.pipeline.size k.pipeline.cache k.pipeline.state q.kind
    → record_need g.sets (cache_after g (records_of h)) r ≡ need
same_need g h k r q need stands same old own is =
    let c = cache_after g (records_of h) in
    let n = sets_in g.sets r.before in
    let size : n ≡ k.pipeline.size = sym (stands.flow.size ∙ ap (sets_in g.sets) (sym old)) in
    let cache = sym stands.flow.cache in
    sym (need_alike n c r.before q.before r.kind same.before)
    ∙ (λ i. need_of (size i) (cache i) (own i) (sym same.kind i))
    ∙ sym is

-- ---- what is left

-- a record leaves less
pub left_less : (g : Given) (h : List Item) (r : Record) → (state_after g (records_of h)).count ≤ g.length
    → comes_next g h ≡ Does r → left_after g (r ∷ records_of h) < left_after g (records_of h)
left_less g h r within is =
    let rs = records_of h in
    let s = state_after g rs in
    let place = length (reached_after rs) in
    let leaves = next_leaves g.length g.plan place (due_after rs) (event_ahead g h) s r
    (standing_by_place g.plan place s.count (instruction_turn g h)) is in
    let comes = next_comes g.length (due_after rs) (event_ahead g h) s r is in
    let before : r.before ≡ s = ap (λ (x : Record). x.before) comes.0 in
    subst (λ (n : ℕ). left_in g.length (drop n g.plan) (due_by r.kind r.before) r.after < left_after g rs)
    (sym (length-append (reached_after rs) (reached_by r.kind r.before))) (leaves.less within)

-- a step's need covers what it changes
pub step_covers : (at : Situation) (plan : Plan) (step : Performed) (need : Need) (e : Effect)
    → IsStep at plan step need e
    → IsCovered need.writes at.state (action_in at.state e)
step_covers at plan step need e is =
    subst (λ (n : Need). IsCovered n.writes at.state (action_in at.state e)) (sym is.is_need)
    (subst (IsCovered (need_of at.size at.cache at.state is.kind).writes at.state) (sym is.effect.same)
    (need_covers at.size at.cache at.state is.kind))

-- what is neither a request nor a barrier stores nothing
still_step : (at : Situation) (plan : Plan) (step : Performed) (need : Need) (e : Effect) → IsStep at plan step need e
    → need.request ≡ false → need.barrier ≡ false → IsStill (action_in at.state e)
still_step at plan step need e is request barrier =
    let still = need_still at.size at.cache at.state is.kind (ap (λ (n : Need). n.request) (sym is.is_need) ∙ request)
    (ap (λ (n : Need). n.barrier) (sym is.is_need) ∙ barrier) in
    subst IsStill (sym is.effect.same) (record { writes = still.0; move = still.1; control = still.2 })

-- a step can act with the turns that its need is placed with
pub step_acts : (m : Machine) (plan : Plan) (step : Performed) (need : Need) (e : Effect)
    → m.need ≡ waiting_until m.pipeline.floor need → HasCome (contents_of m) plan
    → IsStep (situation m) plan step need e
    → CanActPlaced m.pipeline m.need e
step_acts m plan step need e fenced u is = subst (λ (n : Need). CanActPlaced m.pipeline n e) (sym fenced) by_need
  where
    by_barrier : (c : Bool) → need.barrier ≡ c → (need.barrier ≡ true → IsDrained m.pipeline.processor)
        → need.request ≡ false
        → IsDrained m.pipeline.processor ⊎ IsStill (action_in (situation m).state e)
    by_barrier true barrier drained request = inl (drained barrier)
    by_barrier false barrier drained request = inr (still_step (situation m) plan step need e is request barrier)

    by_need : CanActPlaced m.pipeline (waiting_until m.pipeline.floor need) e
    by_need p b placed =
        let g = u.given in
        let h = u.items in
        let j = contents_of m in
        let q = record_of is.kind j.pipeline.state in
        let found = does_alike (comes_next g h) (next_for (situation_in j) plan) q
        (beside g h j plan u.stands u.follows) is.is_next in
        let r = found.0 in
        let run = next_free g.length (due_after (records_of h)) (event_ahead g h)
        (state_after g (records_of h)) r found.1 in
        let own = same_need g h j r q need u.stands found.2 (ap (λ (x : Record). x.before) run.0) refl is.is_need in
        let flow = u.stands.flow in
        let clear = clear_need g h j.pipeline r need flow u.stands.in_time found.1 u.precise u.now own in
        let done = placed_done g h j.pipeline r need p b flow own placed in
        let waits : need.request ≡ true → CanWait m.pipeline.processor p.done e = λ request.
        let row = is.row request in
        let order = request_last g h r (kernel_of j.pipeline) (flow_lands g h j.pipeline flow u.stands.in_time)
        (ap (λ (n : Need). n.request) own ∙ request) in
        record {
          row = row.requests;
          move = row.frames;
          control = row.control;
          few = clear.few request;
          order = subst (λ (t : ℕ). AllByRecursion (λ w. w.due ≤ t) j.pipeline.queue) done order;
        } in
        (waits, by_barrier need.barrier refl clear.drained)

-- states that are alike show the same
pub points_alike : (p : Option Point) (s t : State) → AreAlike s t → point_lines p t ≡ point_lines p s
points_alike None s t alike = refl
points_alike (Some kind) s t alike = ap (λ (v : View). Drained kind v ∷ []) (view_alike s t alike)
