-- A pipeline in a run: at its start, as the turn moves, as a fence is set, and as a record issues.
use Rattle.std.proofs.Common.{◌≡◌, ℕ, ◌+◌, ◌<◌, ◌≤◌, max, Bool, true, false, List, [], ◌∷◌, ◌++◌, None, refl, sym, ap, ◌∙◌, subst, subst₂, inl, inr, arith}
use Rattle.std.proofs.lemmas.Bool.{cases_Bool, and_parts}
use Rattle.i9_model.specs.declared.need.Cell.{Cell}
use Rattle.i9_model.specs.declared.need.Need.{Need}
use Rattle.i9_model.specs.declared.need.Placed.{Placed}
use Rattle.i9_model.specs.Alike.{AreAlike}
use Rattle.i9_model.specs.HeldFrames.{Cache, sets_in, cache_after}
use Rattle.i9_model.specs.Late.{Late, WritersDone, AllDone, IsClear, turns, resource, resources, landed, issued_cell, wait_of, settled_memory}
use Rattle.i9_model.specs.Memory.{stored}
use Rattle.i9_model.specs.Run.{Given, Record, Does, action_done}
use Rattle.i9_model.specs.State.{boot}
use Rattle.i9_model.specs.Step.{Action, Move, Stays}
use Rattle.i9_model.specs.Turns.{Pending, StandsFor, last_issue, end_turn, with_need, waiting_until, placed_record}
use Rattle.i9_model.proofs.Stored.{stored-none}
use Rattle.i9_turns.proofs.TurnFences.{all-end}
use Rattle.i9_turns.proofs.TurnOpen.{done-after}
use Rattle.i9_turns.proofs.LateMemories.{none-wait, all-requests}
use Rattle.i9_turns.proofs.LateRegisters.{plan-none}
use Rattle.i9_turns.proofs.LateOrder.{issued-by, shows_moves}
use Rattle.i9_agree.proofs.AlikeSteps.{alike_same, done_alike}
use Rattle.i9_regs.specs.File.{still}
use Rattle.i9_regs.proofs.Shown.{issued_shows, landed_later}
use Rattle.i9_course.specs.Course.{Item, Step, Fence, records_of, course, late_after, move_writes, puts_of, comes_next, ahead, issue_of_next}
use Rattle.i9_course.specs.Kernel.{Lands}
use Rattle.i9_course.specs.NeedOf.{record_need, need_ahead}
use Rattle.i9_course.proofs.Ahead.{ahead_by_end, ahead_fenced, ahead_precise}
use Rattle.i9_course.proofs.Landed.{acts_at_once}
use Rattle.i9_course.proofs.NeedActs.{need_still, need_requests}
use Rattle.i9_course.proofs.Orderly.{course_orderly}
use Rattle.i9_course.proofs.Placing.{placed_turns}
use Rattle.i9_course.proofs.Settled.{course_settles}
use Rattle.i9_course.proofs.Steps.{issues_lands, lands_clear}
use Rattle.i9_course.proofs.Timed.{course_timed, course_costs}
use Rattle.i9_processor.specs.declared.processor.Processor.{Processor}
use Rattle.i9_processor.specs.Effect.{IsStill}
use Rattle.i9_processor.specs.State.{state_of, cache_of, size_of, cells_of, bytes_of, queue_of}
use Rattle.i9_processor.proofs.Drained.{drained_bytes}
use Rattle.i9_pipeline.specs.declared.pipeline.Pipeline.{Pipeline}
use Rattle.i9_pipeline.specs.Flow.{Flow, flow_of, kernel_of, IsFresh, moved_to, settled_to, IsEndTurn, IsQuiet}
use Rattle.i9_pipeline.specs.InRun.{IsFlowOf, IssuesNext}
use Rattle.i9_pipeline.specs.Issuing.{IsPlaced}
use Rattle.i9_pipeline.specs.Raw.{Hides, shades, shades_need, IsShaded}
use Rattle.i9_pipeline.proofs.Landed.{all_later, done_by, none_hidden, record_hides, record_leaves}

-- ---- at the start

-- around a processor that has booted
pub flow_first : (g : Given) (around : Processor) (p : Pipeline) → IsFresh around p → state_of around ≡ boot g.image
    → size_of around ≡ sets_in g.sets (boot g.image) → cache_of around ≡ cache_after g []
    → ((r : ℕ) → r < resources → cells_of around r ≡ still (resource (boot g.image) r))
    → bytes_of around ≡ (boot g.image).memory.bytes → queue_of around ≡ [] → IsFlowOf g [] (flow_of p)
flow_first g around p fresh state size cache cells bytes queue =
    let same = fresh.processor in
    let turn : p.turn ≡ 1 = fresh.turn in
    record {
      state = subst (AreAlike (boot g.image)) (sym (ap state_of same ∙ state)) (alike_same (boot g.image));
      size = ap size_of same ∙ size;
      cache = ap cache_of same ∙ cache;
      board = fresh.board;
      fence = fresh.floor;
      last = fresh.done;
      begun = omega (arith, turn);
      shows = record {
        registers = λ r lt. (λ i. landed (turn i) (cells_of (same i) r)) ∙ ap (landed 1) (cells r lt);
        memory = ap bytes_of same ∙ bytes;
        requests = ap queue_of same ∙ queue;
      };
      shaded = none_hidden (boot g.image).memory.bytes p.shade fresh.shade;
    }

-- ---- the turn moves

pub flow_moves : (g : Given) (h : List Item) (t : ℕ) (f : Flow) → f.turn ≤ t → IsFlowOf g h f
    → IsFlowOf g h (moved_to t f)
flow_moves g h t f later is =
    let xs = (course g h).late in
    let begun : last_issue (turns xs) ≤ f.turn = is.begun in
    let j = moved_to t f in
    record {
      state = is.state;
      size = is.size;
      cache = is.cache;
      board = is.board;
      fence = is.fence;
      last = is.last;
      begun = omega (arith, begun, later);
      shows = shows_moves (boot g.image) f.turn t xs (kernel_of f).cells (kernel_of j).cells f.bytes j.bytes f.queue
          j.queue is.shows later (issued-by f.turn xs (course_timed g h) begun) (course_orderly g h)
          (λ r lt. sym (landed_later f.turn t (f.cells r) later)) refl refl;
      shaded = is.shaded;
    }

-- ---- a fence is set

-- at the turn at which all is done
pub flow_fenced : (g : Given) (h : List Item) (f : Flow) (until : ℕ) → IsEndTurn f.board until → IsFlowOf g h f
    → IsFlowOf g (Fence ∷ h) (settled_to until until f)
flow_fenced g h f until end is =
    let moved = flow_moves g h (max f.turn until) f (omega arith) is in
    record {
      state = moved.state;
      size = moved.size;
      cache = moved.cache;
      board = moved.board;
      fence = end (turns (course g h).late) is.board;
      last = moved.last;
      begun = moved.begun;
      shows = moved.shows;
      shaded = moved.shaded;
    }

-- what lies ahead then comes no earlier
pub fence_in_time : (g : Given) (h : List Item) (f : Flow) (until : ℕ) → IsEndTurn f.board until → IsFlowOf g h f
    → f.turn ≤ (ahead g h).turn → max f.turn until ≤ (ahead g (Fence ∷ h)).turn
fence_in_time g h f until end is in_time =
    let rs = turns (course g h).late in
    let done : until ≡ end_turn rs = end rs is.board in
    let by_end : (ahead g h).turn ≤ end_turn rs = ahead_by_end g h in
    let fence : end_turn rs ≤ (ahead g (Fence ∷ h)).turn = ahead_fenced g (Fence ∷ h) in
    omega (arith, done, by_end, fence, in_time)

-- ---- nothing is open

writers_done : (r t : ℕ) (xs : List Late) → AllDone t xs → WritersDone r t xs
writers_done r t [] done = tt
writers_done r t (x ∷ xs) done = (λ fences. done.0, writers_done r t xs done.1)

-- by the turn at which all is done
pub flow_quiet : (g : Given) (h : List Item) (f : Flow) → IsFlowOf g h f → end_turn (turns (course g h).late) ≤ f.turn
    → IsQuiet f
flow_quiet g h f is le =
    let xs = (course g h).late in
    let done = all_later (end_turn (turns xs)) f.turn xs le (done_by _ xs (all-end (turns xs)).done) in
    record {
      planned = λ r lt. ap (λ (c : Cell). c.plan) (is.shows.registers r lt)
          ∙ plan-none f.turn r xs (writers_done r f.turn xs done);
      waiting = is.shows.requests ∙ none-wait f.turn xs (all-requests f.turn xs done);
    }

-- ---- a record issues

-- what lands late is as the course has it, where the turn is at most that of what lies ahead
pub flow_lands : (g : Given) (h : List Item) (f : Flow) → IsFlowOf g h f → f.turn ≤ (ahead g h).turn
    → Lands g h (kernel_of f)
flow_lands g h f is in_time = record {
  board = is.board;
  fence = is.fence;
  last = is.last;
  begun = is.begun;
  in_time = in_time;
  shows = is.shows;
}

-- the bytes of a record that leaves frames where they are
still_puts : (n : ℕ) (c : Cache) (a : Action) → a.move ≡ Stays → puts_of n c a ≡ a.writes
still_puts n c a stays = ap (λ (v : Move). move_writes n c v ++ a.writes) stays

-- before it does, there is room for it
pub clear_need : (g : Given) (h : List Item) (f : Flow) (r : Record) (need : Need) → IsFlowOf g h f
    → f.turn ≤ (ahead g h).turn → comes_next g h ≡ Does r → (ahead g h).imprecise ≡ None → (ahead g h).turn ≤ f.turn
    → record_need g.sets (cache_after g (records_of h)) r ≡ need → IsClear (kernel_of f).cells f.queue need
clear_need g h f r need is in_time is_next precise now is_need =
    subst (IsClear (kernel_of f).cells f.queue)
    (ap (need_ahead g.sets (cache_after g (records_of h))) is_next ∙ is_need)
    (lands_clear g h (kernel_of f) (flow_lands g h f is in_time) precise now)

-- it is done when its need is, as it was placed
pub placed_done : (g : Given) (h : List Item) (f : Flow) (r : Record) (need : Need) (p : Placed) (b : Pending)
    → IsFlowOf g h f → record_need g.sets (cache_after g (records_of h)) r ≡ need
    → IsPlaced f.board (waiting_until f.floor need) p b → (late_after g h r).timed.done ≡ p.done
placed_done g h f r need p b is is_need placed =
    let rs = turns (course g h).late in
    (placed_turns g h r need p b is_need
    (subst (λ (t : ℕ). StandsFor b (placed_record (waiting_until t need) p ∷ rs)) is.fence (placed rs is.board))).1

module _ (g : Given) (h : List Item) (r q : Record) (need : Need) (old new : Pipeline) (flow : IsFlowOf g h (flow_of old))
    (next : IssuesNext g h r q need old new) where
  abbrev before : Flow
  before = flow_of old

  abbrev after : Flow
  after = flow_of new

  abbrev held : Cache
  held = cache_after g (records_of h)

  abbrev sets : ℕ
  sets = sets_in g.sets r.before

  needs : (late_after g h r).timed.need ≡ waiting_until before.floor need
  needs = λ i. waiting_until (sym flow.fence i) (next.is_need i)

  done : (late_after g h r).timed.done ≡ next.issued.placed.done
  done = placed_done g h before r need next.issued.placed after.board flow next.is_need next.issued.board

  clear : IsClear (kernel_of before).cells before.queue need
  clear = clear_need g h before r need flow next.in_time next.is_next next.precise next.now next.is_need

  acted : action_done q ≡ action_done r
  acted = done_alike r q next.same

  -- the record is done later
  later : before.turn < next.issued.placed.done
  later =
      let x = late_after g h r in
      let in_time : before.turn ≤ (ahead g h).turn = next.in_time in
      let issue : (ahead g h).turn ≡ x.timed.issue = ahead_precise g h next.precise ∙ ap (issue_of_next g h) next.is_next in
      let takes : x.timed.issue < x.timed.done =
      done-after (turns (course g h).late) x.timed.need x.timed.issue (course_costs g (Step r ∷ h)).0 in
      let is : x.timed.done ≡ next.issued.placed.done = done in
      omega (arith, issue, in_time, takes, is)

  cells_issued : (c : ℕ) → c < resources → (kernel_of after).cells c
      ≡ issued_cell (late_after g h r).timed.need.writes (late_after g h r).timed.done c (resource r.after c)
      ((kernel_of before).cells c)
  cells_issued c lt =
      (λ i. landed (next.issued.keeps i).turn (next.issued.acts.cells c lt i))
      ∙ issued_shows before.turn need.writes next.issued.placed.done c (resource after.state c) (before.cells c) later
      (clear.plans c lt)
      ∙ λ i. issued_cell (sym needs i).writes (sym done i) c (resource (next.state.rest i) c) ((kernel_of before).cells c)

  waiting : (late_after g h r).timed.need.request ≡ true
      → (after.bytes ≡ before.bytes) × (after.queue ≡ before.queue ++ wait_of (late_after g h r) ∷ [])
  waiting e =
      let is : need.request ≡ true = sym (ap (λ (n : Need). n.request) needs) ∙ e in
      let was : (record_need g.sets held r).request ≡ true = ap (λ (n : Need). n.request) next.is_need ∙ is in
      let stays = (need_requests sets held r.before r.kind was).0 in
      let puts : (late_after g h r).puts ≡ (action_done q).writes =
      still_puts sets held (action_done r) stays ∙ ap (λ (a : Action). a.writes) (sym acted) in
      let w = next.issued.acts.waits is in
      (w.0, w.1 ∙ λ i. before.queue ++ record { puts = sym puts i; due = sym done i } ∷ [])

  acting : (late_after g h r).timed.need.request ≡ false
      → (after.bytes ≡ stored before.bytes (late_after g h r).puts) × (after.queue ≡ before.queue)
  acting e = by_barrier need.barrier refl
    where
      is : need.request ≡ false
      is = sym (ap (λ (n : Need). n.request) needs) ∙ e

      queue : after.queue ≡ before.queue
      queue = next.issued.acts.acts is

      by_barrier : (b : Bool) → need.barrier ≡ b
          → (after.bytes ≡ stored before.bytes (late_after g h r).puts) × (after.queue ≡ before.queue)
      by_barrier true barrier =
          let none = clear.drained barrier in
          let bytes = drained_bytes new.processor (queue ∙ none) ∙ ap (λ (c : Cache). c.behind.bytes) next.cache in
          (acts_at_once g h r (kernel_of before) (kernel_of after) (flow_lands g h before flow next.in_time) none bytes, queue)
      by_barrier false barrier =
          let still = need_still sets held r.before r.kind (ap (λ (n : Need). n.request) next.is_need ∙ is)
          (ap (λ (n : Need). n.barrier) next.is_need ∙ barrier) in
          let quiet : IsStill (action_done q) = subst IsStill (sym acted)
          (record { writes = still.0; move = still.1; control = still.2 }) in
          let puts : (late_after g h r).puts ≡ [] = still_puts sets held (action_done r) still.1 ∙ still.0 in (
            next.issued.acts.still is quiet ∙ sym (stored-none before.bytes) ∙ ap (stored before.bytes) (sym puts),
            queue,
          )

  landing : Lands g (Step r ∷ h) (kernel_of after)
  landing = issues_lands g h r (kernel_of before) (kernel_of after) (flow_lands g h before flow next.in_time) next.precise
      next.is_next next.now (record {
        board = λ rs b. subst (λ (n : Need). StandsFor after.board (with_need rs n)) (sym needs) (next.issued.timed rs b);
        turn = λ i. (next.issued.keeps i).turn;
        floor = λ i. (next.issued.keeps i).floor;
        done = (λ i. (next.issued.keeps i).done) ∙ sym done;
        cells = cells_issued;
        waits = waiting;
        acts = acting;
      })

  -- ---- what stands under its writes

  shades_same : shades (late_after g h r) ≡ shades_need need
  shades_same = ap shades_need needs

  same_puts : puts_of before.size before.cache (action_done q) ≡ (late_after g h r).puts
  same_puts = λ i. puts_of ((flow.size ∙ ap (sets_in g.sets) (sym next.starts)) i) (flow.cache i) (acted i)

  -- nothing waits before a barrier
  all_acted : shades_need need ≡ true → before.bytes ≡ settled_memory (boot g.image).memory.bytes (course g h).late
  all_acted barrier =
      drained_bytes old.processor (clear.drained (and_parts _ _ barrier).0)
      ∙ ap (λ (c : Cache). c.behind.bytes) flow.cache
      ∙ sym (course_settles g h)

  hidden : IsShaded (boot g.image).memory.bytes (late_after g h r ∷ (course g h).late) after.shade
  hidden = elim (cases_Bool (shades_need need)) [
    | inl barrier ↦
        record_hides (boot g.image).memory.bytes (late_after g h r) (course g h).late after.shade
        (subst₂ (λ (f : ℕ → ℕ) (ps : List (ℕ × ℕ)). Hides f ps after.shade.pieces) (all_acted barrier) same_puts
        (next.issued.hides.bytes barrier))
        (next.issued.hides.due barrier ∙ sym done) (shades_same ∙ barrier)
    | inr beside ↦
        record_leaves (boot g.image).memory.bytes (late_after g h r) (course g h).late after.shade
        (shades_same ∙ beside)
        (subst (IsShaded (boot g.image).memory.bytes (course g h).late) (sym (next.issued.hides.keeps beside)) flow.shaded)
  ]

  pub flow_issued : IsFlowOf g (Step r ∷ h) after
  flow_issued = record {
    state = next.state;
    size = next.size;
    cache = next.cache;
    board = landing.board;
    fence = landing.fence;
    last = landing.last;
    begun = landing.begun;
    shows = landing.shows;
    shaded = hidden;
  }

  pub issue_in_time : after.turn ≤ (ahead g (Step r ∷ h)).turn
  issue_in_time = landing.in_time
