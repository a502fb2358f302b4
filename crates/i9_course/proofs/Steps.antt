-- What lands late stands for a course as the turn moves, as a record issues, and as a fence is set.
use Rattle.std.proofs.Common.{◌≡◌, ℕ, ◌<◌, ◌≤◌, max, Bool, true, false, List, [], ◌∷◌, None, refl, sym, ap, ◌∙◌, subst, arith}
use Rattle.i9_model.specs.Memory.{stored}
use Rattle.i9_model.specs.State.{boot}
use Rattle.i9_model.specs.HeldFrames.{cache_after}
use Rattle.i9_model.specs.Run.{Given, Record, Does, state_after}
use Rattle.i9_model.specs.Turns.{Pending, StandsFor, CanIssue, last_issue, end_turn, waiting_until, pending_of}
use Rattle.i9_model.specs.Late.{turns, cell, resource, resources, latest, all_puts, AreDueInOrder, Shows, IsClear}
use Rattle.i9_turns.proofs.TurnOpen.{done-after}
use Rattle.i9_turns.proofs.TurnStands.{stands-none}
use Rattle.i9_turns.proofs.LateQueues.{waiting-in-order}
use Rattle.i9_turns.proofs.LateOrder.{issued-by, shows_moves, shows_request, shows_other, shows_clear}
use Rattle.i9_course.specs.Course.{Item, Step, Fence, records_of, course, late_after, need_after, issue_of_next, ahead, IsCourse}
use Rattle.i9_course.specs.Kernel.{Kernel, Lands, MovesTo, Issues}
use Rattle.i9_course.proofs.Timed.{course_timed, course_costs}
use Rattle.i9_course.proofs.Orderly.{course_orderly, registers_settle, memory_settles}
use Rattle.i9_course.proofs.Ahead.{ahead_later, ahead_fenced, ahead_by_end, ahead_precise, ahead_can}

-- ---- the turn moves

moved_shows : (g : Given) (h : List Item) (t : ℕ) (k j : Kernel) → Lands g h k → k.turn ≤ t → MovesTo t k j
    → Shows (boot g.image) j.turn (course g h).late j.cells j.bytes j.queue
moved_shows g h t k j lands le m =
    let xs = (course g h).late in
    subst (λ (u : ℕ). Shows (boot g.image) u xs j.cells j.bytes j.queue) (sym m.turn)
    (shows_moves (boot g.image) k.turn t xs k.cells j.cells k.bytes j.bytes k.queue j.queue lands.shows le
    (issued-by k.turn xs (course_timed g h) lands.begun) (course_orderly g h) m.cells m.bytes m.queue)

moved_board : (g : Given) (h : List Item) (t : ℕ) (k j : Kernel) → Lands g h k → MovesTo t k j
    → StandsFor j.board (turns (course g h).late)
moved_board g h t k j lands m = subst (λ (p : Pending). StandsFor p (turns (course g h).late)) (sym m.board) lands.board

pub moves_lands : (g : Given) (h : List Item) (t : ℕ) (k j : Kernel) → Lands g h k → k.turn ≤ t
    → t ≤ (ahead g h).turn → MovesTo t k j → j.floor ≡ k.floor → Lands g h j
moves_lands g h t k j lands le early m floor = grind (arith, moved_board, moved_shows)

-- ---- a record issues

issued_shows : (g : Given) (h : List Item) (r : Record) (k j : Kernel) → Lands g h k → Issues (late_after g h r) k j
    → k.turn < (late_after g h r).timed.done
    → Shows (boot g.image) k.turn (course g (Step r ∷ h)).late j.cells j.bytes j.queue
issued_shows g h r k j lands i later = by_request (late_after g h r).timed.need.request refl
  where
    by_request : (b : Bool) → (late_after g h r).timed.need.request ≡ b
        → Shows (boot g.image) k.turn (course g (Step r ∷ h)).late j.cells j.bytes j.queue
    by_request true e =
        let q = i.waits e in
        shows_request (boot g.image) k.turn (late_after g h r)
        (course g h).late k.cells j.cells k.bytes j.bytes k.queue j.queue lands.shows later e i.cells q.0 q.1
    by_request false e =
        let q = i.acts e in
        shows_other (boot g.image) k.turn (late_after g h r)
        (course g h).late k.cells j.cells k.bytes j.bytes k.queue j.queue lands.shows later e i.cells q.0 q.1

pub issues_lands : (g : Given) (h : List Item) (r : Record) (k j : Kernel) → Lands g h k
    → (ahead g h).imprecise ≡ None → (ahead g h).next ≡ Does r → (ahead g h).turn ≤ k.turn
    → Issues (late_after g h r) k j → Lands g (Step r ∷ h) j
issues_lands g h r k j lands precise is_next due i =
    let x = late_after g h r in
    let issue : (ahead g h).turn ≡ x.timed.issue = ahead_precise g h precise ∙ ap (issue_of_next g h) is_next in
    let in_time : k.turn ≤ (ahead g h).turn = lands.in_time in
    let now : x.timed.issue ≡ k.turn = omega (arith, issue, due, in_time) in
    let takes : x.timed.issue < x.timed.done =
    done-after (turns (course g h).late) x.timed.need x.timed.issue (course_costs g (Step r ∷ h)).0 in
    let next_turn : x.timed.issue ≤ (ahead g (Step r ∷ h)).turn = ahead_later g (Step r ∷ h) in
    let turn : j.turn ≡ k.turn = i.turn in
    record {
      board = i.board (turns (course g h).late) lands.board;
      fence = i.floor ∙ lands.fence;
      last = i.done;
      begun = omega (arith, now, turn);
      in_time = omega (arith, now, turn, next_turn);
      shows = subst (λ (t : ℕ). Shows (boot g.image) t (course g (Step r ∷ h)).late j.cells j.bytes j.queue)
          (sym turn) (issued_shows g h r k j lands i (omega (arith, now, takes)));
    }

-- before it does, nothing is planned for what it writes, and there is room for what it does
pub lands_clear : (g : Given) (h : List Item) (k : Kernel) → Lands g h k → (ahead g h).imprecise ≡ None
    → (ahead g h).turn ≤ k.turn → IsClear k.cells k.queue (need_after g h (ahead g h).next)
lands_clear g h k lands precise due =
    let xs = (course g h).late in
    let n = waiting_until (course g h).fence (need_after g h (ahead g h).next) in
    let in_time : k.turn ≤ (ahead g h).turn = lands.in_time in
    let issue : (ahead g h).turn ≡ issue_of_next g h (ahead g h).next = ahead_precise g h precise in
    let now : issue_of_next g h (ahead g h).next ≡ k.turn = omega (arith, due, in_time, issue) in
    let can : CanIssue (last_issue (turns xs)) (turns xs) n k.turn =
    subst (λ (t : ℕ). CanIssue (last_issue (turns xs)) (turns xs) n t) now (ahead_can g h precise) in
    let clear = shows_clear (boot g.image) k.turn xs k.cells k.bytes k.queue n lands.shows can in
    record { plans = clear.plans; few = clear.few; drained = clear.drained }

-- ---- a fence is set

-- what lies ahead is no earlier behind a fence, at whose turn all is done
fence_later : (g : Given) (h : List Item) → (ahead g h).turn ≤ (ahead g (Fence ∷ h)).turn
fence_later g h =
    let by_end : (ahead g h).turn ≤ end_turn (turns (course g h).late) = ahead_by_end g h in
    let fence : end_turn (turns (course g h).late) ≤ (ahead g (Fence ∷ h)).turn = ahead_fenced g (Fence ∷ h) in
    omega (arith, by_end, fence)

pub fence_lands : (g : Given) (h : List Item) (k j : Kernel) → Lands g h k
    → MovesTo (max k.turn (end_turn (turns (course g h).late))) k j → j.floor ≡ end_turn (turns (course g h).late)
    → Lands g (Fence ∷ h) j
fence_lands g h k j lands m floor =
    let done = end_turn (turns (course g h).late) in
    let begun : last_issue (turns (course g h).late) ≤ k.turn = lands.begun in
    let turn : j.turn ≡ max k.turn done = m.turn in
    let early : k.turn ≤ (ahead g h).turn = lands.in_time in
    let later : (ahead g h).turn ≤ (ahead g (Fence ∷ h)).turn = fence_later g h in
    let fence : done ≤ (ahead g (Fence ∷ h)).turn = ahead_fenced g (Fence ∷ h) in
    let le : k.turn ≤ max k.turn done = omega arith in
    record {
      board = moved_board g h (max k.turn done) k j lands m;
      fence = floor;
      last = m.done ∙ lands.last;
      begun = omega (arith, begun, turn);
      in_time = omega (arith, turn, early, later, fence);
      shows = moved_shows g h (max k.turn done) k j lands le m;
    }

-- ---- with all that is planned and waits

pub lands_registers : (g : Given) (h : List Item) (k : Kernel) (r : ℕ) → IsCourse g h → Lands g h k → r < resources
    → latest (k.cells r) ≡ resource (state_after g (records_of h)) r
lands_registers g h k r c lands lt = grind (arith, registers_settle)

pub lands_memory : (g : Given) (h : List Item) (k : Kernel) → Lands g h k
    → stored k.bytes (all_puts k.queue) ≡ (cache_after g (records_of h)).behind.bytes
lands_memory g h k lands = grind (arith, memory_settles)

pub lands_order : (g : Given) (h : List Item) (k : Kernel) → Lands g h k → AreDueInOrder k.queue
lands_order g h k lands = grind (arith, waiting-in-order, course_orderly)

-- ---- a course begins

-- what lands late, before anything is done
pub none_lands : (g : Given) (k : Kernel) → k.board ≡ pending_of [] → k.turn ≡ 1 → k.floor ≡ 0 → k.done ≡ 1
    → ((r : ℕ) → k.cells r ≡ cell (resource (boot g.image) r) None) → k.bytes ≡ (boot g.image).memory.bytes
    → k.queue ≡ [] → Lands g [] k
none_lands g k board turn floor done cells bytes queue = grind (arith, ahead_later, stands-none)
