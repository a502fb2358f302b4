-- The records of a course issue and land in order, and each leaves what it does not write.
use Rattle.std.proofs.Common.{◌≡◌, ℕ, zero, suc, ◌<◌, ◌≤◌, false, List, [], ◌∷◌, length, Option, refl, sym, ap, ◌∙◌, arith}
use Rattle.std.specs.Prelude.{◌==◌}
use Rattle.std.specs.Int.{bit_at}
use Rattle.std.proofs.lemmas.Bool.Decides.{nat_tests}
use Rattle.std.proofs.lemmas.Nat.Bits.{bit_at-lt}
use Rattle.i9_model.specs.Memory.{stored}
use Rattle.i9_model.specs.State.{boot}
use Rattle.i9_model.specs.HeldFrames.{sets_in, cache_after}
use Rattle.i9_model.specs.declared.event.Event.{Event}
use Rattle.i9_model.specs.declared.event.Timed.{Timed}
use Rattle.i9_model.specs.ScheduleText.{IsByCounts, standing, standing_by}
use Rattle.i9_model.specs.Run.{Given, Record, IsPast, IsPastOfSome, Does, record_of, state_after, reached_after, next_with, next, due_after}
use Rattle.i9_model.specs.Turns.{last_issue}
use Rattle.i9_model.specs.Late.{turns, last_state, resource, resources, Leaves, IsOrderly, cell_at, latest, waiting, acted_memory, all_puts}
use Rattle.i9_past.proofs.Comes.{next_comes}
use Rattle.i9_past.proofs.Heedful.{with_plan, past_of_events}
use Rattle.i9_turns.proofs.LateRegisters.{cell-latest}
use Rattle.i9_turns.proofs.LateMemories.{memory-settles}
use Rattle.i9_turns.proofs.LateOrder.{issued-by, orderly}
use Rattle.i9_course.specs.NeedOf.{need_of}
use Rattle.i9_course.specs.Course.{Item, Step, Fence, records_of, course, instruction_turn, event_ahead, comes_next, IsCourse}
use Rattle.i9_course.proofs.Settled.{course_settles}
use Rattle.i9_course.proofs.Timed.{course_timed, course_costs, course_quiet}
use Rattle.i9_course.proofs.Kept.{kind_keeps}

pub course_orderly : (g : Given) (h : List Item) → IsOrderly (course g h).late
course_orderly g h = orderly (course g h).late (course_timed g h) (course_costs g h) (course_quiet g h)

-- ---- the records are those of the run

-- with the events that stood there
pub course_events : (g : Given) (h : List Item) → IsCourse g h → IsPastOfSome (next_with g) (records_of h)
course_events g [] c = tt
course_events g (Fence ∷ h) c = course_events g h c
course_events g (Step r ∷ h) c = (course_events g h c.0, (event_ahead g h, c.2))

-- which are its plan
pub course_past : (g : Given) (h : List Item) → IsCourse g h → IsPast (with_plan g (reached_after (records_of h))) (records_of h)
course_past g h c = past_of_events g (records_of h) (course_events g h c)

-- where the plan is by counts, it knows no turns
counted_standing : (ts : List Timed) (place k t : ℕ) → IsByCounts ts → standing_by ts place k t ≡ standing ts place k
counted_standing [] place k t counted = refl
counted_standing (x ∷ ts) zero k t counted = grind arith
counted_standing (x ∷ ts) (suc place) k t counted = counted_standing ts place k t counted.1

pub counted_next : (g : Given) (h : List Item) → IsByCounts g.plan → comes_next g h ≡ next g (records_of h)
counted_next g h counted =
    let rs = records_of h in
    ap (λ (o : Option Event). next_with g o rs)
    (counted_standing g.plan (length (reached_after rs)) (state_after g rs).count (instruction_turn g h) counted)

pub counted_past : (g : Given) (h : List Item) → IsByCounts g.plan → IsCourse g h → IsPast g (records_of h)
counted_past g [] counted c = tt
counted_past g (Fence ∷ h) counted c = counted_past g h counted c
counted_past g (Step r ∷ h) counted c = (counted_past g h counted c.0, sym (counted_next g h counted) ∙ c.2)

-- the state after the last of them is that of the run
pub last_after : (g : Given) (h : List Item)
    → last_state (boot g.image) (course g h).late ≡ state_after g (records_of h)
last_after g [] = refl
last_after g (Fence ∷ h) = last_after g h
last_after g (Step r ∷ h) = refl

-- what comes next is the record of what it does in the state after the run
pub comes_after : (g : Given) (o : Option Event) (rs : List Record) (r : Record) → next_with g o rs ≡ Does r
    → r ≡ record_of r.kind (state_after g rs)
comes_after g o rs r e = (next_comes g.length (due_after rs) o (state_after g rs) r e).0

-- ---- what it leaves

no_mark : (n k : ℕ) → (bit_at n k == 1) ≡ false → bit_at n k ≡ 0
no_mark n k h = grind (arith, nat_tests, h, bit_at-lt n k)

step_leaves : (g : Given) (h : List Item) (r : Record) (k : ℕ) → r ≡ record_of r.kind (state_after g (records_of h))
    → k < resources
    → bit_at (need_of (sets_in g.sets r.before) (cache_after g (records_of h)) r.before r.kind).writes k ≡ 0
    → resource r.after k ≡ resource (last_state (boot g.image) (course g h).late) k
step_leaves g h r k e lt none = grind (arith, kind_keeps, last_after)

pub course_leaves : (g : Given) (h : List Item) → IsCourse g h → Leaves (boot g.image) (course g h).late
course_leaves g [] c = tt
course_leaves g (Fence ∷ h) c = course_leaves g h c
course_leaves g (Step r ∷ h) c = grind (arith, comes_after, step_leaves, no_mark, course_leaves g h c.0)

-- ---- with what is planned and waits

pub registers_settle : (g : Given) (h : List Item) (t r : ℕ) → IsCourse g h
    → last_issue (turns (course g h).late) ≤ t → r < resources
    → latest (cell_at (boot g.image) t (course g h).late r) ≡ resource (state_after g (records_of h)) r
registers_settle g h t r c le lt =
    grind (arith, cell-latest, issued-by, course_timed, course_orderly, course_leaves, last_after)

pub memory_settles : (g : Given) (h : List Item) (t : ℕ) → last_issue (turns (course g h).late) ≤ t
    → stored (acted_memory (boot g.image).memory.bytes t (course g h).late) (all_puts (waiting t (course g h).late))
    ≡ (cache_after g (records_of h)).behind.bytes
memory_settles g h t le = grind (arith, memory-settles, issued-by, course_timed, course_orderly, course_settles)
