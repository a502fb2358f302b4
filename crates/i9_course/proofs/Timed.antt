-- The records of every course have their turns and take their time, and what is neither a request nor a barrier writes
-- no memory.
use Rattle.std.proofs.Common.{◌≡◌, ℕ, Bool, true, false, ◌||◌, List, [], ◌∷◌, Some, None, refl, ap, ◌⊎◌, arith}
use Rattle.std.specs.Prelude.{IsTrue}
use Rattle.std.proofs.lemmas.Bool.{cases_Bool}
use Rattle.i9_model.specs.State.{State}
use Rattle.i9_model.specs.HeldFrames.{Cache, cache_after}
use Rattle.i9_model.specs.Run.{Given, Kind, Instruction, Faulted, Entered, Interrupted, Reached, action_by_kind}
use Rattle.i9_model.specs.Turns.{HasCost, IsTimed, TakesTurns, waiting_until}
use Rattle.i9_model.specs.Late.{turns, AreQuiet}
use Rattle.i9_model.specs.Fences.{fenced, with_item}
use Rattle.i9_model.specs.Fences as fences
use Rattle.i9_turns.proofs.NeedLaws.{inst_cost, refused_cost, event_cost, entry_cost, quiet}
use Rattle.i9_turns.proofs.TurnWhole.{IsTimed-with_need}
use Rattle.i9_course.specs.NeedOf.{is_of_dma, need_of, record_need}
use Rattle.i9_course.specs.Course.{Item, Step, Fence, records_of, puts_of, course, needs_of, turns_of}

-- ---- costs

pub need_cost : (n : ℕ) (c : Cache) (s : State) (k : Kind) → HasCost (need_of n c s k)
unfolding need_of
need_cost n c s (Instruction i) = inst_cost i _
need_cost n c s (Faulted None fault) = refused_cost s.ip
need_cost n c s (Faulted (Some i) fault) = inst_cost i _
need_cost n c s (Entered e) = entry_cost _
need_cost n c s (Interrupted x e) = entry_cost _
need_cost n c s (Reached e u) = event_cost (is_of_dma e) 0

pub course_timed : (g : Given) (h : List Item) → IsTimed (turns (course g h).late)
course_timed g [] = tt
course_timed g (Fence ∷ h) = course_timed g h
course_timed g (Step r ∷ h) =
    IsTimed-with_need (turns (course g h).late)
    (waiting_until (course g h).fence (record_need g.sets (cache_after g (records_of h)) r)) (course_timed g h)

pub course_costs : (g : Given) (h : List Item) → TakesTurns (turns (course g h).late)
course_costs g [] = tt
course_costs g (Fence ∷ h) = course_costs g h
course_costs g (Step r ∷ h) = grind (arith, need_cost, course_costs g h)

-- the turns are those of the needs with their fences
pub course_fenced : (g : Given) (h : List Item) → fenced (needs_of g h) ≡ turns_of (course g h)
course_fenced g [] = refl
course_fenced g (Fence ∷ h) = ap (with_item fences.Fence) (course_fenced g h)
course_fenced g (Step r ∷ h) = grind (arith, course_fenced g h)

-- ---- writes

pub first_of : (a b c d e f : Bool) → a ≡ true → (a || b || c || d || e || f) ≡ true
first_of a b c d e f h = grind arith

pub need_quiet : (n : ℕ) (c : Cache) (s : State) (k : Kind) → (need_of n c s k).request ≡ false
    → (puts_of n c (action_by_kind k s) ≡ []) ⊎ IsTrue (need_of n c s k).barrier
unfolding need_of
need_quiet n c s k q = grind (arith, cases_Bool, first_of, quiet)

pub course_quiet : (g : Given) (h : List Item) → AreQuiet (course g h).late
course_quiet g [] = tt
course_quiet g (Fence ∷ h) = course_quiet g h
course_quiet g (Step r ∷ h) = grind (arith, need_quiet, course_quiet g h)
