-- Which fault is imprecise depends on the records and the length alone: frames that are moved cost turns in barriers.
use Rattle.std.proofs.Common.{◌≡◌, ℕ, ◌≤◌, Bool, ◌&&◌, List, [], ◌∷◌, Option, refl, arith}
use Rattle.std.specs.Prelude.{nat_lt}
use Rattle.std.specs.List.{AllZip}
use Rattle.i9_model.specs.declared.need.Need.{Need}
use Rattle.i9_model.specs.declared.need.TimedNeed.{TimedNeed}
use Rattle.i9_model.specs.State.{State}
use Rattle.i9_model.specs.HeldFrames.{Cache, cache_after}
use Rattle.i9_model.specs.Run.{Given, Kind, Record, Next, Does, state_after}
use Rattle.i9_model.specs.Turns.{HaveCosts, IsAlike, last_issue, issue_turn, waiting_until, timed}
use Rattle.i9_model.specs.Late.{Late, turns}
use Rattle.i9_turns.proofs.TurnAlike.{alike-overtakes}
use Rattle.i9_course.specs.NeedOf.{need_of, record_need, need_ahead}
use Rattle.i9_course.specs.Course.{course, instruction_ahead, last_done, is_overtaken, imprecise_at}
use Rattle.i9_course.specs.PipelinedRun.{steps}
use Rattle.i9_course.proofs.Timed.{need_cost}
use Rattle.i9_course.proofs.PipelinedRuns.{records_of-steps, either_none}

-- ---- needs with other sets

need_itself : (n : Need) → n.not_before ≡ 0 → IsAlike n n
need_itself n e = record { barrier = refl; same = λ h. refl; wait = λ h. e }

-- the same, or barriers
pub sets_alike : (n m : ℕ) (c d : Cache) (s : State) (k : Kind) → IsAlike (need_of n c s k) (need_of m d s k)
unfolding need_of
sets_alike n m c d s k = grind arith

ahead_alike : (asked other : Option ℕ) (c d : Cache) (o : Next) → IsAlike (need_ahead asked c o) (need_ahead other d o)
ahead_alike asked other c d o = grind (arith, sets_alike, need_itself)

-- ---- the needs of records, newest first

abbrev needs : Given → List Record → List Need
needs g [] = []
needs g (r ∷ rs) = record_need g.sets (cache_after g rs) r ∷ needs g rs

needs_alike : (g k : Given) (rs : List Record) → AllZip IsAlike (needs g rs) (needs k rs)
needs_alike g k [] = tt
needs_alike g k (r ∷ rs) =
    (ahead_alike g.sets k.sets (cache_after g rs) (cache_after k rs) (Does r), needs_alike g k rs)

ahead_cost : (asked : Option ℕ) (c : Cache) (o : Next) → 1 ≤ (need_ahead asked c o).cost
ahead_cost asked c o = grind (arith, need_cost)

needs_cost : (g : Given) (rs : List Record) → HaveCosts (needs g rs)
needs_cost g [] = tt
needs_cost g (r ∷ rs) = (ahead_cost g.sets (cache_after g rs) (Does r), needs_cost g rs)

-- ---- with no fence between them

waits_none : (n : Need) → waiting_until 0 n ≡ n
waits_none n = grind arith

no_fence : (g : Given) (rs : List Record) → (course g (steps rs)).fence ≡ 0
no_fence g [] = refl
no_fence g (r ∷ rs) = no_fence g rs

pub steps_turns : (g : Given) (rs : List Record) → turns (course g (steps rs)).late ≡ timed (needs g rs)
steps_turns g [] = refl
steps_turns g (r ∷ rs) = grind (arith, no_fence, waits_none, records_of-steps, steps_turns g rs)

-- ---- an overtaking

last_turn : List TimedNeed → ℕ
last_turn [] = 1
last_turn (r ∷ rs) = r.done

last_done-turn : (xs : List Late) → last_done xs ≡ last_turn (turns xs)
unfolding last_turn
last_done-turn xs = grind arith

-- the need of the instruction ahead
abbrev need_there : Given → List Record → Need
need_there g rs = need_ahead g.sets (cache_after g rs) (instruction_ahead (state_after g rs))

-- a need after these issues before the last of them is done
abbrev passes : List TimedNeed → Need → Bool
passes ts n = nat_lt (issue_turn (last_issue ts) ts n) (last_turn ts)

steps_overtaken : (g : Given) (rs : List Record)
    → is_overtaken g (steps rs)
    ≡ (nat_lt (state_after g rs).count g.length && passes (timed (needs g rs)) (need_there g rs))
steps_overtaken g rs = grind (arith, records_of-steps, no_fence, waits_none, last_done-turn, steps_turns)

-- so it depends on the records and the test of the length alone
passes_same : (g k : Given) (r : Record) (rs : List Record)
    → passes (timed (needs k (r ∷ rs))) (need_there k (r ∷ rs))
    ≡ passes (timed (needs g (r ∷ rs))) (need_there g (r ∷ rs))
unfolding last_turn
passes_same g k r rs =
    let o = instruction_ahead r.after in
    alike-overtakes (need_there k (r ∷ rs) ∷ needs k (r ∷ rs)) (need_there g (r ∷ rs) ∷ needs g (r ∷ rs))
    (ahead_cost k.sets (cache_after k (r ∷ rs)) o, needs_cost k (r ∷ rs))
    (ahead_cost g.sets (cache_after g (r ∷ rs)) o, needs_cost g (r ∷ rs))
    (ahead_alike k.sets g.sets (cache_after k (r ∷ rs)) (cache_after g (r ∷ rs)) o, needs_alike k g (r ∷ rs))

pub imprecise_where : (g k : Given) (rs : List Record)
    → nat_lt (state_after k rs).count k.length ≡ nat_lt (state_after g rs).count g.length
    → imprecise_at k (steps rs) ≡ imprecise_at g (steps rs)
imprecise_where g k rs same = grind (arith, either_none, steps_overtaken, passes_same)

-- at one length
pub imprecise_same : (g k : Given) (rs : List Record) → k.length ≡ g.length
    → imprecise_at k (steps rs) ≡ imprecise_at g (steps rs)
imprecise_same g k rs same = grind (arith, either_none, imprecise_where)
