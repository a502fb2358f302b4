-- The check flag is set only behind a barrier, so that what comes next waits for all.
use Rattle.std.proofs.Common.{◌≡◌, ℕ, ◌≤◌, true, List, [], ◌∷◌, None, sym, ap, ◌∙◌, inl, arith}
use Rattle.std.specs.Prelude.{IsTrue}
use Rattle.std.specs.List.{AllByRecursion}
use Rattle.std.proofs.lemmas.Bool.{cases_Bool, both_ways}
use Rattle.i9_model.specs.declared.need.Need.{Need}
use Rattle.i9_model.specs.declared.need.TimedNeed.{TimedNeed}
use Rattle.i9_model.specs.State.{State, started, boot}
use Rattle.i9_model.specs.Step.{moved, acted}
use Rattle.i9_model.specs.HeldFrames.{Cache, sets_in, cache_after}
use Rattle.i9_model.specs.Run.{Given, Kind, Record, after_kind, state_after}
use Rattle.i9_model.specs.Turns.{CanIssue, IsTimed, last_issue, end_turn}
use Rattle.i9_model.specs.Late.{turns}
use Rattle.i9_turns.proofs.TurnFences.{end-least}
use Rattle.i9_course.specs.NeedOf.{need_of}
use Rattle.i9_course.specs.Course.{Item, Step, Fence, records_of, course, event_ahead, ahead, IsCourse}
use Rattle.i9_course.proofs.Timed.{course_timed}
use Rattle.i9_course.proofs.Barriers.{waits_for_all, kind_barrier}
use Rattle.i9_course.proofs.Ahead.{ahead_precise, ahead_can, ahead_by_end}
use Rattle.i9_course.proofs.Orderly.{comes_after}
use Rattle.i9_course.proofs.NeedActs.{instruction_keeps}

-- ---- the check flag behind a record

-- only a barrier leaves it set
check_barrier : (n : ℕ) (c : Cache) (s : State) (k : Kind) → (after_kind k s).check ≡ true
    → IsTrue (need_of n c s k).barrier
unfolding acted moved
check_barrier n c s k set = grind (arith, cases_Bool, kind_barrier, both_ways, instruction_keeps)

-- ---- behind a barrier

-- the last of these is a barrier
abbrev IsLastBarrier : List TimedNeed → Type 0
IsLastBarrier [] = ⊥
IsLastBarrier (r ∷ rs) = IsTrue r.need.barrier

boot_check : (image : List (ℕ × ℕ)) → (boot image).check ≡ true → ⊥
unfolding boot started
boot_check image set = cc set

step_barrier : (g : Given) (h : List Item) (r : Record) → IsCourse g (Step r ∷ h) → r.after.check ≡ true
    → IsLastBarrier (turns (course g (Step r ∷ h)).late)
step_barrier g h r c set =
    let s = state_after g (records_of h) in
    let is = comes_after g (event_ahead g h) (records_of h) r c.2 in
    let before : s ≡ r.before = sym (ap (λ (q : Record). q.before) is) in
    let after : r.after ≡ after_kind r.kind r.before =
    ap (λ (q : Record). q.after) is ∙ ap (after_kind r.kind) before in
    check_barrier (sets_in g.sets r.before) (cache_after g (records_of h)) r.before r.kind
    (sym (ap (λ (x : State). x.check) after) ∙ set)

last_barrier : (g : Given) (h : List Item) → IsCourse g h → (state_after g (records_of h)).check ≡ true
    → IsLastBarrier (turns (course g h).late)
last_barrier g [] c set = boot_check g.image set
last_barrier g (Fence ∷ h) c set = last_barrier g h c set
last_barrier g (Step r ∷ h) c set = step_barrier g h r c set

done_later : (t u : ℕ) (rs : List TimedNeed) → t ≤ u → AllByRecursion (λ r. r.done ≤ t) rs
    → AllByRecursion (λ r. r.done ≤ u) rs
done_later t u [] le h = tt
done_later t u (r ∷ rs) le h = (let one : r.done ≤ t = h.0 in omega (arith, one, le), done_later t u rs le h.1)

-- what is behind a barrier waits for all, since the barrier did
behind_barrier : (n : Need) (t : ℕ) (rs : List TimedNeed) → IsTimed rs → IsLastBarrier rs
    → CanIssue (last_issue rs) rs n t → end_turn rs ≤ t
behind_barrier n t [] h b can = absurd b
behind_barrier n t (r ∷ rs) h b can =
    let earlier = waits_for_all r.need r.issue rs (inl b) h.0.issue.can.each in
    end-least (r ∷ rs) t
    (record { in_order = can.in_order; done = (can.each.0.barrier b, done_later r.issue t rs can.in_order earlier) })

pub checked_waits : (g : Given) (h : List Item) → IsCourse g h → (ahead g h).imprecise ≡ None
    → (state_after g (records_of h)).check ≡ true → (ahead g h).turn ≡ end_turn (turns (course g h).late)
checked_waits g h c precise set =
    grind (arith, ahead_precise, ahead_by_end, behind_barrier, course_timed, last_barrier, ahead_can)
