-- What lies ahead issues no earlier than what has issued, and which faults are imprecise.
use Rattle.std.proofs.Common.{◌≡◌, ℕ, ◌<◌, ◌≤◌, max, Bool, true, cond, List, ◌∷◌, Option, Some, None, ap, ◌⊎◌, arith}
use Rattle.std.specs.Prelude.{IsTrue}
use Rattle.std.proofs.lemmas.Bool.{and_parts}
use Rattle.std.proofs.lemmas.Bool.Decides.{nat_tests}
use Rattle.i9_isa.specs.declared.inst.Inst.{Inst}
use Rattle.i9_model.specs.declared.faults.TheConstants.{ARITHMETIC}
use Rattle.i9_model.specs.declared.faults.Fault.{Fault}
use Rattle.i9_model.specs.declared.need.Need.{Need}
use Rattle.i9_model.specs.State.{State}
use Rattle.i9_model.specs.HeldFrames.{Cache}
use Rattle.i9_model.specs.Standing.{Standing}
use Rattle.i9_model.specs.Run.{Given, Kind, Faulted, Record, Next, next_by_standing, state_after}
use Rattle.i9_model.specs.Turns.{CanIssue, last_issue, end_turn, waiting_until}
use Rattle.i9_model.specs.Late.{Late, turns}
use Rattle.i9_turns.proofs.TurnWhole.{timed-issues}
use Rattle.i9_course.specs.NeedOf.{stands_alone, need_of, need_ahead}
use Rattle.i9_course.specs.Course.{Item, Fence, records_of, course, need_after, issue_of_next, instruction_ahead, late_fault, last_done, imprecise_at, to_issue, ahead}
use Rattle.i9_course.proofs.Timed.{course_timed}
use Rattle.i9_course.proofs.Barriers.{waits_for_all, last_reached, next_by_end}

-- ---- turns

-- what comes after these items may issue at a turn
abbrev pub MayIssue : Given → List Item → Next → ℕ → Type 0
MayIssue g h o t =
    let rs = turns (course g h).late in
    CanIssue (last_issue rs) rs (waiting_until (course g h).fence (need_after g h o)) t

next_can : (g : Given) (h : List Item) (o : Next) → MayIssue g h o (issue_of_next g h o)
next_can g h o = (timed-issues (turns (course g h).late) (waiting_until (course g h).fence (need_after g h o))
    (course_timed g h)).can

pub ahead_later : (g : Given) (h : List Item) → last_issue (turns (course g h).late) ≤ (ahead g h).turn
ahead_later g h = (next_can g h (to_issue g h (imprecise_at g h))).in_order

pub ahead_fenced : (g : Given) (h : List Item) → (course g h).fence ≤ (ahead g h).turn
ahead_fenced g h =
    let o = to_issue g h (imprecise_at g h) in
    let waited : max (course g h).fence (need_after g h o).not_before ≤ (ahead g h).turn = (next_can g h o).waited in
    omega (arith, waited)

-- where no fault is imprecise, the turn is that of what comes next, and there is room for it
pub ahead_precise : (g : Given) (h : List Item) → (ahead g h).imprecise ≡ None
    → (ahead g h).turn ≡ issue_of_next g h (ahead g h).next
ahead_precise g h e = ap (λ (o : Option ℕ). issue_of_next g h (to_issue g h o)) e

-- and in any case it is no later than that at which all records are done
pub ahead_by_end : (g : Given) (h : List Item) → (ahead g h).turn ≤ end_turn (turns (course g h).late)
ahead_by_end g h = next_by_end g h (to_issue g h (imprecise_at g h))

pub ahead_can : (g : Given) (h : List Item) → (ahead g h).imprecise ≡ None
    → MayIssue g h (ahead g h).next (issue_of_next g h (ahead g h).next)
ahead_can g h e = next_can g h (ahead g h).next

-- ---- which faults are imprecise

pub some_both : (b : Bool) (o : Option ℕ) (a : ℕ) → cond b o None ≡ Some a → (b ≡ true) × (o ≡ Some a)
some_both b o a h = grind arith

-- only one of which the last record is, and which is overtaken, within the length
pub imprecise_overtaken : (g : Given) (h : List Item) (a : ℕ) → (ahead g h).imprecise ≡ Some a
    → ((ahead g h).turn < last_done (course g h).late) × ((state_after g (records_of h)).count < g.length)
imprecise_overtaken g h a e = grind (arith, some_both, and_parts, nat_tests)

pub late_only : (k : Kind) (a : ℕ) → late_fault k ≡ Some a → (inst : Option Inst) × (f : Fault) × (k ≡ Faulted inst f)
    × (f.kind ≡ ARITHMETIC) × (f.address ≡ a)
late_only k a e = grind (arith, nat_tests)

pub imprecise_only : (g : Given) (h : List Item) (a : ℕ) → (ahead g h).imprecise ≡ Some a
    → (r : Record) × (rs : List Record) × (inst : Option Inst) × (f : Fault) × (records_of h ≡ r ∷ rs)
    × (r.kind ≡ Faulted inst f) × (f.kind ≡ ARITHMETIC) × (f.address ≡ a)
imprecise_only g h a e = grind (arith, some_both, late_only)

-- ---- where none is

-- where the instruction ahead waits until the last record is done
pub precise_by : (g : Given) (h : List Item)
    → last_done (course g h).late ≤ issue_of_next g h (instruction_ahead (state_after g (records_of h)))
    → (ahead g h).imprecise ≡ None
precise_by g h le = grind arith

-- so it does behind a fence
pub fenced_precise : (g : Given) (h : List Item) → (ahead g (Fence ∷ h)).imprecise ≡ None
fenced_precise g h =
    let o = instruction_ahead (state_after g (records_of h)) in
    let waited : max (end_turn (turns (course g h).late)) (need_after g (Fence ∷ h) o).not_before ≤ issue_of_next g
    (Fence ∷ h) o = (next_can g (Fence ∷ h) o).waited in
    let reached : last_done (course g h).late ≤ end_turn (turns (course g h).late) = last_reached (course g h).late in
    precise_by g (Fence ∷ h) (omega (arith, waited, reached))

-- and where bit 15 of AC or trace enable is set
alone_need : (asked : Option ℕ) (c : Cache) (s : State) (x : Standing) → IsTrue (stands_alone s)
    → IsTrue (need_ahead asked c (next_by_standing s x)).barrier
    ⊎ IsTrue (need_ahead asked c (next_by_standing s x)).alone
unfolding need_of
alone_need asked c s x alone = grind arith

last_by : (xs : List Late) (n : Need) (t : ℕ) → CanIssue (last_issue (turns xs)) (turns xs) n t
    → IsTrue n.barrier ⊎ IsTrue n.alone → last_done xs ≤ t
last_by xs n t can b = grind (arith, waits_for_all)

pub alone_precise : (g : Given) (h : List Item) → IsTrue (stands_alone (state_after g (records_of h)))
    → (ahead g h).imprecise ≡ None
alone_precise g h alone = grind (arith, precise_by, last_by, next_can, alone_need)
