-- An event that waits for a turn issues at no earlier one.
use Rattle.std.proofs.Common.{◌≡◌, ◌≢◌, ℕ, ◌≤◌, Bool, true, cond, List, [], length, Option, Some, None, sym, ap, ◌∙◌, ◌↔◌, arith}
use Rattle.std.specs.Prelude.{nat_le, IsTrue}
use Rattle.std.specs.List.{slice_get}
use Rattle.std.proofs.lemmas.Bool.{le-leb, leb-true}
use Rattle.i9_model.specs.declared.event.Event.{Event}
use Rattle.i9_model.specs.declared.run.Due.{Due}
use Rattle.i9_model.specs.ScheduleText.{timed_by_turn, event_where, has_come_by}
use Rattle.i9_model.specs.State.{State}
use Rattle.i9_model.specs.Run.{Given, Kind, Record, Does, due_after, reached_by, reached_after, state_after}
use Rattle.i9_model.specs.Turns.{end_turn}
use Rattle.i9_model.specs.Late.{turns}
use Rattle.i9_past.proofs.Comes.{MayCome, next_comes}
use Rattle.i9_course.specs.NeedOf.{is_barrier_kind}
use Rattle.i9_course.specs.Course.{Item, records_of, course, issue_of_next, instruction_ahead, instruction_turn, event_ahead, ahead}
use Rattle.i9_course.proofs.Ahead.{ahead_precise}
use Rattle.i9_course.proofs.Barriers.{next_by_end, record_barrier}

-- the next event of the plan waits for a turn
abbrev WaitsFor : Given → List Item → ℕ → Event → Type 0
WaitsFor g h n e = slice_get g.plan (length (reached_after (records_of h))) ≡ Some (timed_by_turn n e)

event_is : (g : Given) (h : List Item) (n : ℕ) (e : Event) → WaitsFor g h n e
    → event_ahead g h ≡ cond (nat_le n (instruction_turn g h)) (Some e) None
event_is g h n e waits = ap (event_where (has_come_by (state_after g (records_of h)).count (instruction_turn g h))) waits

stood : (b : Bool) (e f : Event) → cond b (Some e) None ≡ Some f → b ≡ true
stood b e f h = grind arith

pub stands_where : (g : Given) (h : List Item) (n : ℕ) (e : Event) → WaitsFor g h n e
    → (event_ahead g h ≡ Some e ↔ n ≤ instruction_turn g h)
stands_where g h n e waits = grind (arith, leb-true, stood, event_is, le-leb)

-- what reached an event reached one that stood there, and is a barrier
abbrev ReachedOne : Option Event → Kind → Type 0
ReachedOne o k = ((e : Event) × (o ≡ Some e)) × IsTrue (is_barrier_kind k)

reached_one : (limit : ℕ) (due : Due) (o : Option Event) (s u : State) (k : Kind) → MayCome limit due o s k → reached_by k u ≢ [] → ReachedOne o k
reached_one limit due o s u k may some = grind arith

pub waited_turn : (g : Given) (h : List Item) (n : ℕ) (e : Event) (r : Record) → WaitsFor g h n e
    → (ahead g h).imprecise ≡ None → (ahead g h).next ≡ Does r → reached_by r.kind r.before ≢ [] → n ≤ (ahead g h).turn
waited_turn g h n e r waits precise is some =
    let s = state_after g (records_of h) in
    let due = due_after (records_of h) in
    let comes = next_comes g.length due (event_ahead g h) s r is in
    let one = reached_one g.length due (event_ahead g h) s r.before r.kind comes.1 some in
    let at : n ≤ instruction_turn g h =
    leb-true n (instruction_turn g h) (stood (nat_le n (instruction_turn g h)) e one.0.0 (sym (event_is g h n e waits) ∙ one.0.1)) in
    let turn : (ahead g h).turn ≡ end_turn (turns (course g h).late) =
    ahead_precise g h precise ∙ ap (issue_of_next g h) is ∙ record_barrier g h r one.1 in
    let by_end : instruction_turn g h ≤ end_turn (turns (course g h).late) = next_by_end g h (instruction_ahead s) in
    omega (arith, at, turn, by_end)
