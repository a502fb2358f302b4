-- Each record leaves less of a run, and none counts beyond the length.
use Rattle.std.proofs.Common.{◌≡◌, ◌≢◌, ℕ, zero, suc, ◌+◌, ◌-◌, ◌*◌, ◌<◌, ◌≤◌, Bool, true, false, cond, List, [], ◌∷◌, ◌++◌, length, drop, Ok, Option, Some, find, refl, sym, ap, subst, ◌∙◌, arith}
use Rattle.std.specs.Prelude.{◌&&◌, ◌==◌, map, filter, flat_map}
use Rattle.std.specs.List.{slice_get, range_with_len, AllByRecursion}
use Rattle.std.proofs.lemmas.Bool.{and_parts, cases_Bool, eqb-true}
use Rattle.i9_isa.specs.declared.inst.Inst.{Inst}
use Rattle.i9_isa.specs.declared.op.Op.{Op}
use Rattle.i9_isa.specs.declared.inst.Operand.{Operand}
use Rattle.i9_isa.specs.declared.inst.Operand.TheVariants.{Reg}
use Rattle.i9_isa.specs.declared.size.Size.{Size}
use Rattle.i9_isa.specs.declared.size.Direction.{Direction}
use Rattle.i9_model.specs.declared.interrupts.Cause.{Cause}
use Rattle.i9_model.specs.declared.interrupts.Cause.TheVariants.{Nmi, Line, Soft}
use Rattle.i9_model.specs.declared.interrupts.Chosen.{Chosen}
use Rattle.i9_model.specs.declared.interrupts.TheConstants.{NMI_VECTOR, PENDING_SIZE, LINES}
use Rattle.i9_model.specs.declared.event.Event.{Event}
use Rattle.i9_model.specs.declared.event.Event.TheVariants as events
use Rattle.i9_model.specs.declared.event.Timed.{Timed}
use Rattle.i9_model.specs.declared.event.When.{When}
use Rattle.i9_model.specs.declared.run.Due.{Due}
use Rattle.i9_model.specs.declared.run.Due.TheVariants as dues
use Rattle.i9_model.specs.State.{State, Interrupts, started}
use Rattle.i9_model.specs.Hazards.{read_hazard}
use Rattle.i9_model.specs.Interrupts.{is_asked, is_requested, passes, vector_priority, line_vector, below, vectors_of, choice, lines_with, choices_at, choices, chosen_of, chosen, chosen_soft, cleared, posted, interrupt_pc, planned_interrupt_by}
use Rattle.i9_model.specs.declared.faults.Entry.{Entry}
use Rattle.i9_model.specs.ScheduleText.{event_where, has_come_at, has_come_by, standing, standing_by}
use Rattle.i9_model.specs.Branches.{asks}
use Rattle.i9_model.specs.Operands.{interrupts_assigned}
use Rattle.i9_model.specs.Step.{Action, Message, message_action, branching, resulting, answer_in, destination, moving, action_by_name, action_of, entering, moved, acted}
use Rattle.i9_model.specs.Before.{Received, choice_in, interrupt_in, interrupting, received_in, receiving}
use Rattle.i9_model.specs.Left.{flag, room_of, asked, event_work, plan_work, pending, left_in}
use Rattle.i9_model.specs.Run.{Kind, Instruction, Faulted, Entered, Interrupted, Reached, Record, record_of, counts_of, after_kind, action_by_kind, due_by, reached_by, Does, next_in}
use Rattle.i9_model.proofs.CallLaws.{unless_ok}
use Rattle.i9_model.specs.Traced.{traced_action}
use Rattle.i9_model.proofs.ControlLaws.{acted-count}
use Rattle.i9_past.proofs.Comes.{MayCome, next_comes}

-- the instructions that a record counts
pub counts_after : (k : Kind) (s : State) → (after_kind k s).count ≡ s.count + counts_of k
counts_after k s = ap (λ (n : ℕ). n + counts_of k) (acted-count s (action_by_kind k s))

-- ---- what an interrupt is chosen for

-- a vector of each cause: 4 bits of a map word give priorities of lines up to 30
abbrev IsVector : Cause → ℕ → Type 0
IsVector Nmi v = v < 256
IsVector (Line k) v = v < 248
IsVector Soft v = v < 256

abbrev HasVector : Chosen → Type 0
HasVector c = IsVector c.cause c.vector

all_append : {A : Type 0} (P : A → Type 0) (xs ys : List A) → AllByRecursion P xs → AllByRecursion P ys → AllByRecursion P (xs ++ ys)
all_append P [] ys h g = g
all_append P (x ∷ xs) ys h g = (h.0, all_append P xs ys h.1 g)

all_flat : {A B : Type 0} (P : A → Type 0) (Q : B → Type 0) (f : A → List B) (xs : List A) → ((x : A) → P x → AllByRecursion Q (f x)) → AllByRecursion P xs → AllByRecursion Q (flat_map f xs)
all_flat P Q f [] each h = tt
all_flat P Q f (x ∷ xs) each h = all_append Q (f x) (flat_map f xs) (each x h.0) (all_flat P Q f xs each h.1)

all_map : {A B : Type 0} (P : A → Type 0) (Q : B → Type 0) (f : A → B) (xs : List A) → ((x : A) → P x → Q (f x)) → AllByRecursion P xs → AllByRecursion Q (map f xs)
all_map P Q f [] each h = tt
all_map P Q f (x ∷ xs) each h = (each x h.0, all_map P Q f xs each h.1)

all_below : (top from n : ℕ) → 0 < top → AllByRecursion (λ x. x < top) (map (λ j. top - 1 - j) (range_with_len from n))
all_below top from zero some = tt
all_below top from (suc n) some = (omega (arith, some), all_below top (from + 1) n some)

line_low : (maps : List ℕ) (k : ℕ) → line_vector maps k < 248
line_low maps k = omega arith

all_lines : (maps : List ℕ) (v : ℕ) (ks : List ℕ) → AllByRecursion HasVector (map (λ k. choice (Line k) v) (filter (λ k. line_vector maps k == v) ks))
all_lines maps v [] = tt
all_lines maps v (k ∷ ks) = grind (arith, cases_Bool, eqb-true, line_low, all_lines maps v ks)

all_choices : (maps : List ℕ) → AllByRecursion HasVector (choices maps)
all_choices maps = all_flat (λ p. p < 32) HasVector (choices_at maps) (below 32 31) at_priority (all_below 32 0 31 (omega arith))
  where
    at_priority : (p : ℕ) → p < 32 → AllByRecursion HasVector (choices_at maps p)
    at_priority p low =
        let vectors = all_below (8 * p + 8) 0 8 (omega arith) in
        all_append HasVector (flat_map (lines_with maps) (vectors_of p)) (map (choice Soft) (vectors_of p))
        (all_flat (λ v. v < 8 * p + 8) HasVector (lines_with maps) (vectors_of p) (λ v small. all_lines maps v (range_with_len 0 LINES)) vectors)
        (all_map (λ v. v < 8 * p + 8) HasVector (choice Soft) (vectors_of p) (λ v small. omega (arith, small, low)) vectors)

find_both : {A : Type 0} (P : A → Type 0) (test : A → Bool) (xs : List A) (x : A) → AllByRecursion P xs → find test xs ≡ Some x → P x × (test x ≡ true)
find_both P test [] x all found = absurd cc
find_both P test (y ∷ ys) x all found = by_test (test y) refl found (find_both P test ys x all.1)
  where
    by_test : (b : Bool) → test y ≡ b → cond b (Some y) (find test ys) ≡ Some x → (find test ys ≡ Some x → P x × (test x ≡ true)) → P x × (test x ≡ true)
    by_test true is e later = let same : y ≡ x = cc in (subst P same all.0, ap test (sym same) ∙ is)
    by_test false is e later = later e

-- what chose an interrupt was posted or asked for, and was let in
abbrev WasAsked : Interrupts → (ℕ → Bool) → ℕ → Cause → ℕ → Type 0
WasAsked i soft pc Nmi v = (i.nmi ≡ true) × (room_of (interrupt_pc v) ≤ room_of pc)
WasAsked i soft pc (Line k) v = room_of (interrupt_pc v) < room_of pc
WasAsked i soft pc Soft v = (soft v ≡ true) × (room_of (interrupt_pc v) ≤ room_of pc)

asked_by : (i : Interrupts) (soft : ℕ → Bool) (pc : ℕ) (c : Cause) (v : ℕ) → IsVector c v → is_asked i soft c v ≡ true → passes pc (vector_priority v) ≡ true → WasAsked i soft pc c v
asked_by i soft pc c v small h p = grind arith

chosen_asked : (i : Interrupts) (soft : ℕ → Bool) (pc : ℕ) (c : Chosen) → chosen_of i soft pc ≡ Some c → WasAsked i soft pc c.cause c.vector
unfolding chosen_of
chosen_asked i soft pc c is = by_nmi i.nmi refl is
  where
    by_nmi : (b : Bool) → i.nmi ≡ b → cond b (Some (choice Nmi NMI_VECTOR)) (find (λ x. is_asked i soft x.cause x.vector && passes pc (vector_priority x.vector)) (choices i.maps)) ≡ Some c → WasAsked i soft pc c.cause c.vector
    by_nmi true n e = let same : choice Nmi NMI_VECTOR ≡ c = cc in subst (λ (x : Chosen). WasAsked i soft pc x.cause x.vector) same (n, omega arith)
    by_nmi false n e =
        let passed = find_both HasVector (λ (x : Chosen). is_asked i soft x.cause x.vector && passes pc (vector_priority x.vector)) (choices i.maps) c (all_choices i.maps) e in
        let both = and_parts (is_asked i soft c.cause c.vector) (passes pc (vector_priority c.vector)) passed.1 in
        asked_by i soft pc c.cause c.vector passed.0 both.0 both.1

-- an entry asks for less
abbrev after_entry : Chosen → Interrupts → ℕ
after_entry c i = room_of (interrupt_pc c.vector) + flag (cleared c.cause i).nmi

line_less : (i : Interrupts) (soft : ℕ → Bool) (pc : ℕ) (c : Cause) (v : ℕ) → WasAsked i soft pc c v → ((w : ℕ) → soft w ≡ false) → room_of (interrupt_pc v) + flag (cleared c i).nmi < room_of pc + flag i.nmi
line_less i soft pc c v was none = grind arith

still_most : (i : Interrupts) (soft : ℕ → Bool) (pc : ℕ) (c : Cause) (v : ℕ) → WasAsked i soft pc c v → room_of (interrupt_pc v) + flag (cleared c i).nmi ≤ room_of pc + flag i.nmi
still_most i soft pc c v was = grind arith

entry_less : (s : State) (c : Chosen) → choice_in s ≡ Ok (Some c) → after_entry c s.interrupts < asked s
unfolding choice_in
entry_less s c is = by_check s.check refl is
  where
    by_check : (b : Bool) → s.check ≡ b → cond b (chosen_soft s.interrupts s.memory s.frames s.tables.interrupt_table s.pc) (Ok (chosen s.interrupts s.pc)) ≡ Ok (Some c) → after_entry c s.interrupts < asked s
    by_check true t e =
        let set : flag s.check ≡ 1 = ap flag t in
        let found = unless_ok (read_hazard s.frames s.tables.interrupt_table PENDING_SIZE) (chosen_of s.interrupts (is_requested s.memory s.tables.interrupt_table) s.pc) (Some c) e in
        let most = still_most s.interrupts (is_requested s.memory s.tables.interrupt_table) s.pc c.cause c.vector (chosen_asked s.interrupts (is_requested s.memory s.tables.interrupt_table) s.pc c found.1) in
        omega (arith, set, most)
    by_check false t e =
        let found : chosen s.interrupts s.pc ≡ Some c = cc in
        let less = line_less s.interrupts (λ v. false) s.pc c.cause c.vector (chosen_asked s.interrupts (λ v. false) s.pc c found) (λ v. refl) in
        omega (arith, less)

-- the process controls that an entry leaves
entry_pc : (s : State) (c : Chosen) (e : Entry) → interrupt_in s c ≡ Ok e → e.pc ≡ interrupt_pc c.vector
unfolding interrupt_in planned_interrupt_by
entry_pc s c e is = grind arith

-- ---- what an action asks for

abbrev asked_of : Action → ℕ
asked_of a = room_of a.pc + flag a.interrupts.nmi + flag a.check

acted_asked : (s : State) (a : Action) → asked (acted s a) ≤ asked_of a
unfolding acted moved started
acted_asked s a = grind arith

-- ---- one instruction

-- an instruction posts no interrupt that is never masked; it may have software's requests looked at
abbrev PostsFew : Action → State → Type 0
PostsFew a s = flag a.interrupts.nmi ≡ flag s.interrupts.nmi

flag_small : (b : Bool) → flag b ≤ 1
flag_small b = grind arith

-- a destination gets values
assigning_posts : (o : Operand) (vs : List ℕ) (a : Action) (s : State) → a.interrupts ≡ interrupts_assigned o vs s.interrupts → PostsFew a s
assigning_posts o vs a s is = grind arith

quiet_posts : (a : Action) (s : State) → a.interrupts ≡ s.interrupts → PostsFew a s
quiet_posts a s is = assigning_posts (Reg 0) [] a s is

message_posts : (m : Message) (i : Inst) (s : State) → PostsFew (message_action m i s) s
message_posts m i s = grind arith

other_posts : (b : Bool) (i : Inst) (s : State) → PostsFew (cond b (branching i s) (resulting i s (answer_in i s))) s
other_posts b i s = grind (arith, quiet_posts, assigning_posts)

name_posts : (op : Op) (i : Inst) (s : State) → PostsFew (action_by_name op i s) s
name_posts op i s = grind (arith, message_posts, assigning_posts, quiet_posts, other_posts)

moving_posts : (d : Direction) (size : Size) (signed : Bool) (i : Inst) (s : State) → PostsFew (moving d size signed i s) s
moving_posts d size signed i s = grind arith

action_posts : (i : Inst) (s : State) → PostsFew (action_of i s) s
unfolding action_of
action_posts i s = grind (arith, moving_posts, name_posts)

-- ---- one event

-- these interrupts ask for no more than those before them and what an event may post
abbrev PostsMost : ℕ → Interrupts → Interrupts → Type 0
PostsMost work i j = flag j.nmi + 1 ≤ flag i.nmi + work

received_most : (s : State) (e : Event) (u : Received) → received_in s e ≡ Ok u → PostsMost (event_work e) s.interrupts u.interrupts
unfolding received_in
received_most s e u is = grind arith

-- the events from one on
drop_work : (plan : List Timed) (place : ℕ) (t : Timed) → slice_get plan place ≡ Some t → plan_work (drop place plan) ≡ event_work t.event + plan_work (drop (suc place) plan)
drop_work [] place t is = absurd cc
drop_work (x ∷ plan) zero t is = let same : x ≡ t = cc in ap (λ (y : Timed). event_work y.event + plan_work plan) same
drop_work (x ∷ plan) (suc place) t is = drop_work plan place t is

-- an event that stands is the one at its place
pub stands_there : (has_come : When → Bool) (o : Option Timed) (e : Event) → event_where has_come o ≡ Some e → (t : Timed) × (o ≡ Some t) × (t.event ≡ e)
stands_there has_come o e is = grind arith

-- what may stand is the event at a place of a plan, or none
abbrev pub IsAtPlace : List Timed → ℕ → Option Event → Type 0
IsAtPlace plan place o = (e : Event) → o ≡ Some e → (t : Timed) × (slice_get plan place ≡ Some t) × (t.event ≡ e)

pub standing_at_place : (plan : List Timed) (place k : ℕ) → IsAtPlace plan place (standing plan place k)
standing_at_place plan place k e is = stands_there (has_come_at k) (slice_get plan place) e is

pub standing_by_place : (plan : List Timed) (place k t : ℕ) → IsAtPlace plan place (standing_by plan place k t)
standing_by_place plan place k t e is = stands_there (has_come_by k t) (slice_get plan place) e is

event_less : (plan : List Timed) (place : ℕ) (o : Option Event) (e : Event) → IsAtPlace plan place o → o ≡ Some e → plan_work (drop place plan) ≡ event_work e + plan_work (drop (place + 1) plan)
event_less plan place o e there is =
    let found = there e is in
    let more : suc place ≡ place + 1 = omega arith in
    cc (drop_work plan place found.0 found.1)

-- ---- one record

pending_small : (d : Due) → pending d ≤ 32
pending_small d = grind arith

-- the events that are left after a record
abbrev pub plan_after : List Timed → ℕ → Record → List Timed
plan_after plan place r = drop (place + length (reached_by r.kind r.before)) plan

-- a record stays within the length, and leaves less
pub record Leaves (limit : ℕ) (plan : List Timed) (place : ℕ) (due : Due) (s : State) (r : Record) : Type 0 where
  pub within : s.count ≤ limit → r.after.count ≤ limit
  pub less : s.count ≤ limit → left_in limit (plan_after plan place r) (due_by r.kind r.before) r.after < left_in limit (drop place plan) due s

-- so many instructions and so much asked for, and no event
quiet_leaves : (limit : ℕ) (plan : List Timed) (place : ℕ) (due : Due) (k : Kind) (s : State) → reached_by k s ≡ [] → (s.count ≤ limit → s.count + counts_of k ≤ limit)
    → asked (acted s (action_by_kind k s)) + pending (due_by k s) < 128 * counts_of k + asked s + pending due → Leaves limit plan place due s (record_of k s)
unfolding left_in
quiet_leaves limit plan place due k s none within less = grind (arith, counts_after)

instruction_leaves : (limit : ℕ) (plan : List Timed) (place : ℕ) (due : Due) (i : Inst) (s : State) → s.count ≢ limit → Leaves limit plan place due s (record_of (Instruction i) s)
instruction_leaves limit plan place due i s other =
    let small = pending_small (due_by (Instruction i) s) in
    let acts = acted_asked s (traced_action i s) in
    let posts = action_posts i s in
    let check = flag_small (traced_action i s).check in
    quiet_leaves limit plan place due (Instruction i) s refl (λ h. omega (arith, other)) (omega (arith, small, acts, posts, check))

reached_leaves : (limit : ℕ) (plan : List Timed) (place : ℕ) (due : Due) (o : Option Event) (e : Event) (u : Received) (s : State) → IsAtPlace plan place o → o ≡ Some e → received_in s e ≡ Ok u → Leaves limit plan place due s (record_of (Reached e u) s)
unfolding left_in
reached_leaves limit plan place due o e u s there stands does =
    let count = counts_after (Reached e u) s in
    let acts = acted_asked s (receiving u s) in
    let posts = received_most s e u does in
    let work = event_less plan place o e there stands in
    record { within = λ h. omega (arith, count); less = λ h. omega (arith, count, acts, posts, work) }

kind_leaves : (limit : ℕ) (plan : List Timed) (place : ℕ) (due : Due) (o : Option Event) (k : Kind) (s : State) → IsAtPlace plan place o → MayCome limit due o s k → Leaves limit plan place due s (record_of k s)
kind_leaves limit plan place due o (Instruction i) s there may = instruction_leaves limit plan place due i s may.1
kind_leaves limit plan place due o (Faulted inst fault) s there may =
    let other = may.1 in
    let acts = acted_asked s (action_by_kind (Faulted inst fault) s) in
    quiet_leaves limit plan place due (Faulted inst fault) s refl (λ h. omega (arith, other)) (omega (arith, acts))
kind_leaves limit plan place due o (Entered e) s there may =
    let is : pending due ≡ 32 = ap pending may.1 in
    let acts = acted_asked s (entering e s) in
    quiet_leaves limit plan place due (Entered e) s refl (λ h. omega arith) (omega (arith, is, acts))
kind_leaves limit plan place due o (Interrupted c e) s there may =
    let acts = acted_asked s (interrupting c e s) in
    let less = entry_less s c may.2 in
    let room = ap room_of (entry_pc s c e may.3) in
    quiet_leaves limit plan place due (Interrupted c e) s refl (λ h. omega arith) (omega (arith, acts, less, room))
kind_leaves limit plan place due o (Reached e u) s there may = reached_leaves limit plan place due o e u s there may.2 may.3

-- where the event at the place of a plan stands, or none
pub next_leaves : (limit : ℕ) (plan : List Timed) (place : ℕ) (due : Due) (o : Option Event) (s : State) (r : Record) → IsAtPlace plan place o → next_in limit due o s ≡ Does r → Leaves limit plan place due s r
next_leaves limit plan place due o s r there e =
    let comes = next_comes limit due o s r e in
    subst (Leaves limit plan place due s) (sym comes.0) (kind_leaves limit plan place due o r.kind s there comes.1)
