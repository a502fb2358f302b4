-- What comes next while something is open: it waits for all, or is an instruction.
use Rattle.std.proofs.Common.{◌≡◌, ◌≢◌, ℕ, Bool, true, false, ◌&&◌, Option, Some, None, Result, Ok, Err, refl, sym, ap, ◌∙◌, subst, inl, inr}
use Rattle.std.specs.Prelude.{IsTrue}
use Rattle.std.proofs.lemmas.Bool.{cases_Bool, both_ways}
use Rattle.i9_isa.specs.declared.inst.Inst.{Inst}
use Rattle.i9_model.specs.declared.event.Event.{Event}
use Rattle.i9_model.specs.declared.faults.Entry.{Entry}
use Rattle.i9_model.specs.declared.faults.FaultStop.{FaultStop}
use Rattle.i9_model.specs.declared.faults.FaultStop.TheVariants as stops
use Rattle.i9_model.specs.declared.interrupts.Chosen.{Chosen}
use Rattle.i9_model.specs.declared.need.Need.{Need}
use Rattle.i9_model.specs.declared.run.Due.{Due}
use Rattle.i9_model.specs.declared.run.Due.TheVariants as dues
use Rattle.i9_model.specs.Before.{Received, choice_in, interrupt_in, received_in}
use Rattle.i9_model.specs.HeldFrames.{Cache}
use Rattle.i9_model.specs.Needs.{is_request_name, is_barrier_name}
use Rattle.i9_model.specs.State.{State}
use Rattle.i9_model.specs.Run.{Kind, Instruction, Faulted, Next, entry_in, next_by_entry, next_by_event, next_by_interrupt, next_by_choice, next_in, next_by_received}
use Rattle.i9_schedule.specs.Plan.{Plan}
use Rattle.i9_course.specs.NeedOf.{need_of, need_ahead}
use Rattle.i9_course.proofs.Barriers.{kind_barrier}
use Rattle.i9_processor.specs.declared.effect.Effect.{Effect}
use Rattle.i9_plan.specs.Planned.{IsInRow}
use Rattle.i9_machine.specs.Contents.{Situation}
use Rattle.i9_course.specs.Course.{instruction_ahead}
use Rattle.i9_machine.specs.Opening.{IsFreeToIssue, NextWaits}
use Rattle.i9_machine.specs.Step.{event_for, next_where, next_for}
use Rattle.i9_machine.proofs.Stepping.{goes_by_event, goes_by_itself}

-- ---- what waits for all

-- whatever number of sets is asked for, and whatever is held
abbrev IsHeldBack : Next → Type 0
IsHeldBack o = (asked : Option ℕ) (c : Cache) → IsTrue (need_ahead asked c o).barrier

entry_held : (s : State) (p : Result Entry FaultStop) → IsHeldBack (next_by_entry s p)
unfolding need_of
entry_held s (Ok x) asked c = refl
entry_held s (Err (stops.Hazard a)) asked c = refl
entry_held s (Err (stops.Dead code a)) asked c = refl

reached_held : (s : State) (e : Event) (p : Result Received ℕ) → IsHeldBack (next_by_received s e p)
unfolding need_of
reached_held s e (Ok u) asked c = refl
reached_held s e (Err a) asked c = refl

interrupt_held : (s : State) (x : Chosen) (p : Result Entry ℕ) → IsHeldBack (next_by_interrupt s x p)
unfolding need_of
interrupt_held s x (Ok e) asked c = refl
interrupt_held s x (Err a) asked c = refl

choice_held : (s : State) (o : Option Event) (p : Result (Option Chosen) ℕ) → p ≢ Ok None
    → IsHeldBack (next_by_choice o s p)
choice_held s o (Ok (Some x)) other = interrupt_held s x (interrupt_in s x)
choice_held s o (Ok None) other = absurd (other refl)
choice_held s o (Err a) other = λ asked c. refl

-- by what is due, the length, the choice of an interrupt, and the event that stands there
due_held : (limit : ℕ) (due : Due) (o : Option Event) (s : State) → due ≢ dues.Nothing
    → IsHeldBack (next_in limit due o s)
due_held limit (dues.End f) o s other = λ asked c. refl
due_held limit (dues.Entry fault) o s other = entry_held s (entry_in s fault)
due_held limit dues.Nothing o s other = absurd (other refl)

pub due_waits : (at : Situation) (plan : Plan) → at.due ≢ dues.Nothing → NextWaits at plan
due_waits at plan other = inr (due_held at.length at.due (event_for at plan) at.state other)

held_by : (at : Situation) (plan : Plan) (o : Next) → next_for at plan ≡ o → IsHeldBack o → NextWaits at plan
held_by at plan o is held = inr (subst IsHeldBack (sym is) held)

pub choice_waits : (at : Situation) (plan : Plan)
    → next_for at plan ≡ next_by_choice (event_for at plan) at.state (choice_in at.state) → choice_in at.state ≢ Ok None
    → NextWaits at plan
choice_waits at plan is other =
    held_by at plan _ is (choice_held at.state (event_for at plan) (choice_in at.state) other)

pub event_waits : (at : Situation) (plan : Plan) (e : Event)
    → next_for at plan ≡ next_by_event (event_for at plan) at.state → event_for at plan ≡ Some e → NextWaits at plan
event_waits at plan e is stands =
    held_by at plan _ (is ∙ ap (λ (o : Option Event). next_by_event o at.state) stands)
    (reached_held at.state e (received_in at.state e))

-- where the instruction waits for all, what comes next does, whether an event stands there or not
pub instruction_waits : (at : Situation) (plan : Plan) → IsFreeToIssue at → IsHeldBack (instruction_ahead at.state)
    → NextWaits at plan
instruction_waits at plan free held = by_event (event_for at plan) refl
  where
    by_event : (o : Option Event) → event_for at plan ≡ o → NextWaits at plan
    by_event (Some e) is = event_waits at plan e (goes_by_event at (event_for at plan) free) is
    by_event None is = held_by at plan _ (ap (next_where at) is ∙ goes_by_itself at free) held

-- ---- what is no request

-- a kind of record that is none
abbrev IsNone : Kind → Type 0
IsNone (Instruction i) = ⊥
IsNone (Faulted inst fault) = ⊥
IsNone _ = Unit {0}

none_requests : (k : Kind) (n : ℕ) (c : Cache) (s : State) → IsNone k → (need_of n c s k).request ≡ false
unfolding need_of
none_requests (Instruction i) n c s h = absurd h
none_requests (Faulted inst fault) n c s h = absurd h
none_requests _ n c s h = refl

pub no_request_in : (k : Kind) (at : Situation) (need : Need) {e : Effect} → need ≡ need_of at.size at.cache at.state k
    → IsNone k → need.request ≡ true → IsInRow e
no_request_in k at need is none request =
    absurd (cc (sym (none_requests k at.size at.cache at.state none) ∙ ap (λ (n : Need). n.request) (sym is) ∙ request))

-- what is no barrier is none by its name, and no drained point is behind it
pub no_barrier_named : (i : Inst) (n : ℕ) (c : Cache) (s : State) → (need_of n c s (Instruction i)).barrier ≡ false
    → is_barrier_name i.op ≡ false
no_barrier_named i n c s none =
    elim (cases_Bool (is_barrier_name i.op)) [
      | inl barrier ↦ absurd
          (both_ways (need_of n c s (Instruction i)).barrier none (kind_barrier n c s (Instruction i) barrier))
      | inr other ↦ other
    ]

-- an instruction is one by its name alone
pub request_named : (i : Inst) (n : ℕ) (c : Cache) (s : State) → (need_of n c s (Instruction i)).request ≡ true
    → is_request_name i.op ≡ true
unfolding need_of
request_named i n c s h = by_name (is_request_name i.op) h
  where
    by_name : (b : Bool) → (b && true) ≡ true → b ≡ true
    by_name true h = refl
    by_name false h = absurd (cc h)
