-- A record that comes next is that of something that may be done then.
use Rattle.std.proofs.Common.{◌≡◌, ◌≢◌, ℕ, Bool, true, false, cond, eqb, Option, Some, None, Result, Ok, Err, refl, arith}
use Rattle.std.proofs.lemmas.Bool.Decides.{nat_tests}
use Rattle.i9_model.specs.declared.faults.Fault.{Fault}
use Rattle.i9_model.specs.declared.faults.Entry.{Entry}
use Rattle.i9_model.specs.declared.faults.FaultStop.{FaultStop}
use Rattle.i9_model.specs.declared.faults.FaultStop.TheVariants as stops
use Rattle.i9_model.specs.declared.interrupts.Chosen.{Chosen}
use Rattle.i9_model.specs.declared.event.Event.{Event}
use Rattle.i9_model.specs.State.{State}
use Rattle.i9_model.specs.Access.{hazard_of}
use Rattle.i9_model.specs.Before.{choice_in, interrupt_in, received_in}
use Rattle.i9_model.specs.declared.run.End.TheVariants.{Limit}
use Rattle.i9_model.specs.Run.{Kind, Instruction, Faulted, Entered, Interrupted, Reached, Record, record_of, Does, Ends, next_by_entry, entry_in, next_by_event, next_by_interrupt, next_by_choice, next_in, finish}
use Rattle.i9_model.specs.declared.run.Due.{Due}
use Rattle.i9_past.proofs.Stands.{known}
use Rattle.i9_model.specs.declared.run.Due.TheVariants as dues

-- An instruction comes where nothing is due and the length is not reached, and its access meets no hazard; the entry
-- of a fault where it is due; that of an interrupt where it is chosen, and an event where it stands, by what it does.
abbrev pub MayCome : ℕ → Due → Option Event → State → Kind → Type 0
MayCome limit due stands s (Instruction i) = (due ≡ dues.Nothing) × (s.count ≢ limit) × (hazard_of i s ≡ None)
MayCome limit due stands s (Faulted inst fault) = (due ≡ dues.Nothing) × (s.count ≢ limit)
MayCome limit due stands s (Entered e) = (fault : Fault) × (due ≡ dues.Entry fault) × (entry_in s fault ≡ Ok e)
MayCome limit due stands s (Interrupted c e) = (due ≡ dues.Nothing) × (s.count ≢ limit) × (choice_in s ≡ Ok (Some c)) × (interrupt_in s c ≡ Ok e)
MayCome limit due stands s (Reached e u) = (due ≡ dues.Nothing) × (s.count ≢ limit) × (stands ≡ Some e) × (received_in s e ≡ Ok u)

abbrev pub Comes : ℕ → Due → Option Event → State → Record → Type 0
Comes limit due stands s r = (r ≡ record_of r.kind s) × MayCome limit due stands s r.kind

event_comes : (limit : ℕ) (o : Option Event) (s : State) (r : Record) → s.count ≢ limit → next_by_event o s ≡ Does r → Comes limit dues.Nothing o s r
event_comes limit o s r other e = grind (arith, known)

interrupt_comes : (limit : ℕ) (o : Option Event) (s : State) (c : Chosen) (p : Result Entry ℕ) (r : Record) → s.count ≢ limit → choice_in s ≡ Ok (Some c) → interrupt_in s c ≡ p → next_by_interrupt s c p ≡ Does r → Comes limit dues.Nothing o s r
interrupt_comes limit o s c p r other chosen is e = grind arith

choice_comes : (limit : ℕ) (o : Option Event) (s : State) (p : Result (Option Chosen) ℕ) (r : Record) → s.count ≢ limit → choice_in s ≡ p → next_by_choice o s p ≡ Does r → Comes limit dues.Nothing o s r
choice_comes limit o s (Ok (Some c)) r other is e = interrupt_comes limit o s c (interrupt_in s c) r other is refl e
choice_comes limit o s (Ok None) r other is e = event_comes limit o s r other e
choice_comes limit o s (Err a) r other is e = absurd cc

length_comes : (limit : ℕ) (b : Bool) (o : Option Event) (s : State) (r : Record) → eqb s.count limit ≡ b → cond b (Ends (finish Limit)) (next_by_choice o s (choice_in s)) ≡ Does r → Comes limit dues.Nothing o s r
length_comes limit true o s r t e = absurd cc
length_comes limit false o s r t e =
    let other : s.count ≢ limit = λ h. grind (arith, nat_tests, t, h) in
    choice_comes limit o s (choice_in s) r other refl e

entry_comes : (limit : ℕ) (o : Option Event) (s : State) (fault : Fault) (p : Result Entry FaultStop) (r : Record) → entry_in s fault ≡ p → next_by_entry s p ≡ Does r → Comes limit (dues.Entry fault) o s r
entry_comes limit o s fault p r is e = grind arith

pub next_comes : (limit : ℕ) (due : Due) (stands : Option Event) (s : State) (r : Record) → next_in limit due stands s ≡ Does r → Comes limit due stands s r
next_comes limit (dues.End f) stands s r e = absurd cc
next_comes limit (dues.Entry fault) stands s r e = entry_comes limit stands s fault (entry_in s fault) r refl e
next_comes limit dues.Nothing stands s r e = length_comes limit (eqb s.count limit) stands s r refl e
