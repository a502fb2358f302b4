-- A run of the machine that does one instruction after the other never ends as imprecise, and an arithmetic fault that
-- comes in it is raised by an instruction, and is named by its address.
use Rattle.std.proofs.Common.{◌≡◌, ◌≢◌, ℕ, Bool, false, cond, Option, Some, Result, List, arith}
use Rattle.i9_isa.specs.declared.inst.Inst.{Inst}
use Rattle.i9_isa.specs.declared.inst.BadWord.{BadWord}
use Rattle.i9_model.specs.declared.faults.TheConstants.{ARITHMETIC}
use Rattle.i9_model.specs.declared.faults.Entry.{Entry}
use Rattle.i9_model.specs.declared.faults.FaultStop.{FaultStop}
use Rattle.i9_model.specs.declared.faults.FaultStop.TheVariants as stops
use Rattle.i9_model.specs.declared.interrupts.Chosen.{Chosen}
use Rattle.i9_model.specs.declared.event.Event.{Event}
use Rattle.i9_model.specs.declared.run.Due.{Due}
use Rattle.i9_model.specs.declared.run.Due.TheVariants as dues
use Rattle.i9_model.specs.State.{State}
use Rattle.i9_model.specs.Access.{fetch_hazard}
use Rattle.i9_model.specs.Before.{Received}
use Rattle.i9_model.specs.Standing.{Standing, Meets, Refused, by_later, by_raised, by_word, by_fetch, stands_at}
use Rattle.i9_model.specs.Run.{Given, Kind, Faulted, Record, Next, Does, Ends, due_after, next_by_standing, next_by_entry, next_by_event, next_by_interrupt, next_by_choice, next_in, event_after, state_after, next_with, IsRun, Finish, next_by_received}
use Rattle.i9_course.specs.PipelinedRun.{is_imprecise}

-- ---- a word that is refused raises none

abbrev IsOther : Standing → Type 0
IsOther (Refused number) = number.0 ≢ ARITHMETIC
IsOther _ = Unit {0}

later_other : (i : Inst) (s : State) (o : Option (ℕ × ℕ)) → IsOther (by_later i s o)
later_other i s o = grind arith

raised_other : (i : Inst) (s : State) (o : Option (ℕ × ℕ)) → IsOther (by_raised i s o)
raised_other i s o = grind (arith, later_other)

allowed_other : (b : Bool) (a : ℕ) (x : Standing) → IsOther x → IsOther (cond b (Meets a) x)
allowed_other b a x h = grind arith

word_other : (s : State) (r : Result Inst BadWord) → IsOther (by_word s r)
word_other s r = grind (arith, allowed_other, raised_other)

fetch_other : (s : State) (o : Option ℕ) → IsOther (by_fetch s o)
fetch_other s o = grind (arith, word_other)

stands_other : (s : State) → IsOther (stands_at s)
unfolding stands_at
stands_other s = fetch_other s (fetch_hazard s)

-- ---- what is due

abbrev IsPlainDue : Due → Type 0
IsPlainDue (dues.End e) = is_imprecise e ≡ false
IsPlainDue (dues.Entry fault) = Unit {0}
IsPlainDue dues.Nothing = Unit {0}

due_plain : (rs : List Record) → IsPlainDue (due_after rs)
due_plain rs = grind arith

-- ---- what comes next

-- an arithmetic fault is that of an instruction at the instruction address
abbrev pub IsNamed : State → Kind → Type 0
IsNamed s (Faulted inst f) = f.kind ≡ ARITHMETIC → (i : Inst) × (inst ≡ Some i) × (f.address ≡ s.ip)
IsNamed s _ = Unit {0}

-- and an end that comes here is not imprecise
abbrev IsPlain : State → Next → Type 0
IsPlain s (Does r) = IsNamed s r.kind
IsPlain s (Ends e) = is_imprecise e.end ≡ false

standing_plain : (s : State) (x : Standing) → IsOther x → IsPlain s (next_by_standing s x)
standing_plain s x other = grind arith

received_plain : (s : State) (x : Event) (p : Result Received ℕ) → IsPlain s (next_by_received s x p)
received_plain s x p = grind arith

event_plain : (o : Option Event) (s : State) → IsPlain s (next_by_event o s)
event_plain o s = grind (arith, received_plain, standing_plain, stands_other)

interrupt_plain : (s : State) (c : Chosen) (p : Result Entry ℕ) → IsPlain s (next_by_interrupt s c p)
interrupt_plain s c p = grind arith

choice_plain : (o : Option Event) (s : State) (p : Result (Option Chosen) ℕ) → IsPlain s (next_by_choice o s p)
choice_plain o s p = grind (arith, interrupt_plain, event_plain)

entry_plain : (s : State) (p : Result Entry FaultStop) → IsPlain s (next_by_entry s p)
entry_plain s p = grind arith

in_plain : (limit : ℕ) (due : Due) (o : Option Event) (s : State) → IsPlainDue due → IsPlain s (next_in limit due o s)
in_plain limit due o s plain = grind (arith, entry_plain, choice_plain)

pub next_named : (g : Given) (o : Option Event) (rs : List Record) (r : Record) → next_with g o rs ≡ Does r
    → IsNamed (state_after g rs) r.kind
next_named g o rs r does = grind (arith, in_plain, due_plain)

pub next_plain : (g : Given) (o : Option Event) (rs : List Record) (e : Finish) → next_with g o rs ≡ Ends e → is_imprecise e.end ≡ false
next_plain g o rs e ends = grind (arith, in_plain, due_plain)

pub run_plain : (g : Given) (rs : List Record) (e : Finish) → IsRun g rs e → is_imprecise e.end ≡ false
run_plain g rs e run = next_plain g (event_after g rs) rs e run.ends
