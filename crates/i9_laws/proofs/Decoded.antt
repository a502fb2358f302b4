-- An instruction that is done is decoded from the words at the instruction address, and its literals are below 32.
use Rattle.std.proofs.Common.{◌≡◌, ℕ, ◌<◌, Bool, true, false, cond, eqb, Option, Some, None, Result, Ok, Err, refl, subst, option_and_then, arith}
use Rattle.i9_isa.specs.declared.inst.Operand.{Operand}
use Rattle.i9_isa.specs.declared.inst.Operand.TheVariants.{Reg, Lit, Sfr}
use Rattle.i9_isa.specs.declared.inst.Inst.{Inst}
use Rattle.i9_isa.specs.declared.inst.BadWord.{BadWord}
use Rattle.i9_isa.specs.declared.format.Format.{Format}
use Rattle.i9_isa.specs.declared.format.Use.{Use}
use Rattle.i9_isa.specs.declared.format.Use.TheVariants.{Unused, Source, Left, Right}
use Rattle.i9_isa.specs.Operands.{takes}
use Rattle.i9_isa.specs.Table.{row_of}
use Rattle.i9_isa.specs.Words.{bit, field, operand_by, if_taken, operand_in, src1_in, src2_in, src_dst_in, decoded}
use Rattle.i9_isa.proofs.Decoding.{decoded_encodes}
use Rattle.i9_model.specs.declared.faults.Entry.{Entry}
use Rattle.i9_model.specs.declared.faults.FaultStop.{FaultStop}
use Rattle.i9_model.specs.declared.faults.FaultStop.TheVariants as stops
use Rattle.i9_model.specs.declared.interrupts.Chosen.{Chosen}
use Rattle.i9_model.specs.declared.event.Event.{Event}
use Rattle.i9_model.specs.Before.{Received, choice_in, interrupt_in, received_in}
use Rattle.i9_model.specs.State.{State}
use Rattle.i9_model.specs.Step.{first_word, next_word}
use Rattle.i9_model.specs.Stale.{misuses}
use Rattle.i9_model.specs.Access.{hazard_of, fetch_hazard}
use Rattle.i9_model.specs.Standing.{Standing, Meets, Runs, raised_in, later_fault, by_access, by_later, by_raised, by_word, by_fetch, stands_at}
use Rattle.i9_model.specs.declared.run.Due.{Due}
use Rattle.i9_model.specs.declared.run.Due.TheVariants as dues
use Rattle.i9_model.specs.declared.run.End.TheVariants.{Limit}
use Rattle.i9_model.specs.Run.{Kind, Instruction, Faulted, Record, Next, Does, Ends, next_by_standing, next_by_entry, entry_in, next_by_event, next_by_interrupt, next_by_choice, next_in, finish, next_by_received}

-- ---- what is done is decoded

-- the words at the instruction address are this instruction
abbrev IsDecoded : State → Inst → Type 0
IsDecoded s i = decoded (first_word s) (next_word s) ≡ Ok i

abbrev Stands : State → Standing → Type 0
Stands s (Runs i) = IsDecoded s i
Stands s _ = Unit {0}

access_stands : (s : State) (i : Inst) (h : Option ℕ) → IsDecoded s i → Stands s (by_access i h)
access_stands s i (Some a) d = tt
access_stands s i None d = d

later_stands : (s : State) (i : Inst) (o : Option (ℕ × ℕ)) → IsDecoded s i → Stands s (by_later i s o)
later_stands s i (Some number) d = tt
later_stands s i None d = access_stands s i (hazard_of i s) d

raised_stands : (s : State) (i : Inst) (o : Option (ℕ × ℕ)) → IsDecoded s i → Stands s (by_raised i s o)
raised_stands s i (Some number) d = tt
raised_stands s i None d = later_stands s i (later_fault i s) d

allowed_stands : (b : Bool) (s : State) (x : Standing) → Stands s x → Stands s (cond b (Meets s.ip) x)
allowed_stands true s x d = tt
allowed_stands false s x d = d

word_stands : (s : State) (r : Result Inst BadWord) → decoded (first_word s) (next_word s) ≡ r → Stands s (by_word s r)
word_stands s (Err e) d = tt
word_stands s (Ok i) d = allowed_stands (misuses i s) s (by_raised i s (raised_in i s)) (raised_stands s i (raised_in i s) d)

fetch_stands : (s : State) (h : Option ℕ) → Stands s (by_fetch s h)
fetch_stands s (Some a) = tt
fetch_stands s None = word_stands s (decoded (first_word s) (next_word s)) refl

decoded_stands : (s : State) → Stands s (stands_at s)
unfolding stands_at
decoded_stands s = fetch_stands s (fetch_hazard s)

-- ---- what comes next

-- an instruction is decoded where it stands, and it or its fault comes where no event stands
abbrev pub IsTurn : Option Event → State → Kind → Type 0
IsTurn stands s (Instruction i) = (stands ≡ None) × IsDecoded s i
IsTurn stands s (Faulted inst fault) = stands ≡ None
IsTurn stands s _ = Unit {0}

abbrev TakesTurn : Option Event → State → Next → Type 0
TakesTurn stands s (Does r) = IsTurn stands s r.kind
TakesTurn stands s (Ends f) = Unit {0}

standing_turn : (s : State) (x : Standing) → Stands s x → TakesTurn None s (next_by_standing s x)
standing_turn s (Meets a) d = tt
standing_turn s (Runs i) d = (refl, d)
standing_turn s _ d = refl

received_turn : (x : Event) (s : State) (o : Result Received ℕ) → TakesTurn (Some x) s (next_by_received s x o)
received_turn x s (Ok u) = tt
received_turn x s (Err a) = tt

event_turn : (stands : Option Event) (s : State) → TakesTurn stands s (next_by_event stands s)
event_turn (Some x) s = received_turn x s (received_in s x)
event_turn None s = standing_turn s (stands_at s) (decoded_stands s)

interrupt_turn : (stands : Option Event) (s : State) (c : Chosen) (o : Result Entry ℕ) → TakesTurn stands s (next_by_interrupt s c o)
interrupt_turn stands s c (Ok x) = tt
interrupt_turn stands s c (Err a) = tt

choice_turn : (stands : Option Event) (s : State) (o : Result (Option Chosen) ℕ) → TakesTurn stands s (next_by_choice stands s o)
choice_turn stands s (Ok (Some c)) = interrupt_turn stands s c (interrupt_in s c)
choice_turn stands s (Ok None) = event_turn stands s
choice_turn stands s (Err a) = tt

entry_turn : (stands : Option Event) (s : State) (o : Result Entry FaultStop) → TakesTurn stands s (next_by_entry s o)
entry_turn stands s (Err (stops.Hazard a)) = tt
entry_turn stands s _ = tt

in_turn : (limit : ℕ) (due : Due) (stands : Option Event) (s : State) → TakesTurn stands s (next_in limit due stands s)
in_turn limit (dues.End f) stands s = tt
in_turn limit (dues.Entry fault) stands s = entry_turn stands s (entry_in s fault)
in_turn limit dues.Nothing stands s = by_length (eqb s.count limit)
  where
    by_length : (b : Bool) → TakesTurn stands s (cond b (Ends (finish Limit)) (next_by_choice stands s (choice_in s)))
    by_length true = tt
    by_length false = choice_turn stands s (choice_in s)

pub next_turn : (limit : ℕ) (due : Due) (stands : Option Event) (s : State) (r : Record) → next_in limit due stands s ≡ Does r
    → IsTurn stands s r.kind
next_turn limit due stands s r e = subst (TakesTurn stands s) e (in_turn limit due stands s)

-- ---- its literals

abbrev pub IsSmall : Operand → Type 0
IsSmall (Reg r) = Unit {0}
IsSmall (Lit n) = n < 32
IsSmall (Sfr k) = Unit {0}

abbrev AreSmall : Option Operand → Type 0
AreSmall None = Unit {0}
AreSmall (Some o) = IsSmall o

either_small : (b : Bool) (o p : Operand) → IsSmall o → IsSmall p → IsSmall (cond b o p)
either_small true o p h k = h
either_small false o p h k = k

use_small : (u : Use) (m s : Bool) (f : ℕ) → f < 32 → AreSmall (operand_by u m s f)
use_small (Source n) true true f h = tt
use_small (Source n) true false f h = h
use_small (Source n) false true f h = tt
use_small (Source n) false false f h = tt
use_small Left m s f h = either_small m (Lit f) (Reg f) h tt
use_small Right m s f h = either_small s (Sfr f) (Reg f) tt tt
use_small _ m s f h = either_small m (Sfr f) (Reg f) tt tt

taken_small : (u : Use) (o : Option Operand) → AreSmall o → AreSmall (option_and_then (if_taken u) o)
taken_small u None h = tt
taken_small u (Some o) h = by_use (takes u o)
  where
    by_use : (b : Bool) → AreSmall (cond b (Some o) None)
    by_use true = h
    by_use false = tt

operand_small : (u : Use) (m s : Bool) (f : ℕ) → f < 32 → AreSmall (operand_in u m s f)
operand_small Unused m s f h = tt
operand_small u m s f h = taken_small u (operand_by u m s f) (use_small u m s f h)

field_small : (w low : ℕ) → field w low 5 < 32
field_small w low = omega arith

src1_small : (f : Format) (u : Use) (w : ℕ) → AreSmall (src1_in f u w)
src1_small Format.Reg u w = operand_small u (bit w 11) (bit w 5) (field w 0 5) (field_small w 0)
src1_small Format.Cobr u w = operand_small u (bit w 13) false (field w 19 5) (field_small w 19)
src1_small _ u w = tt

src2_small : (f : Format) (u : Use) (w : ℕ) → AreSmall (src2_in f u w)
src2_small Format.Reg u w = operand_small u (bit w 12) (bit w 6) (field w 14 5) (field_small w 14)
src2_small Format.Cobr u w = operand_small u false (bit w 0) (field w 14 5) (field_small w 14)
src2_small _ u w = tt

src_dst_small : (f : Format) (u : Use) (w : ℕ) → AreSmall (src_dst_in f u w)
src_dst_small Format.Reg u w = operand_small u (bit w 13) false (field w 19 5) (field_small w 19)
src_dst_small Format.Mem u w = operand_small u false false (field w 19 5) (field_small w 19)
src_dst_small _ u w = tt

-- the literals of an instruction
pub record HasSmall (i : Inst) : Type 0 where
  pub a : IsSmall i.a
  pub b : IsSmall i.b
  pub c : IsSmall i.c

pub decoded_small : (w w1 : ℕ) (i : Inst) → decoded w w1 ≡ Ok i → HasSmall i
decoded_small w w1 i d =
    let e = decoded_encodes w w1 i d in
    let row = row_of i.op in
    record {
      a = subst AreSmall e.a (src1_small row.format row.a w);
      b = subst AreSmall e.b (src2_small row.format row.b w);
      c = subst AreSmall e.c (src_dst_small row.format row.c w);
    }
