-- A call, or the entry of a fault or of an interrupt, saves the locals with its return address, and leaves its type in pfp.
use Rattle.std.proofs.Common.{◌≡◌, ℕ, ◌+◌, ◌<◌, Bool, true, false, List, ◌∷◌, Option, None, Ok, refl, sym, ap, ◌∙◌, subst, arith}
use Rattle.std.specs.Prelude.{IsTrue, replicate}
use Rattle.i9_isa.specs.declared.op.Op.{Op}
use Rattle.i9_isa.specs.declared.op.Op.TheVariants.{Call, Callx, Calls}
use Rattle.i9_isa.specs.declared.inst.Inst.{Inst}
use Rattle.i9_isa.specs.Transfers.{transfer_of}
use Rattle.i9_model.specs.declared.layout.TheConstants.{PFP, FP, SP, LOCAL_RETURN, FAULT_RETURN, INTERRUPT_RETURN}
use Rattle.i9_model.specs.declared.push.Push.{Push}
use Rattle.i9_model.specs.declared.calls.Sys.{Sys}
use Rattle.i9_model.specs.declared.faults.Fault.{Fault}
use Rattle.i9_model.specs.declared.faults.Entry.{Entry}
use Rattle.i9_model.specs.Writes.{written}
use Rattle.i9_model.specs.State.{State}
use Rattle.i9_model.specs.Frames.{rounded_down, pushed}
use Rattle.i9_model.specs.Calls.{call_type}
use Rattle.i9_model.specs.Controls.{Control, KeepsControls, controlled}
use Rattle.i9_model.specs.Step.{Saves, Action, saved_locals, push_sets, system_call, following, entering, action_by_name, action_by, action_of, moved, acted, call_action}
use Rattle.i9_model.specs.declared.run.Due.{Due}
use Rattle.i9_model.specs.declared.interrupts.Chosen.{Chosen}
use Rattle.i9_model.specs.declared.event.Event.{Event}
use Rattle.i9_model.specs.Before.{interrupt_in, interrupting}
use Rattle.i9_model.specs.Run.{Kind, Instruction, Faulted, Entered, Interrupted, Reached, action_by_kind, entry_in}
use Rattle.i9_model.proofs.ControlLaws.{flagged-others}
use Rattle.i9_past.proofs.Comes.{MayCome}
use Rattle.i9_laws.specs.Undone.{is_call_name, is_call, return_address}
use Rattle.i9_laws.proofs.Entered.{call_by, entry_by, entry_for, interrupt_made}
use Rattle.i9_laws.proofs.FrameRegisters.{frame_local}
use Rattle.i9_model.specs.Operands.{target, address}

-- the type of the return from what is called in a state
abbrev pub type_by_name : Op → Inst → State → ℕ
type_by_name Calls i s = call_type s.pc (system_call i s).switched
type_by_name _ i s = LOCAL_RETURN

abbrev pub type_of : Kind → State → ℕ
type_of (Instruction i) s = type_by_name i.op i s
type_of (Faulted inst fault) s = LOCAL_RETURN
type_of (Entered e) s = FAULT_RETURN
type_of (Interrupted c e) s = INTERRUPT_RETURN
type_of (Reached e u) s = LOCAL_RETURN

-- an action saves the locals with a return address, and goes on in a frame whose pfp has a return type
pub record Pushes (s : State) (a : Action) (back kind : ℕ) : Type 0 where
  pub sets : (p : Push) × (a.sets ≡ push_sets p) × (p.pfp ≡ rounded_down (s.regs FP) + kind)
  pub move : a.move ≡ Saves (rounded_down (s.regs FP)) (saved_locals s back)
  pub control : a.control ≡ KeepsControls
  pub small : kind < 8

type_small : (switched : Bool) (pc : ℕ) → call_type pc switched < 8
type_small true pc = omega arith
type_small false pc = omega arith

-- a call to an address
call_pushes : (s : State) (i : Inst) (to : ℕ) → Pushes s (call_action i s to) (following i s) LOCAL_RETURN
call_pushes s i to =
    record { sets = (pushed (s.regs FP) (s.regs SP) 0 LOCAL_RETURN, refl, refl); move = refl; control = refl; small = omega arith }

name_pushes : (op : Op) (i : Inst) (s : State) → IsTrue (is_call_name op)
    → Pushes s (action_by_name op i s) (following i s) (type_by_name op i s)
name_pushes Call i s h = call_pushes s i (target i s)
name_pushes Callx i s h = call_pushes s i (address s i.ea)
name_pushes Calls i s h = record {
  sets = ((system_call i s).push, refl, both.1);
  move = ap (λ (a : ℕ). Saves a (saved_locals s (following i s))) both.0;
  control = refl;
  small = type_small (system_call i s).switched s.pc;
}
  where
    IsNamed : Sys → Type 0
    IsNamed x = (x.push.save ≡ rounded_down (s.regs FP)) × (x.push.pfp ≡ rounded_down (s.regs FP) + call_type s.pc x.switched)

    both : IsNamed (system_call i s)
    both = call_by IsNamed i s (record { switched = λ x y. (refl, refl); here = λ x. (refl, refl) })
name_pushes _ i s h = absurd cc

no_transfer : (op : Op) → IsTrue (is_call_name op) → transfer_of op ≡ None
no_transfer Call h = refl
no_transfer Callx h = refl
no_transfer Calls h = refl
no_transfer _ h = absurd cc

instruction_pushes : (i : Inst) (s : State) → IsTrue (is_call_name i.op)
    → Pushes s (action_of i s) (following i s) (type_by_name i.op i s)
unfolding action_of
instruction_pushes i s h =
    subst (λ o. Pushes s (action_by o i s) (following i s) (type_by_name i.op i s)) (sym (no_transfer i.op h))
    (name_pushes i.op i s h)

entering_pushes : (s : State) (fault : Fault) (e : Entry) → entry_in s fault ≡ Ok e → Pushes s (entering e s) s.ip FAULT_RETURN
entering_pushes s fault e ok =
    let fp = rounded_down (s.regs FP) in
    let made = entry_by (λ (x : Sys). (x.push.save ≡ fp) × (x.push.pfp ≡ fp + FAULT_RETURN)) s fault e
    (record { switched = λ x y. (refl, refl); here = λ x. (refl, refl) }) ok in
    subst (λ (x : Entry). Pushes s (entering x s) s.ip FAULT_RETURN) made.2 (record {
      sets = (made.0.push, refl, made.1.1);
      move = ap (λ (a : ℕ). Saves a (saved_locals s s.ip)) made.1.0;
      control = refl;
      small = omega arith;
    })

interrupting_pushes : (s : State) (c : Chosen) (e : Entry) → interrupt_in s c ≡ Ok e → Pushes s (interrupting c e s) s.ip INTERRUPT_RETURN
interrupting_pushes s c e ok =
    subst (λ (x : Entry). Pushes s (interrupting c x s) s.ip INTERRUPT_RETURN) (interrupt_made s c e ok).0
    (record { sets = ((entry_for s c).push, refl, refl); move = refl; control = refl; small = omega arith })

pub kind_pushes : (limit : ℕ) (due : Due) (stands : Option Event) (k : Kind) (s : State) → MayCome limit due stands s k
    → IsTrue (is_call k) → Pushes s (action_by_kind k s) (return_address k s) (type_of k s)
kind_pushes limit due stands (Instruction i) s may h =
    let p = instruction_pushes i s h in record { sets = p.sets; move = p.move; control = p.control; small = p.small }
kind_pushes limit due stands (Entered e) s may h = entering_pushes s may.0 e may.2
kind_pushes limit due stands (Interrupted c e) s may h = interrupting_pushes s c e may.3
kind_pushes limit due stands _ s may h = absurd cc

pfp_written : (f : ℕ → ℕ) (p : Push) → written f (push_sets p) PFP ≡ p.pfp
pfp_written f p = frame_local f (p.pfp ∷ p.sp ∷ replicate 14 0) p.frame PFP refl (omega arith)

-- pfp after it
pub pushed_pfp : (s : State) (a : Action) (back kind : ℕ) → Pushes s a back kind → (acted s a).regs PFP ≡ rounded_down (s.regs FP) + kind
unfolding acted moved
pushed_pfp s a back kind p =
    ap (λ (x : State). x.regs PFP) (flagged-others a.trace (controlled (moved s a) a.control))
    ∙ ap (λ (c : Control). (controlled (moved s a) c).regs PFP) p.control
    ∙ ap (λ (ps : List (ℕ × ℕ)). written s.regs ps PFP) p.sets.1
    ∙ pfp_written s.regs p.sets.0
    ∙ p.sets.2
