-- A record leaves the registers and the condition code that its need does not write.
use Rattle.std.proofs.Common.{◌≡◌, ℕ, ◌<◌, false, refl, ◌∙◌}
use Rattle.std.specs.Int.{bit_at}
use Rattle.i9_model.specs.declared.faults.Entry.{Entry}
use Rattle.i9_model.specs.declared.interrupts.Chosen.{Chosen}
use Rattle.i9_model.specs.State.{State}
use Rattle.i9_model.specs.Step.{moved, acted, entering, faulting}
use Rattle.i9_model.specs.Before.{Received, interrupting, receiving}
use Rattle.i9_model.specs.HeldFrames.{Cache}
use Rattle.i9_model.specs.Run.{Kind, Instruction, Faulted, Entered, Interrupted, Reached, faulted_words, after_kind}
use Rattle.i9_model.specs.Late.{resource, resources}
use Rattle.i9_turns.proofs.Outside.{instruction_keeps, fault_keeps, entry_keeps}
use Rattle.i9_course.specs.NeedOf.{facts_of, need_of}

-- an interrupt's entry sets the same registers as a fault's
same_entry : (x : Chosen) (e : Entry) (s : State) (r : ℕ)
    → resource (acted s (interrupting x e s)) r ≡ resource (acted s (entering e s)) r
unfolding acted moved
same_entry x e s r = refl

-- an event sets none, as a fault does
same_event : (u : Received) (s : State) (r : ℕ)
    → resource (acted s (receiving u s)) r ≡ resource (acted s (faulting 0 s)) r
unfolding acted moved
same_event u s r = refl

pub kind_keeps : (n : ℕ) (c : Cache) (s : State) (k : Kind) (r : ℕ) → r < resources
    → bit_at (need_of n c s k).writes r ≡ 0 → resource (after_kind k s) r ≡ resource s r
unfolding need_of
kind_keeps n c s (Instruction i) r lt h = instruction_keeps (facts_of i s 0 false false) i s r lt h
kind_keeps n c s (Faulted inst fault) r lt h = fault_keeps (faulted_words inst) s r
kind_keeps n c s (Entered e) r lt h = entry_keeps 0 e s r lt h
kind_keeps n c s (Interrupted x e) r lt h = same_entry x e s r ∙ entry_keeps 0 e s r lt h
kind_keeps n c s (Reached e u) r lt h = same_event u s r ∙ fault_keeps 0 s r
