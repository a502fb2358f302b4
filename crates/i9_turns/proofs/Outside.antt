-- An action leaves the resources that its need does not write.
use Rattle.std.proofs.Common.{◌≡◌, ℕ, ◌<◌, ◌+◌, ◌-◌, ◌%◌, Bool, true, false, ◌||◌, ◌&&◌, List, ◌∷◌, Option, None, unwrap_or, refl, sym, ap, ◌∙◌, arith}
use Rattle.std.specs.Prelude.{◌==◌, replicate}
use Rattle.std.specs.Int.{bit_at, from_bool}
use Rattle.std.proofs.lemmas.Bool.{both_ways}
use Rattle.i9_isa.specs.declared.inst.Inst.{Inst}
use Rattle.i9_isa.specs.declared.resources.TheConstants.{CONDITION_CODE}
use Rattle.i9_isa.specs.Resources.{is_in_frame, changes_frame, writes_code, is_written}
use Rattle.i9_model.specs.declared.faults.Entry.{Entry}
use Rattle.i9_model.specs.declared.need.Facts.{Facts}
use Rattle.i9_model.specs.Writes.{last_put, wrapped}
use Rattle.i9_model.specs.declared.layout.TheConstants.{FRAME_SIZE}
use Rattle.i9_model.specs.declared.setup.Setup.{Setup}
use Rattle.i9_model.specs.State.{State, started, start_sets, first_frame}
use Rattle.i9_model.specs.Tables.{group_words}
use Rattle.i9_model.specs.Controls.{Control, KeepsControls, Restarts, LoadsGroup, controlled, with_group}
use Rattle.i9_model.specs.Traced.{traced_action}
use Rattle.i9_model.proofs.ControlLaws.{flagged-others}
use Rattle.i9_model.specs.Step.{Action, action_of, entering, faulting, moved, acted}
use Rattle.i9_model.specs.Late.{resource, resources}
use Rattle.i9_model.specs.Needs.{set_of, inst_need, entry_need}
use Rattle.i9_model.proofs.Stored.{written-last}
use Rattle.i9_model.proofs.SetLaws.{set_bits}
use Rattle.i9_turns.proofs.MaskLaws.{IsOutside, sets_beside}
use Rattle.i9_model.proofs.LastPuts.{frame_beside, push_beside}
use Rattle.i9_turns.proofs.CodeLaws.{code_beside}

-- ---- what is not in the need's set

pub no_bit : (b : Bool) → from_bool b ≡ 0 → b ≡ false
no_bit b h = grind arith

pub not_in : (p : ℕ → Bool) (r : ℕ) → r < resources → bit_at (set_of p) r ≡ 0 → p r ≡ false
not_in p r lt h = no_bit (p r) (sym (set_bits 33 r p lt) ∙ h)

-- a resource that an instruction does not write
pub record IsKept (i : Inst) (r : ℕ) : Type 0 where
  pub outside : IsOutside i r
  pub code : (writes_code i.op && (r == CONDITION_CODE)) ≡ false

pub all_false : (a b c d e : Bool) → (a || b || c || d || e) ≡ false → (a ≡ false) × (b ≡ false) × (c ≡ false) × (d ≡ false) × (e ≡ false)
all_false a b c d e h = grind arith

pub is_kept : (i : Inst) (r : ℕ) → is_written i r ≡ false → IsKept i r
is_kept i r h = grind (arith, all_false)

-- ---- the state after an action

-- control starts the processor anew
abbrev pub IsRestart : Control → Type 0
IsRestart (Restarts first prcb) = Unit {0}
IsRestart _ = ⊥

group_keeps : (s : State) (group : ℕ) (ws : List ℕ) (r : ℕ) → resource (with_group s group ws) r ≡ resource s r
group_keeps s group ws r = grind arith

-- which of a register and the condition code a resource is
by_resource : (s t : State) (r : ℕ) → ((r == CONDITION_CODE) ≡ true → s.ac % 8 ≡ t.ac % 8) → ((r == CONDITION_CODE) ≡ false → s.regs r ≡ t.regs r) → resource s r ≡ resource t r
by_resource s t r code register = grind arith

start_beside : (u : Setup) (r : ℕ) → is_in_frame r ≡ false → last_put (start_sets u) r ≡ None
start_beside u r h = frame_beside (0 ∷ wrapped (first_frame u + FRAME_SIZE) ∷ replicate 14 0) (first_frame u) r refl h

controls_keep : (s : State) (c : Control) (r : ℕ) → (IsRestart c → ((r == CONDITION_CODE) ≡ false) × (is_in_frame r ≡ false)) → resource (controlled s c) r ≡ resource s r
unfolding started
controls_keep s KeepsControls r h = refl
controls_keep s (LoadsGroup group) r h = group_keeps s group (group_words s.memory s.tables.control_table group) r
controls_keep s (Restarts first prcb) r h = grind (arith, by_resource, both_ways, written-last, start_beside)

moved_keeps : (s : State) (a : Action) (r : ℕ) → last_put a.sets r ≡ None → ((r == CONDITION_CODE) ≡ true → a.ac % 8 ≡ s.ac % 8) → resource (moved s a) r ≡ resource s r
unfolding moved
moved_keeps s a r none code = by_resource (moved s a) s r code (λ register. written-last s.regs a.sets r ∙ ap (λ (o : Option ℕ). unwrap_or o (s.regs r)) none)

acted_keeps : (s : State) (a : Action) (r : ℕ) → last_put a.sets r ≡ None → ((r == CONDITION_CODE) ≡ true → a.ac % 8 ≡ s.ac % 8)
    → (IsRestart a.control → ((r == CONDITION_CODE) ≡ false) × (is_in_frame r ≡ false)) → resource (acted s a) r ≡ resource s r
unfolding acted
acted_keeps s a r none code restart = grind (arith, flagged-others, controls_keep, moved_keeps)

-- ---- an instruction

pub restarts : (i : Inst) (s : State) → IsRestart (action_of i s).control → (changes_frame i.op ≡ true) × (writes_code i.op ≡ true)
unfolding action_of
restarts i s h = grind arith

unset : (b c : Bool) → b ≡ true → (b && c) ≡ false → c ≡ false
unset b c e h = grind arith

pub set_with : (b c : Bool) → c ≡ true → (b && c) ≡ false → b ≡ false
set_with b c e h = grind arith

pub instruction_keeps : (f : Facts) (i : Inst) (s : State) (r : ℕ) → r < resources → bit_at (inst_need i f).writes r ≡ 0 → resource (acted s (traced_action i s)) r ≡ resource s r
instruction_keeps f i s r lt h =
    let k = is_kept i r (not_in (is_written i) r lt h) in
    acted_keeps s (traced_action i s) r (sets_beside i s r k.outside)
    (λ code. code_beside i s (set_with (writes_code i.op) (r == CONDITION_CODE) code k.code))
    (λ restart. let w = restarts i s restart in (unset (writes_code i.op) (r == CONDITION_CODE) w.1 k.code, unset (changes_frame i.op) (is_in_frame r) w.0 k.outside.frame))

-- ---- what faults, and an entry

pub fault_keeps : (words : ℕ) (s : State) (r : ℕ) → resource (acted s (faulting words s)) r ≡ resource s r
unfolding last_put
fault_keeps words s r = acted_keeps s (faulting words s) r refl (λ code. refl) (λ restart. absurd restart)

pub entry_keeps : (frames : ℕ) (e : Entry) (s : State) (r : ℕ) → r < resources → bit_at (entry_need frames).writes r ≡ 0 → resource (acted s (entering e s)) r ≡ resource s r
entry_keeps frames e s r lt h = acted_keeps s (entering e s) r (push_beside e.push r (not_in is_in_frame r lt h)) (λ code. refl) (λ restart. absurd restart)
