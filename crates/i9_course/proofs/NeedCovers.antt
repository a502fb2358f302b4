-- The writes of a need cover what is changed.
use Rattle.std.proofs.Common.{◌≡◌, ℕ, ◌<◌, ◌%◌, Bool, true, false, ◌||◌, List, Some, None, refl, ap, ◌∙◌, subst, arith}
use Rattle.std.specs.Prelude.{◌==◌, IsTrue}
use Rattle.std.specs.Int.{from_bool, IsBitSet}
use Rattle.std.proofs.lemmas.Bool.Decides.{nat_tests}
use Rattle.i9_isa.specs.declared.inst.Inst.{Inst}
use Rattle.i9_isa.specs.declared.resources.TheConstants.{CONDITION_CODE}
use Rattle.i9_isa.specs.Resources.{is_in_frame, changes_frame, writes_code, is_written}
use Rattle.i9_model.specs.declared.need.Facts.{Facts}
use Rattle.i9_model.specs.declared.push.Push.{Push}
use Rattle.i9_model.specs.Writes.{last_put}
use Rattle.i9_model.specs.State.{State}
use Rattle.i9_model.specs.HeldFrames.{Cache}
use Rattle.i9_model.specs.Traced.{traced_action}
use Rattle.i9_model.specs.Controls.{KeepsControls}
use Rattle.i9_model.specs.Step.{Action, push_sets, action_of}
use Rattle.i9_model.specs.Run.{Kind, Instruction, Faulted, Entered, Interrupted, Reached, action_by_kind}
use Rattle.i9_model.specs.Late.{resources}
use Rattle.i9_model.specs.Needs.{set_of, inst_need, entry_need}
use Rattle.i9_model.proofs.SetLaws.{set_bits, one-set}
use Rattle.i9_turns.proofs.MaskLaws.{sets_beside}
use Rattle.i9_model.proofs.LastPuts.{push_beside}
use Rattle.i9_turns.proofs.CodeLaws.{code_beside}
use Rattle.i9_turns.proofs.Outside.{not_in, is_kept, IsRestart, restarts, set_with}
use Rattle.i9_regs.specs.Covered.{StartsAnew, IsCovered}
use Rattle.i9_course.specs.NeedOf.{facts_of, need_of}

-- ---- what is in the set of a need

is_in : (p : ℕ → Bool) (r : ℕ) → r < resources → p r ≡ true → IsBitSet (set_of p) r
is_in p r lt h = one-set (set_of p) r (set_bits 33 r p lt ∙ ap from_bool h)

-- ---- what starts the processor anew

-- it writes the frame and the condition code
start_written : (i : Inst) (r : ℕ) → changes_frame i.op ≡ true → writes_code i.op ≡ true
    → IsTrue (is_in_frame r || r == CONDITION_CODE) → is_written i r ≡ true
start_written i r frame code h = grind (arith, nat_tests, frame, code, h)

starts : (i : Inst) (s : State) → StartsAnew (action_of i s).control
    → (changes_frame i.op ≡ true) × (writes_code i.op ≡ true)
starts i s h = grind (arith, restarts, IsRestart)

-- ---- by the kind

instruction_covers : (f : Facts) (i : Inst) (s : State) → IsCovered (inst_need i f).writes s (traced_action i s)
instruction_covers f i s = record {
  sets = λ r lt none. sets_beside i s r (is_kept i r (not_in (is_written i) r lt none)).outside;
  code = λ none.
      let kept = is_kept i CONDITION_CODE (not_in (is_written i) CONDITION_CODE (omega arith) none) in
      code_beside i s (set_with (writes_code i.op) (CONDITION_CODE == CONDITION_CODE) refl kept.code);
  start = λ anew r lt within.
      let both = starts i s anew in
      is_in (is_written i) r lt (start_written i r both.0 both.1 within);
}

-- what sets no register, leaves the condition code and keeps the controls
still_covers : (writes : ℕ) (s : State) (a : Action) → ((r : ℕ) → last_put a.sets r ≡ None) → a.ac ≡ s.ac
    → a.control ≡ KeepsControls → IsCovered writes s a
still_covers writes s a none same keeps = grind arith

push_covers : (frames : ℕ) (p : Push) (s : State) (a : Action) → a.sets ≡ push_sets p → a.ac ≡ s.ac
    → a.control ≡ KeepsControls → IsCovered (entry_need frames).writes s a
push_covers frames p s a sets same keeps = record {
  sets = λ r lt out.
      ap (λ (ps : List (ℕ × ℕ)). last_put ps r) sets ∙ push_beside p r (not_in is_in_frame r lt out);
  code = λ out. ap (λ (x : ℕ). x % 8) same;
  start = λ anew. absurd (subst StartsAnew keeps anew);
}

pub need_covers : (n : ℕ) (c : Cache) (s : State) (k : Kind)
    → IsCovered (need_of n c s k).writes s (action_by_kind k s)
unfolding need_of last_put
need_covers n c s (Instruction i) = instruction_covers (facts_of i s 0 false false) i s
need_covers n c s (Faulted None fault) = still_covers 0 s _ (λ r. refl) refl refl
need_covers n c s (Faulted (Some i) fault) = grind (arith, still_covers)
need_covers n c s (Entered e) = push_covers 0 e.push s _ refl refl refl
need_covers n c s (Interrupted x e) = push_covers 0 e.push s _ refl refl refl
need_covers n c s (Reached e u) = still_covers 0 s _ (λ r. refl) refl refl
