-- A record leaves the registers that its need does not write.
use Rattle.std.proofs.Common.{◌≡◌, ℕ, ◌≤◌, Bool, true, false, cond, ◌&&◌, ◌||◌, List, [], ◌∷◌, length, Option, Some, None, refl, sym, ap, ◌∙◌, arith}
use Rattle.std.specs.Prelude.{◌==◌, nat_le, not}
use Rattle.std.proofs.lemmas.Bool.{cond-false, leb-true, eqb-true}
use Rattle.std.proofs.lemmas.Bool.Decides.{nat_tests}
use Rattle.std.proofs.lemmas.List.FromFn.{length-map-range_with_len}
use Rattle.i9_isa.specs.declared.op.Op.{Op}
use Rattle.i9_isa.specs.declared.op.Op.TheVariants.{Lda, Atadd, Atmod, Balx, Bal, Call, Callx, Calls, Ret, Modac, Modtc, Modpc, Addi}
use Rattle.i9_isa.specs.declared.size.Size.{Size}
use Rattle.i9_isa.specs.declared.size.Direction.{Direction}
use Rattle.i9_isa.specs.declared.size.Direction.TheVariants.{Load}
use Rattle.i9_isa.specs.declared.size.Transfer.{Transfer}
use Rattle.i9_isa.specs.declared.inst.Operand.{Operand}
use Rattle.i9_isa.specs.declared.inst.Inst.{Inst}
use Rattle.i9_isa.specs.Operands.{words_written}
use Rattle.i9_isa.specs.Resources.{is_in_operand, is_in_frame, changes_frame, writes_link}
use Rattle.i9_isa.specs.declared.resources.TheConstants.{LINK}
use Rattle.i9_isa.specs.Table.{row_of}
use Rattle.i9_isa.specs.Transfers.{register_count, transfer_of}
use Rattle.i9_isa.proofs.Moved.{loads_registers}
use Rattle.i9_model.specs.Writes.{last_put}
use Rattle.i9_model.specs.declared.layout.TheConstants.{FP, SP, LOCAL_RETURN}
use Rattle.i9_model.specs.Frames.{pushed}
use Rattle.i9_model.specs.State.{State}
use Rattle.i9_model.specs.Operands.{assigned, address}
use Rattle.i9_model.specs.Memory.{Memory, word_in, words_in}
use Rattle.i9_model.specs.Numbers.{signed}
use Rattle.i9_model.specs.Results.{words, results_by, destination_words}
use Rattle.i9_model.specs.Branches.{asks, question_of}
use Rattle.i9_model.specs.Step.{values_of, destination, loaded, moving, action_by_name, action_by, action_of, branching, resulting, answer_in, atomic_address, following, return_in, system_call}
use Rattle.i9_model.specs.Stale.{legible, left_memory}
use Rattle.i9_model.proofs.LastPuts.{group_beside, frame_beside, push_beside}

-- ---- how many words a result has

few_values : (op : Op) (a b : List ℕ) (c ac : ℕ) → nat_le (length (values_of (results_by op a b c ac))) (destination_words op) ≡ true
few_values Addi a b c ac = grind arith
few_values _ a b c ac = grind arith

-- ---- registers beside a destination

operand_beside : (o : Operand) (n k : ℕ) (vs : List ℕ) → length vs ≤ n → is_in_operand o n k ≡ false → last_put (assigned o vs) k ≡ None
unfolding last_put
operand_beside o n k vs few h = grind (arith, group_beside, nat_tests)

-- ---- an instruction

pub record IsOutside (i : Inst) (k : ℕ) : Type 0 where
  pub a : is_in_operand i.a (words_written (row_of i.op).a) k ≡ false
  pub c : is_in_operand i.c (words_written (row_of i.op).c) k ≡ false
  pub link : (writes_link i.op && (k == LINK)) ≡ false
  pub frame : (changes_frame i.op && is_in_frame k) ≡ false

c_beside : (op : Op) (i : Inst) (k : ℕ) (vs : List ℕ) → i.op ≡ op → nat_le (length vs) (words_written (row_of op).c) ≡ true → IsOutside i k → last_put (assigned i.c vs) k ≡ None
c_beside op i k vs e few h =
    operand_beside i.c (words_written (row_of i.op).c) k vs (leb-true _ _ (ap (λ (o : Op). nat_le (length vs) (words_written (row_of o).c)) e ∙ few)) h.c

-- no name writes two operands
pub one_target : (op : Op) → ((words_written (row_of op).a == 0) || (words_written (row_of op).c == 0)) ≡ true
one_target op = grind arith

answer_beside : (first : Bool) (i : Inst) (k : ℕ) (vs : List ℕ) → (words_written (row_of i.op).a == 0) ≡ first → length vs ≤ destination_words i.op → IsOutside i k → last_put (assigned (destination i) vs) k ≡ None
unfolding last_put
answer_beside first i k vs e few h = grind (arith, eqb-true, group_beside, nat_tests, one_target)

other_beside : (b : Bool) (i : Inst) (s : State) (k : ℕ) → IsOutside i k → last_put (cond b (branching i s) (resulting i s (answer_in i s))).sets k ≡ None
unfolding last_put
other_beside b i s k h = grind (arith, answer_beside, leb-true, few_values)

one_beside : (r v k : ℕ) → (k == r) ≡ false → last_put ((r, v) ∷ []) k ≡ None
unfolding last_put
one_beside r v k h = cond-false (k == r) (Some v) None h

true_frame : (op : Op) (i : Inst) (k : ℕ) → i.op ≡ op → changes_frame op ≡ true → IsOutside i k → is_in_frame k ≡ false
true_frame op i k e t h = sym (ap (λ (b : Bool). b && is_in_frame k) (ap changes_frame e ∙ t)) ∙ h.frame

name_beside : (op : Op) (i : Inst) (s : State) (k : ℕ) → i.op ≡ op → IsOutside i k → last_put (action_by_name op i s).sets k ≡ None
unfolding last_put
name_beside Lda i s k e h = c_beside Lda i k (address s i.ea ∷ []) e refl h
name_beside Atadd i s k e h = c_beside Atadd i k (word_in (legible s) (atomic_address i s) ∷ []) e refl h
name_beside Atmod i s k e h = c_beside Atmod i k (word_in (legible s) (atomic_address i s) ∷ []) e refl h
name_beside Balx i s k e h = c_beside Balx i k (following i s ∷ []) e refl h
name_beside Bal i s k e h = one_beside 30 (following i s) k (sym (ap (λ (b : Bool). b && (k == 30)) (ap writes_link e)) ∙ h.link)
name_beside Call i s k e h = push_beside (pushed (s.regs FP) (s.regs SP) 0 LOCAL_RETURN) k (true_frame Call i k e refl h)
name_beside Callx i s k e h = push_beside (pushed (s.regs FP) (s.regs SP) 0 LOCAL_RETURN) k (true_frame Callx i k e refl h)
name_beside Calls i s k e h = push_beside (system_call i s).push k (true_frame Calls i k e refl h)
name_beside Ret i s k e h = frame_beside (words_in (left_memory s.frames.live s) (return_in s).frame 16) (return_in s).frame k refl (true_frame Ret i k e refl h)
name_beside Modac i s k e h = c_beside Modac i k (s.ac ∷ []) e refl h
name_beside Modtc i s k e h = c_beside Modtc i k (s.trace.tc ∷ []) e refl h
name_beside Modpc i s k e h = c_beside Modpc i k (s.pc ∷ []) e refl h
name_beside op i s k e h = grind (arith, other_beside (asks (question_of op)) i s k h)

-- a load has the words of its size
loaded_long : (size : Size) (signed : Bool) (m : Memory) (a : ℕ) → length (loaded size signed m a) ≡ register_count size
loaded_long size signed m a = grind (arith, length-map-range_with_len)

moving_beside : (d : Direction) (size : Size) (signed : Bool) (i : Inst) (s : State) (k : ℕ) → (d ≡ Load → words_written (row_of i.op).c ≡ register_count size) → IsOutside i k → last_put (moving d size signed i s).sets k ≡ None
unfolding last_put
moving_beside d size signed i s k row h = grind (arith, loaded_long, operand_beside)

-- a register that the need does not write is not set
pub sets_beside : (i : Inst) (s : State) (k : ℕ) → IsOutside i k → last_put (action_of i s).sets k ≡ None
unfolding action_of
sets_beside i s k h = by_transfer (transfer_of i.op) refl
  where
    by_transfer : (o : Option Transfer) → transfer_of i.op ≡ o → last_put (action_by o i s).sets k ≡ None
    by_transfer (Some t) e = moving_beside t.direction t.size t.signed i s k (loads_registers i.op t e) h
    by_transfer None e = name_beside i.op i s k refl h
