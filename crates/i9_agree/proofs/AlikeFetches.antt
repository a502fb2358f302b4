-- In states that are alike every hazard is the same, and so is what stands at the instruction address, and how a
-- fault is entered.
use Rattle.std.proofs.Common.{◌≡◌, ℕ, Bool, Option, None, Result, refl, ap, arith}
use Rattle.std.proofs.lemmas.Bool.{cases_Bool, eqb-true}
use Rattle.i9_isa.specs.declared.inst.Inst.{Inst}
use Rattle.i9_isa.specs.declared.inst.BadWord.{BadWord}
use Rattle.i9_model.specs.declared.layout.TheConstants.{PRCB_SIZE, CONTROL_TABLE_SIZE}
use Rattle.i9_model.specs.declared.faults.Fault.{Fault}
use Rattle.i9_model.specs.declared.faults.Handler.{Handler}
use Rattle.i9_model.specs.declared.faults.FaultStop.{FaultStop}
use Rattle.i9_model.specs.Memory.{Memory}
use Rattle.i9_model.specs.State.{State, Frames}
use Rattle.i9_model.specs.Hazards.{unless, read_hazard}
use Rattle.i9_model.specs.Tables.{tables_hazard}
use Rattle.i9_model.specs.Calls.{Caller, save_area, planned_calls, planned_ret, popped, ret_hazard}
use Rattle.i9_model.specs.Faults.{◌>>=◌, planned_handler, planned_frame, planned_fault, planned_fault_by}
use Rattle.i9_model.specs.Step.{first_word, next_word}
use Rattle.i9_model.specs.Access.{second_hazard, fetch_hazard}
use Rattle.i9_model.specs.Alike.{is_hard, AgreeWhere, with_other, with_memory, told_words}
use Rattle.i9_model.proofs.CallLaws.{first_none}
use Rattle.i9_model.proofs.Readings.{read_same, inner_word_same, word_same}
use Rattle.i9_agree.proofs.AlikeActions.{or_else_same, AreKnown, other_caller, system_hazard_by_same, system_by_same, system_hazard_same, system_same, saved_pc_same, saved_ac_same}
use Rattle.i9_agree.proofs.SecondWords.{AreOfWord, decoded_alike}
use Rattle.i9_past.proofs.Stands.{IsRead}

-- ---- as after a flush

pub tables_hazard_same : (f : Frames) (m : Memory) (bytes : ℕ → ℕ) (prcb : ℕ) → AgreeWhere (is_hard f) m bytes → tables_hazard (with_other m bytes) f prcb ≡ tables_hazard m f prcb
unfolding tables_hazard
tables_hazard_same f m bytes prcb same =
    or_else_same (read_hazard f prcb PRCB_SIZE) _ _ (λ none.
    ap (λ (w : ℕ). read_hazard f w CONTROL_TABLE_SIZE) (inner_word_same m bytes prcb PRCB_SIZE 4 (read_same f m bytes prcb PRCB_SIZE same none) (omega arith)))

-- ---- the fetch

pub first_word_same : (s : State) (bytes : ℕ → ℕ) → AgreeWhere (is_hard s.frames) s.memory bytes → read_hazard s.frames s.ip 4 ≡ None → first_word (with_memory s bytes) ≡ first_word s
first_word_same s bytes same none = word_same s.frames s.memory bytes s.ip 4 same none (omega arith)

second_hazard_same : (s : State) (bytes : ℕ → ℕ) (r q : Result Inst BadWord) → AreOfWord r q → second_hazard (with_memory s bytes) q ≡ second_hazard s r
second_hazard_same s bytes r q h = grind arith

pub fetch_hazard_same : (s : State) (bytes : ℕ → ℕ) → AgreeWhere (is_hard s.frames) s.memory bytes → fetch_hazard (with_memory s bytes) ≡ fetch_hazard s
unfolding fetch_hazard
fetch_hazard_same s bytes same = grind (arith, or_else_same, first_word_same, second_hazard_same, decoded_alike)

-- where the second word isn't read it doesn't matter, and where it is, it is the same
pub decoded_same : (s : State) (bytes : ℕ → ℕ) (r q : Result Inst BadWord) → AgreeWhere (is_hard s.frames) s.memory bytes → AreOfWord r q → second_hazard s r ≡ None → (next_word (with_memory s bytes) ≡ next_word s → q ≡ r) → q ≡ r
decoded_same s bytes r q same h none next = grind (arith, cases_Bool, word_same)

-- ---- its words

pub told_same : (s : State) (bytes : ℕ → ℕ) (words : ℕ) → AgreeWhere (is_hard s.frames) s.memory bytes → IsRead s words → told_words words (with_memory s bytes) ≡ told_words words s
told_same s bytes words same read = grind (arith, eqb-true, first_word_same, word_same)

-- ---- the entry of a fault

pub bind_same : {A B : Type 0} (r q : Result A FaultStop) (f g : A → Result B FaultStop) → q ≡ r → ((x : A) → g x ≡ f x) → (q >>= g) ≡ (r >>= f)
bind_same r q f g e same = grind arith

pub unless_same : {A : Type 0} (h : Option ℕ) (x y : A) → (h ≡ None → y ≡ x) → unless h y ≡ unless h x
unless_same h x y same = grind arith

pub handler_same : (f : Frames) (m : Memory) (bytes : ℕ → ℕ) (at : ℕ) → AgreeWhere (is_hard f) m bytes → planned_handler (with_other m bytes) f at ≡ planned_handler m f at
unfolding planned_handler
handler_same f m bytes at same = grind (arith, bind_same, unless_same, word_same)

planned_frame_same : (c : Caller) (bytes : ℕ → ℕ) (system fp sp : ℕ) (area : Bool → Option ℕ) (h : Handler) → AgreeWhere (is_hard c.frames) c.memory bytes → AreKnown area c.fp c.sp fp sp → planned_frame (other_caller c bytes fp sp) system area h ≡ planned_frame c system area h
unfolding planned_frame
planned_frame_same c bytes system fp sp area h same known =
    grind (arith, unless_same, system_hazard_by_same, system_by_same)

pub planned_fault_by_same : (c : Caller) (bytes : ℕ → ℕ) (table system : ℕ) (fault : Fault) (ac fp sp : ℕ) (area : Bool → Option ℕ) → AgreeWhere (is_hard c.frames) c.memory bytes → AreKnown area c.fp c.sp fp sp
    → planned_fault_by (other_caller c bytes fp sp) table system fault ac area ≡ planned_fault_by c table system fault ac area
unfolding planned_fault_by
planned_fault_by_same c bytes table system fault ac fp sp area same known =
    grind (arith, bind_same, handler_same, planned_frame_same)

pub planned_fault_same : (c : Caller) (bytes : ℕ → ℕ) (table system : ℕ) (fault : Fault) (ac : ℕ) → AgreeWhere (is_hard c.frames) c.memory bytes
    → planned_fault (other_caller c bytes c.fp c.sp) table system fault ac ≡ planned_fault c table system fault ac
planned_fault_same c bytes table system fault ac same = planned_fault_by_same c bytes table system fault ac c.fp c.sp (save_area c.frames c.fp) same (λ b none. (refl, λ e. refl))

-- ---- calls and returns as they are planned

pub planned_calls_same : (c : Caller) (bytes : ℕ → ℕ) (table n : ℕ) → AgreeWhere (is_hard c.frames) c.memory bytes → planned_calls (other_caller c bytes c.fp c.sp) table n ≡ planned_calls c table n
planned_calls_same c bytes table n same = grind (arith, system_hazard_same, unless_same, system_same)

pub planned_ret_same : (f : Frames) (m : Memory) (bytes : ℕ → ℕ) (pfp fp pc ac : ℕ) → AgreeWhere (is_hard f) m bytes → planned_ret (with_other m bytes) f pfp fp pc ac ≡ planned_ret m f pfp fp pc ac
unfolding popped ret_hazard
planned_ret_same f m bytes pfp fp pc ac same = grind (arith, unless_same, first_none, saved_pc_same, saved_ac_same)
