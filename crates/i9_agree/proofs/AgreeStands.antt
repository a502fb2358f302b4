-- In states that agree the same stands at the instruction address.
use Rattle.std.proofs.Common.{◌≡◌, arith, ℕ, Bool, true, false, cond, ◌++◌, Option, Some, None, Result, Ok, Err, refl, sym, ap, ◌∙◌}
use Rattle.std.specs.Prelude.{not, ◌&&◌}
use Rattle.std.specs.List.{list_any}
use Rattle.std.proofs.lemmas.Bool.{or_parts}
use Rattle.i9_isa.specs.declared.op.Op.{Op}
use Rattle.i9_isa.specs.declared.op.Op.TheVariants.{Atadd, Atmod, Calls, Ret, Modpc, Sdma, Sysctl}
use Rattle.i9_isa.specs.declared.size.Direction.{Direction}
use Rattle.i9_isa.specs.declared.size.Transfer.{Transfer}
use Rattle.i9_isa.specs.declared.inst.Inst.{Inst}
use Rattle.i9_isa.specs.declared.inst.BadWord.{BadWord}
use Rattle.i9_isa.specs.Transfers.{transfer_of, byte_count}
use Rattle.i9_isa.specs.Words.{decoded}
use Rattle.i9_model.specs.declared.layout.TheConstants.{FP}
use Rattle.i9_model.specs.State.{State, Frames, aligned}
use Rattle.i9_model.specs.Frames.{flushed}
use Rattle.i9_model.specs.Hazards.{read_hazard}
use Rattle.i9_model.specs.Calls.{takes_record, return_type, ret_hazard, system_hazard_by}
use Rattle.i9_model.specs.Faults.{is_special, raised}
use Rattle.i9_model.specs.Operands.{value, address}
use Rattle.i9_model.specs.Step.{first_word, next_word, Message, AsksRestart}
use Rattle.i9_model.specs.Stale.{registers_of, address_registers, is_marked, marks_by, deciding, deciding_by, goes_out_by, misuses, area_hazard}
use Rattle.i9_model.specs.Access.{Access, Changes, SavesFrame, CallsSystem, ReturnsBy, ReadsTables, moved_access, message_access, access_by_name, access_by, access_of, data_of, hazard_in, hazard_of, fetch_hazard, second_hazard}
use Rattle.i9_model.specs.Standing.{Meets, raised_in, later_fault, by_access, by_later, by_raised, by_word, by_fetch, stands_at}
use Rattle.i9_model.specs.Alike.{is_hard, AgreeWhere, with_other, with_memory, with_values, AgreeBeside}
use Rattle.i9_model.proofs.CallLaws.{first_none, second_none}
use Rattle.i9_agree.proofs.AlikeActions.{system_hazard_by_same}
use Rattle.i9_agree.proofs.AlikeFetches.{tables_hazard_same, first_word_same, fetch_hazard_same, decoded_same}
use Rattle.i9_agree.proofs.SecondWords.{decoded_alike}
use Rattle.i9_agree.proofs.Agreeing.{shows-none, shows-first, shows-second}
use Rattle.i9_agree.proofs.AgreeMoves.{open-hard, open-flushed}
use Rattle.i9_agree.proofs.AgreeActions.{AreShown, shown-first, shown-second, value-same}
use Rattle.i9_agree.proofs.AgreeNames.{AreOther, hard-bytes, AsksShown, taken-same, answer-same}
use Rattle.i9_agree.proofs.AgreeCalls.{named, restart-shown}

-- ---- what decides

decides : (hides : Bool) (o : Option Transfer) (i : Inst) (s : State) (regs bytes reading : ℕ → ℕ) → AgreeBeside hides s regs → is_marked s (deciding_by o i (with_values s regs bytes reading)) ≡ is_marked s (deciding_by o i s)
decides hides o i s regs bytes reading same = grind arith

-- ---- what reaches a special function register, and what goes out

pub misuses-same : (hides : Bool) (i : Inst) (s : State) (regs bytes reading : ℕ → ℕ) → AgreeBeside hides s regs → misuses i (with_values s regs bytes reading) ≡ misuses i s
unfolding misuses
misuses-same hides i s regs bytes reading same = grind arith

-- what is not misused
pub record IsAllowedIn (i : Inst) (s : State) : Type 0 where
  pub deciding : is_marked s (deciding_by (transfer_of i.op) i s) ≡ false
  pub special : (is_special i.c && list_any (λ b. b) (marks_by (transfer_of i.op) i s)) ≡ false
  pub out : goes_out_by (transfer_of i.op) i s ≡ false

pub allowed-by : (i : Inst) (s : State) → misuses i s ≡ false → IsAllowedIn i s
unfolding misuses
allowed-by i s none = grind (arith, or_parts)

-- ---- accesses and their hazards

area-same : (hides : Bool) (s : State) (regs bytes reading : ℕ → ℕ) → AgreeBeside hides s regs → (b : Bool) → area_hazard (with_values s regs bytes reading) b ≡ area_hazard s b
area-same hides s regs bytes reading same b = grind arith

pub areas-same : (hides : Bool) (s : State) (regs bytes reading : ℕ → ℕ) → AgreeBeside hides s regs → ◌≡◌ {A = Bool → Option ℕ} (area_hazard (with_values s regs bytes reading)) (area_hazard s)
areas-same hides s regs bytes reading same = λ i b. area-same hides s regs bytes reading same b i

-- a return reads fp where its type does
abbrev FpKnown : State → (ℕ → ℕ) → Access → Type 0
FpKnown s regs (ReturnsBy pfp) = takes_record (return_type pfp) ≡ true → regs FP ≡ s.regs FP
FpKnown s regs _ = Unit {0}

ret-hazard : (f : Frames) (pfp fp fp2 : ℕ) → (takes_record (return_type pfp) ≡ true → fp2 ≡ fp) → ret_hazard f pfp fp2 ≡ ret_hazard f pfp fp
unfolding ret_hazard
ret-hazard f pfp fp fp2 known = grind arith

flushed-hard : (hides : Bool) (s : State) (regs bytes reading : ℕ → ℕ) → AreOther hides s regs bytes reading → AgreeWhere (is_hard (flushed s.frames)) s.memory bytes
flushed-hard hides s regs bytes reading same = λ x h. same.bytes x (open-flushed hides s.frames x (open-hard hides (flushed s.frames) x h))

hazard-in-same : (hides : Bool) (x : Access) (s : State) (regs bytes reading : ℕ → ℕ) → AreOther hides s regs bytes reading → FpKnown s regs x → hazard_in (with_values s regs bytes reading) x ≡ hazard_in s x
hazard-in-same hides SavesFrame s regs bytes reading same known = area-same hides s regs bytes reading same.regs false
hazard-in-same hides (CallsSystem n) s regs bytes reading same known =
    ap (system_hazard_by (with_other s.memory bytes) s.frames s.tables.system_table n s.pc) (areas-same hides s regs bytes reading same.regs)
    ∙ system_hazard_by_same s.frames s.memory bytes s.tables.system_table n s.pc (area_hazard s) (hard-bytes hides s regs bytes reading same)
hazard-in-same hides (ReturnsBy pfp) s regs bytes reading same known = ret-hazard s.frames pfp (s.regs FP) (regs FP) known
hazard-in-same hides (ReadsTables prcb) s regs bytes reading same known = tables_hazard_same (flushed s.frames) s.memory bytes prcb (flushed-hard hides s regs bytes reading same)
hazard-in-same hides _ s regs bytes reading same known = refl

message-access : (hides : Bool) (m : Message) (i : Inst) (s : State) (regs bytes reading : ℕ → ℕ) → AgreeBeside hides s regs → AreShown hides s (registers_of i.a 1) → (m ≡ AsksRestart → AreShown hides s (registers_of i.b 1 ++ registers_of i.c 1))
    → (message_access m i (with_values s regs bytes reading) ≡ message_access m i s) × FpKnown s regs (message_access m i s)
message-access hides m i s regs bytes reading same shown more = grind arith

abbrev SameAccess : State → (ℕ → ℕ) → Access → Access → Type 0
SameAccess s regs x y = (y ≡ x) × FpKnown s regs x

name-access : (hides : Bool) (op : Op) (i : Inst) (s : State) (regs bytes reading : ℕ → ℕ) → AgreeBeside hides s regs → AreShown hides s (deciding op (named op i) s) → SameAccess s regs (access_by_name op (named op i) s) (access_by_name op (named op i) (with_values s regs bytes reading))
name-access hides Atadd i s regs bytes reading same shown = (ap (λ (v : ℕ). Changes (aligned v) 4) (value-same hides s regs bytes reading i.a same shown), tt)
name-access hides Atmod i s regs bytes reading same shown = (rw (value-same hides s regs bytes reading i.a same shown) refl, tt)
name-access hides Calls i s regs bytes reading same shown = (ap (λ (v : ℕ). CallsSystem v) (value-same hides s regs bytes reading i.a same (shown-first hides s (registers_of i.a 1) (registers_of i.b 0 ++ registers_of i.c 0) shown)), tt)
name-access hides Ret i s regs bytes reading same shown = grind (arith, shows-first, shows-second)
name-access hides Sysctl i s regs bytes reading same shown =
    grind (arith, shown-first, shown-second, message-access, restart-shown, value-same)
name-access hides _ i s regs bytes reading same shown = (refl, tt)

moved-access : (hides : Bool) (d : Direction) (n : ℕ) (i : Inst) (s : State) (regs bytes reading : ℕ → ℕ) → AgreeBeside hides s regs → AreShown hides s (address_registers i.ea) → SameAccess s regs (moved_access d (address s i.ea) n) (moved_access d (address (with_values s regs bytes reading) i.ea) n)
moved-access hides d n i s regs bytes reading same shown = grind arith

pub access-same : (hides : Bool) (i : Inst) (s : State) (regs bytes reading : ℕ → ℕ) → AgreeBeside hides s regs → is_marked s (deciding_by (transfer_of i.op) i s) ≡ false → SameAccess s regs (access_of i s) (access_of i (with_values s regs bytes reading))
access-same hides i s regs bytes reading same none = by_transfer (transfer_of i.op) none
  where
    by_transfer : (o : Option Transfer) → is_marked s (deciding_by o i s) ≡ false → SameAccess s regs (access_by o i s) (access_by o i (with_values s regs bytes reading))
    by_transfer (Some t) e = moved-access hides t.direction (byte_count t.size) i s regs bytes reading same (shows-none hides _ e)
    by_transfer None e = name-access hides i.op i s regs bytes reading same (shows-none hides _ e)

pub hazard-same : (hides : Bool) (i : Inst) (s : State) (regs bytes reading : ℕ → ℕ) → AreOther hides s regs bytes reading → is_marked s (deciding_by (transfer_of i.op) i s) ≡ false → hazard_of i (with_values s regs bytes reading) ≡ hazard_of i s
unfolding hazard_of
hazard-same hides i s regs bytes reading same none =
    let access = access-same hides i s regs bytes reading same.regs none in
    ap (hazard_in (with_values s regs bytes reading)) access.0 ∙ hazard-in-same hides (access_of i s) s regs bytes reading same access.1

-- ---- faults

-- of some names a source raises a fault before anything is done
first_source : Op → ℕ → ℕ
first_source Sysctl a = a
first_source Sdma a = a
first_source Calls a = a
first_source _ a = 0

second_source : Op → ℕ → ℕ
second_source Modpc b = b
second_source _ b = 0

raised-used : (i : Inst) (a b : ℕ) (x : Option (ℕ × ℕ)) (pc config : ℕ) → raised i (first_source i.op a) (second_source i.op b) x pc config ≡ raised i a b x pc config
unfolding first_source raised second_source
raised-used i a b x pc config = grind arith

first-same : (hides : Bool) (op : Op) (i : Inst) (s : State) (regs bytes reading : ℕ → ℕ) → AgreeBeside hides s regs → is_marked s (deciding_by (transfer_of op) (named op i) s) ≡ false → first_source op (value (with_values s regs bytes reading) i.a) ≡ first_source op (value s i.a)
unfolding first_source
first-same hides op i s regs bytes reading same none = grind arith

second-same : (hides : Bool) (op : Op) (i : Inst) (s : State) (regs bytes reading : ℕ → ℕ) → AgreeBeside hides s regs → is_marked s (deciding_by (transfer_of op) (named op i) s) ≡ false → second_source op (value (with_values s regs bytes reading) i.b) ≡ second_source op (value s i.b)
unfolding second_source
second-same hides op i s regs bytes reading same none = grind arith

raised-same : (hides : Bool) (i : Inst) (s : State) (regs bytes reading : ℕ → ℕ) → AgreeBeside hides s regs → is_marked s (deciding_by (transfer_of i.op) i s) ≡ false → raised_in i (with_values s regs bytes reading) ≡ raised_in i s
raised-same hides i s regs bytes reading same none =
    let t = with_values s regs bytes reading in
    let config = s.tables.fault_config in
    ap (λ (x : Access). raised i (value t i.a) (value t i.b) (data_of x) s.pc config) (access-same hides i s regs bytes reading same none).0
    ∙ sym (raised-used i (value t i.a) (value t i.b) (data_of (access_of i s)) s.pc config)
    ∙ rw (first-same hides i.op i s regs bytes reading same none, second-same hides i.op i s regs bytes reading same none) refl
    ∙ raised-used i (value s i.a) (value s i.b) (data_of (access_of i s)) s.pc config

pub asks-shown : (hides : Bool) (i : Inst) (s : State) → is_marked s (deciding_by (transfer_of i.op) i s) ≡ false → AsksShown hides i s
asks-shown hides i s none asked = grind arith

later-same : (hides : Bool) (i : Inst) (s : State) (regs bytes reading : ℕ → ℕ) → AgreeBeside hides s regs → is_marked s (deciding_by (transfer_of i.op) i s) ≡ false → later_fault i (with_values s regs bytes reading) ≡ later_fault i s
later-same hides i s regs bytes reading same none = grind (arith, answer-same, shows-none, taken-same, asks-shown)

-- ---- what stands there

by-later-same : (hides : Bool) (i : Inst) (s : State) (regs bytes reading : ℕ → ℕ) (o : Option (ℕ × ℕ)) → AreOther hides s regs bytes reading → is_marked s (deciding_by (transfer_of i.op) i s) ≡ false → by_later i (with_values s regs bytes reading) o ≡ by_later i s o
by-later-same hides i s regs bytes reading (Some number) same none = refl
by-later-same hides i s regs bytes reading None same none = ap (by_access i) (hazard-same hides i s regs bytes reading same none)

by-raised-same : (hides : Bool) (i : Inst) (s : State) (regs bytes reading : ℕ → ℕ) (o : Option (ℕ × ℕ)) → AreOther hides s regs bytes reading → is_marked s (deciding_by (transfer_of i.op) i s) ≡ false → by_raised i (with_values s regs bytes reading) o ≡ by_raised i s o
by-raised-same hides i s regs bytes reading (Some number) same none = refl
by-raised-same hides i s regs bytes reading None same none =
    ap (by_later i (with_values s regs bytes reading)) (later-same hides i s regs bytes reading same.regs none) ∙ by-later-same hides i s regs bytes reading (later_fault i s) same none

by-word-same : (hides : Bool) (s : State) (regs bytes reading : ℕ → ℕ) (r : Result Inst BadWord) → AreOther hides s regs bytes reading → by_word (with_values s regs bytes reading) r ≡ by_word s r
by-word-same hides s regs bytes reading (Err e) same = refl
by-word-same hides s regs bytes reading (Ok i) same =
    let t = with_values s regs bytes reading in
    ap (λ (b : Bool). cond b (Meets s.ip) (by_raised i t (raised_in i t))) (misuses-same hides i s regs bytes reading same.regs) ∙ by_misuse (misuses i s) refl
  where
    by_misuse : (b : Bool) → misuses i s ≡ b → cond b (Meets s.ip) (by_raised i (with_values s regs bytes reading) (raised_in i (with_values s regs bytes reading))) ≡ cond b (Meets s.ip) (by_raised i s (raised_in i s))
    by_misuse true e = refl
    by_misuse false e =
        let none = (allowed-by i s e).deciding in
        ap (by_raised i (with_values s regs bytes reading)) (raised-same hides i s regs bytes reading same.regs none) ∙ by-raised-same hides i s regs bytes reading (raised_in i s) same none

by-fetch-same : (hides : Bool) (s : State) (regs bytes reading : ℕ → ℕ) (h : Option ℕ) → AreOther hides s regs bytes reading → fetch_hazard s ≡ h → by_fetch (with_values s regs bytes reading) h ≡ by_fetch s h
unfolding fetch_hazard
by-fetch-same hides s regs bytes reading (Some a) same is = refl
by-fetch-same hides s regs bytes reading None same is =
    let t = with_values s regs bytes reading in
    let u = with_memory s bytes in
    let w = first_word s in
    let r = decoded w (next_word s) in
    let hard = hard-bytes hides s regs bytes reading same in
    let first : first_word u ≡ w = first_word_same s bytes hard (first_none (read_hazard s.frames s.ip 4) (second_hazard s r) is) in
    let second = second_none (read_hazard s.frames s.ip 4) (second_hazard s r) is in
    let word = decoded_same s bytes r (decoded w (next_word u)) hard (decoded_alike w (next_word s) (next_word u)) second (λ e. ap (decoded w) e) in
    ap (by_word t) (ap (λ (v : ℕ). decoded v (next_word u)) first ∙ word) ∙ by-word-same hides s regs bytes reading r same

pub stands-same : (hides : Bool) (s : State) (regs bytes reading : ℕ → ℕ) → AreOther hides s regs bytes reading → stands_at (with_values s regs bytes reading) ≡ stands_at s
unfolding stands_at fetch_hazard
stands-same hides s regs bytes reading same =
    ap (by_fetch (with_values s regs bytes reading)) (fetch_hazard_same s bytes (hard-bytes hides s regs bytes reading same)) ∙ by-fetch-same hides s regs bytes reading (fetch_hazard s) same refl
