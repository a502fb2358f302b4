-- In states that agree each instruction that marks allow, and whose access meets no hazard, does what is alike: pushes,
-- returns, system control, and all names.
use Rattle.std.proofs.Common.{◌≡◌, ℕ, ◌+◌, ◌*◌, ◌^◌, ◌<◌, Bool, true, false, cond, List, [], ◌∷◌, ◌++◌, Option, Some, None, refl, sym, ap, ◌∙◌, subst, arith}
use Rattle.std.specs.Prelude.{◌==◌, ◌&&◌, ◌||◌}
use Rattle.std.specs.List.{list_any}
use Rattle.std.proofs.lemmas.Bool.{or_left}
use Rattle.std.proofs.lemmas.Bool.Decides.{nat_tests}
use Rattle.i9_isa.specs.declared.op.Op.{Op}
use Rattle.i9_isa.specs.declared.op.Op.TheVariants.{Mov, Movl, Movt, Movq, Lda, Atadd, Atmod, Bx, Balx, Bal, Call, Callx, Calls, Ret, Flushreg, Modac, Modtc, Modpc, Sdma, Sysctl}
use Rattle.i9_isa.specs.declared.size.Transfer.{Transfer}
use Rattle.i9_isa.specs.declared.inst.Inst.{Inst}
use Rattle.i9_isa.specs.Transfers.{transfer_of}
use Rattle.i9_model.specs.declared.layout.TheConstants.{FP, SP, PFP, LOCALS, FRAME_SIZE, INTERRUPT_RETURN, LOCAL_RETURN}
use Rattle.i9_model.specs.declared.push.Push.{Push}
use Rattle.i9_model.specs.declared.calls.Sys.{Sys}
use Rattle.i9_model.specs.Writes.{wrapped, pairs_at}
use Rattle.i9_model.specs.Memory.{word_in, words_in}
use Rattle.i9_model.specs.State.{State, aligned, frame_sets}
use Rattle.i9_model.specs.Frames.{pushed, rounded_down, in_bytes, in_frames}
use Rattle.i9_model.specs.Hazards.{port_hazard, frame_hazard, return_hazard, return_place}
use Rattle.i9_model.specs.Faults.{is_special}
use Rattle.i9_model.specs.Calls.{caller_in, call_type, system_entered, return_type, controls_hazard, ret_hazard, returned_pc, returned_ac, popped, system_hazard_by}
use Rattle.i9_model.specs.Operands.{value, word_of, source_words, address, target}
use Rattle.i9_model.specs.Sound.{in_returns}
use Rattle.i9_model.specs.Step.{Action, Returns, going, passing, following, assigning, marking, merged, jumping, linking, modac_action, modtc_action, modpc_action, Message, AsksNothing, AsksCheck, AsksInterrupt, AsksRestart, AsksGroup, message_of, argument_of, message_kind, asked_message, message_action, sdma_action, pushing, call_action, system_call, calls_action, ret_action, action_by_name, action_by, action_of}
use Rattle.i9_model.specs.Stale.{picked, mark_of, marks_of, word_mark, word_marks, left_memory, left_stale, registers_of, address_registers, is_marked, marks_by_name, marks_by, restart_registers, record_registers, deciding, deciding_by, area_hazard}
use Rattle.i9_model.specs.Access.{access_by_name, message_access, access_by, hazard_in, hazard_of}
use Rattle.i9_model.specs.Alike.{with_other, shows, with_values, AgreeBeside, AreValuesAlike, AreActionsAlike}
use Rattle.i9_model.proofs.CallLaws.{first_none, second_none}
use Rattle.i9_model.proofs.Readings.{in_bytes-has}
use Rattle.i9_model.proofs.FrameLaws.{read_hazard-none}
use Rattle.i9_agree.proofs.AlikeActions.{AreKnown, other_caller, system_by_same, saved_pc_same, saved_ac_same, request_same}
use Rattle.i9_agree.proofs.Agreeing.{shows-none, shows-first, shows-second, shows-unmarked, values-mapped, writes-append, writes-same, writes-picked}
use Rattle.i9_agree.proofs.AgreeNames.{AreOther, hard-bytes, moving-agree, atomic-agree, other-agree}
use Rattle.i9_agree.proofs.AgreeActions.{AreShown, shown-first, shown-second, shown-three, word-same, operand-same, value-same, address-same, legible-word, shown-word-same, alike-same, alike-by, IsAllowed, assigning-alike, pushing-alike}

-- ---- pushes

-- where nothing is found of a push, fp and sp as far as it goes by them are the same
pub push-known : (hides : Bool) (s : State) (regs : ℕ → ℕ) → AgreeBeside hides s regs → AreKnown (area_hazard s) (s.regs FP) (s.regs SP) (regs FP) (regs SP)
push-known hides s regs same = grind arith

call-agree : (hides : Bool) (i : Inst) (s : State) (regs bytes reading : ℕ → ℕ) (to other : ℕ) → AgreeBeside hides s regs → area_hazard s false ≡ None → other ≡ to
    → AreActionsAlike hides (call_action i s to) (call_action i (with_values s regs bytes reading) other)
call-agree hides i s regs bytes reading to other same none e =
    let t = with_values s regs bytes reading in
    let known = push-known hides s regs same false none in
    let push = pushed (s.regs FP) (s.regs SP) 0 LOCAL_RETURN in
    let found : pushed (regs FP) (regs SP) 0 LOCAL_RETURN ≡ push = rw (known.0, known.1 refl) refl in
    let all : call_action i t other ≡ pushing t push (following i s) (aligned to) =
    ap (λ (p : Push). pushing t p (following i s) (aligned other)) found ∙ ap (λ (x : ℕ). pushing t push (following i s) (aligned x)) e in
    subst (λ (x : Action). AreActionsAlike hides (call_action i s to) x) (sym all) (pushing-alike hides s regs bytes reading push (following i s) (aligned to) same)

calls-agree : (hides : Bool) (i : Inst) (s : State) (regs bytes reading : ℕ → ℕ) → AreOther hides s regs bytes reading → AreShown hides s (registers_of i.a 1)
    → system_hazard_by s.memory s.frames s.tables.system_table (value s i.a) s.pc (area_hazard s) ≡ None
    → AreActionsAlike hides (calls_action i s) (calls_action i (with_values s regs bytes reading))
calls-agree hides i s regs bytes reading same shown none =
    let t = with_values s regs bytes reading in
    let kind = call_type s.pc in
    let y = system_call i s in
    let number = value-same hides s regs bytes reading i.a same.regs shown in
    let enters : system_call i t ≡ y =
    ap (λ (n : ℕ). system_entered (other_caller (caller_in s) bytes (regs FP) (regs SP)) s.tables.system_table n 0 kind) number
    ∙ system_by_same (caller_in s) bytes s.tables.system_table (value s i.a) (regs FP) (regs SP) 0 kind (area_hazard s) (hard-bytes hides s regs bytes reading same) (push-known hides s regs same.regs) none in
    let all : calls_action i t ≡ record (pushing t y.push (following i s) y.target) { pc = y.pc } = ap (λ (x : Sys). record (pushing t x.push (following i s) x.target) { pc = x.pc }) enters in
    let push = pushing-alike hides s regs bytes reading y.push (following i s) y.target same.regs in
    subst (λ (x : Action). AreActionsAlike hides (calls_action i s) x) (sym all) (record { rest = refl; sets = push.sets; writes = push.writes; move = push.move })

-- ---- returns

-- what a return reads of the frame at an address, as far as marks show it
abbrev FrameRead : Bool → State → (ℕ → ℕ) → (ℕ → ℕ) → (ℕ → ℕ) → List ℕ → ℕ → Type 0
FrameRead hides s regs bytes reading live a =
    ((k : ℕ) → k < LOCALS → shows hides (word_mark (left_stale live s.frames) (wrapped (a + 4 * k))) ≡ true
    → word_in (left_memory live (with_values s regs bytes reading)) (wrapped (a + 4 * k)) ≡ word_in (left_memory live s) (wrapped (a + 4 * k)))
    × (shows hides (word_mark (left_stale live s.frames) (return_place a)) ≡ true)

-- no byte of the return address is marked
return_shown : (hides : Bool) (stale : ℕ → Bool) (p : ℕ) → ((x : ℕ) → in_bytes p 4 x ≡ true → stale x ≡ false) → p < 2 ^ 32 → shows hides (word_mark stale p) ≡ true
return_shown hides stale p none h =
    let place : wrapped (p + 0) ≡ p = omega (arith, h) in
    let byte : (j : ℕ) → j < 4 → stale (wrapped (p + j)) ≡ false = λ j l. none (wrapped (p + j)) (in_bytes-has p 4 j l) in
    let first : stale p ≡ false = rw place at (byte 0 (omega arith)) in
    rw (first, byte 1 (omega arith), byte 2 (omega arith), byte 3 (omega arith)) (shows-unmarked hides)

below_count : (a : ℕ) → return_place a < 2 ^ 32
below_count a = omega arith

frame-read : (hides : Bool) (s : State) (regs bytes reading : ℕ → ℕ) (live : List ℕ) (a : ℕ) → s.frames.live ≡ live → AreOther hides s regs bytes reading → ((x : ℕ) → in_returns live x ≡ true → s.frames.marked x ≡ false)
    → frame_hazard live s.frames a ≡ None → FrameRead hides s regs bytes reading live a
frame-read hides s regs bytes reading [] a is same known none =
    grind (arith, legible-word, return_shown, read_hazard-none, below_count)
frame-read hides s regs bytes reading (g ∷ live) a is same known none = (
  (λ k l h. shown-word-same hides s.memory bytes s.frames.marked (wrapped (a + 4 * k))
      (λ t. byte (4 * k) (omega (arith, l)) t)
      (λ j m n t. ap bytes (next k j) ∙ byte (4 * k + j) (omega (arith, l, n)) (ap (λ (x : ℕ). shows hides (s.frames.marked x)) (sym (next k j)) ∙ t) ∙ ap s.memory.bytes (sym (next k j)))
      h),
  return_shown hides s.frames.marked (return_place a) (λ x t. known x (returns x t)) (below_count a),
)
  where
    here : a ≡ g
    here = grind (arith, nat_tests)

    returns : (x : ℕ) → in_bytes (return_place a) 4 x ≡ true → in_returns (g ∷ live) x ≡ true
    returns x t = or_left (in_bytes (return_place g) 4 x) (in_returns live x) (rw here at t)

    next : (k j : ℕ) → wrapped (wrapped (a + 4 * k) + j) ≡ wrapped (a + (4 * k + j))
    next k j = omega arith

    is_live : (x : ℕ) → in_bytes a FRAME_SIZE x ≡ true → in_frames s.frames.live x ≡ true
    is_live x t = rw is (or_left (in_bytes g FRAME_SIZE x) (in_frames live x) (rw here at t))

    byte : (k : ℕ) → k < 64 → shows hides (s.frames.marked (wrapped (a + k))) ≡ true → bytes (wrapped (a + k)) ≡ s.memory.bytes (wrapped (a + k))
    byte k l t =
        let live = is_live (wrapped (a + k)) (in_bytes-has a FRAME_SIZE k l) in
        same.bytes (wrapped (a + k)) (grind arith)

-- controls of a return go by fp where the record is read
controls-same : (hides : Bool) (s : State) (regs bytes reading : ℕ → ℕ) → AreOther hides s regs bytes reading → AreShown hides s (record_registers s) → controls_hazard s.frames (return_type (s.regs PFP)) (s.regs FP) ≡ None
    → (returned_pc (with_other s.memory bytes) (return_type (s.regs PFP)) (regs FP) s.pc ≡ returned_pc s.memory (return_type (s.regs PFP)) (s.regs FP) s.pc)
    × (returned_ac (with_other s.memory bytes) (return_type (s.regs PFP)) (regs FP) s.ac ≡ returned_ac s.memory (return_type (s.regs PFP)) (s.regs FP) s.ac)
controls-same hides s regs bytes reading same shown none =
    grind (arith, hard-bytes, shows-first, saved_pc_same, saved_ac_same)

-- what a return does, by what it reads
abbrev restoring : State → ℕ → ℕ → List ℕ → List ℕ → ℕ → ℕ → Action
restoring s frame back words marked pc ac = record (going s (aligned back)) {
  sets = frame_sets words frame;
  marked = marked;
  move = Returns;
  pc = pc;
  ac = ac;
  check = return_type (s.regs PFP) == INTERRUPT_RETURN;
}

restoring-parts : (s : State) (frame back back2 : ℕ) (words marked : List ℕ) (pc pc2 ac ac2 : ℕ) → back2 ≡ back → pc2 ≡ pc → ac2 ≡ ac → restoring s frame back2 words marked pc2 ac2 ≡ restoring s frame back words marked pc ac
restoring-parts s frame back back2 words marked pc pc2 ac ac2 h i j = rw (h, i, j) refl

pub ret-agree : (hides : Bool) (s : State) (regs bytes reading : ℕ → ℕ) → AreOther hides s regs bytes reading → ((x : ℕ) → in_returns s.frames.live x ≡ true → s.frames.marked x ≡ false)
    → AreShown hides s (PFP ∷ record_registers s) → ret_hazard s.frames (s.regs PFP) (s.regs FP) ≡ None → AreActionsAlike hides (ret_action s) (ret_action (with_values s regs bytes reading))
unfolding popped ret_hazard
ret-agree hides s regs bytes reading same known shown none =
    let t = with_values s regs bytes reading in
    let f = s.frames in
    let kind = return_type (s.regs PFP) in
    let a = rounded_down (s.regs PFP) in
    let pfp : regs PFP ≡ s.regs PFP = same.regs PFP (shows-first hides (s.marks PFP) (is_marked s (record_registers s)) shown) in
    let later = shows-second hides (s.marks PFP) (is_marked s (record_registers s)) shown in
    let controls = first_none (controls_hazard f kind (s.regs FP)) (return_hazard f a) none in
    let frame = first_none (frame_hazard f.live f a) (port_hazard a FRAME_SIZE) (second_none (controls_hazard f kind (s.regs FP)) (return_hazard f a) none) in
    let read = frame-read hides s regs bytes reading f.live a refl same known frame in
    let returned = controls-same hides s regs bytes reading same later controls in
    let bs = word_marks (left_stale f.live f) a LOCALS in
    let marked = picked (λ r. r) 0 bs in
    let vs = words_in (left_memory f.live s) a LOCALS in
    let ws = words_in (left_memory f.live t) a LOCALS in
    let back = word_in (left_memory f.live s) (return_place a) in
    let pc = returned_pc s.memory kind (s.regs FP) s.pc in
    let ac = returned_ac s.memory kind (s.regs FP) s.ac in
    let values : AreValuesAlike hides bs vs ws =
    values-mapped hides (λ k. word_mark (left_stale f.live f) (wrapped (a + 4 * k))) (λ k. word_in (left_memory f.live s) (wrapped (a + 4 * k))) (λ k. word_in (left_memory f.live t) (wrapped (a + 4 * k))) 0 LOCALS (λ k l h. read.0 k l h) in
    let here : AreActionsAlike hides (restoring s a back vs marked pc ac) (restoring s a back ws marked pc ac) = record {
      rest = refl;
      sets = writes-append hides marked (pairs_at (λ r. r) 0 vs) (pairs_at (λ r. r) 0 ws) ((FP, a) ∷ []) ((FP, a) ∷ []) (writes-picked hides (λ r. r) 0 bs vs ws values) (writes-same hides marked ((FP, a) ∷ []));
      writes = tt;
      move = refl;
    } in
    let all : ret_action t ≡ restoring s a back ws marked pc ac =
    ap (λ (p : ℕ). restoring (record s { regs = λ r. cond (r == PFP) p (s.regs r) }) (rounded_down p) (word_in (left_memory f.live t) (return_place (rounded_down p))) (words_in (left_memory f.live t) (rounded_down p) LOCALS)
    (picked (λ r. r) 0 (word_marks (left_stale f.live f) (rounded_down p) LOCALS)) (returned_pc (with_other s.memory bytes) (return_type p) (regs FP) s.pc) (returned_ac (with_other s.memory bytes) (return_type p) (regs FP) s.ac)) pfp
    ∙ restoring-parts s a back _ ws marked pc _ ac _ (read.0 2 (omega arith) read.1) returned.0 returned.1 in
    rw all here

-- ---- system control

message-agree : (hides : Bool) (m : Message) (i : Inst) (s : State) (regs bytes reading : ℕ → ℕ) → AreOther hides s regs bytes reading → AreShown hides s (registers_of i.a 1)
    → (m ≡ AsksRestart → AreShown hides s (registers_of i.b 1 ++ registers_of i.c 1)) → hazard_in s (message_access m i s) ≡ None
    → AreActionsAlike hides (message_action m i s) (message_action m i (with_values s regs bytes reading))
message-agree hides AsksNothing i s regs bytes reading same shown more none = alike-same hides (passing i s) refl
message-agree hides AsksCheck i s regs bytes reading same shown more none = alike-same hides (message_action AsksCheck i s) refl
message-agree hides AsksInterrupt i s regs bytes reading same shown more none =
    let t = with_values s regs bytes reading in
    alike-by hides (message_action AsksInterrupt i s) (message_action AsksInterrupt i t) refl
    (rw (value-same hides s regs bytes reading i.a same.regs shown, request_same s.frames s.memory bytes s.tables.interrupt_table (argument_of i s) (hard-bytes hides s regs bytes reading same) none) refl)
message-agree hides AsksRestart i s regs bytes reading same shown more none =
    grind (arith, shown-first, shown-second, alike-by, value-same)
message-agree hides AsksGroup i s regs bytes reading same shown more none =
    alike-by hides (message_action AsksGroup i s) (message_action AsksGroup i (with_values s regs bytes reading)) refl (rw (value-same hides s regs bytes reading i.a same.regs shown) refl)

-- message 3 takes two further registers
pub restart-shown : (hides : Bool) (s : State) (n v : ℕ) (rs : List ℕ) → AreShown hides s (cond (n == 3) rs []) → message_kind n v ≡ AsksRestart → AreShown hides s rs
restart-shown hides s n v rs h e = grind arith

sysctl-agree : (hides : Bool) (i : Inst) (s : State) (regs bytes reading : ℕ → ℕ) → AreOther hides s regs bytes reading → AreShown hides s (registers_of i.a 1 ++ restart_registers i s)
    → hazard_in s (message_access (asked_message i s) i s) ≡ None
    → AreActionsAlike hides (message_action (asked_message i s) i s) (message_action (asked_message i (with_values s regs bytes reading)) i (with_values s regs bytes reading))
sysctl-agree hides i s regs bytes reading same shown none =
    let t = with_values s regs bytes reading in
    let first = shown-first hides s (registers_of i.a 1) (restart_registers i s) shown in
    let second = shown-second hides s (registers_of i.a 1) (restart_registers i s) shown in
    rw (value-same hides s regs bytes reading i.a same.regs first)
    (message-agree hides (asked_message i s) i s regs bytes reading same first (restart-shown hides s (message_of i s) (argument_of i s) (registers_of i.b 1 ++ registers_of i.c 1) second) none)

-- ---- every name

-- an instruction with another name
abbrev pub named : Op → Inst → Inst
named op i = record i { op = op }

-- what marks ask of it
pub record IsAllowedOf (op : Op) (i : Inst) (s : State) : Type 0 where
  pub deciding : is_marked s (deciding op (named op i) s) ≡ false
  pub special : (is_special i.c && list_any (λ b. b) (marks_by_name op (named op i) s)) ≡ false

-- groups are moved word by word
words-agree : (hides : Bool) (i : Inst) (s : State) (regs bytes reading : ℕ → ℕ) (n : ℕ) → AgreeBeside hides s regs → IsAllowed i.c (marks_of s i.a n)
    → let moving = λ (u : State). marking i.c (marks_of s i.a n) (assigning i.c (source_words u i.a n) (passing i s)) in AreActionsAlike hides (moving s) (moving (with_values s regs bytes reading))
words-agree hides i s regs bytes reading n same allowed =
    assigning-alike hides i.c (marks_of s i.a n) (source_words s i.a n) (source_words (with_values s regs bytes reading) i.a n) (passing i s) allowed
    (values-mapped hides (mark_of s i.a) (word_of s i.a) (word_of (with_values s regs bytes reading) i.a) 0 n (λ k l h. word-same hides s regs bytes reading i.a k same h)) refl

pub name-agree : (hides : Bool) (op : Op) (i : Inst) (s : State) (regs bytes reading : ℕ → ℕ) → AreOther hides s regs bytes reading → ((x : ℕ) → in_returns s.frames.live x ≡ true → s.frames.marked x ≡ false)
    → IsAllowedOf op i s → hazard_in s (access_by_name op (named op i) s) ≡ None → AreActionsAlike hides (action_by_name op (named op i) s) (action_by_name op (named op i) (with_values s regs bytes reading))
name-agree hides Lda i s regs bytes reading same known may none =
    let t = with_values s regs bytes reading in
    assigning-alike hides i.c (is_marked s (address_registers i.ea) ∷ []) (address s i.ea ∷ []) (address t i.ea ∷ []) (passing (named Lda i) s) may.special ((λ h. address-same hides s regs bytes reading i.ea same.regs h), tt) refl
name-agree hides Atadd i s regs bytes reading same known may none =
    let t = with_values s regs bytes reading in
    atomic-agree hides (named Atadd i) s regs bytes reading (mark_of s i.b 0) (λ old. wrapped (old + value s i.b)) (λ old. wrapped (old + value t i.b)) same (shows-none hides _ may.deciding) may.special
    (λ h old. ap (λ (v : ℕ). wrapped (old + v)) (word-same hides s regs bytes reading i.b 0 same.regs h))
name-agree hides Atmod i s regs bytes reading same known may none =
    let t = with_values s regs bytes reading in
    atomic-agree hides (named Atmod i) s regs bytes reading (mark_of s i.b 0 || mark_of s i.c 0) (λ old. merged old (value s i.b) (value s i.c)) (λ old. merged old (value t i.b) (value t i.c)) same (shows-none hides _ may.deciding) may.special
    (λ h old. ap (λ (v : ℕ). merged old v (value t i.c)) (word-same hides s regs bytes reading i.b 0 same.regs (shows-first hides (mark_of s i.b 0) (mark_of s i.c 0) h))
    ∙ ap (λ (v : ℕ). merged old (value s i.b) v) (word-same hides s regs bytes reading i.c 0 same.regs (shows-second hides (mark_of s i.b 0) (mark_of s i.c 0) h)))
name-agree hides Bx i s regs bytes reading same known may none =
    alike-by hides (jumping (named Bx i) s (address s i.ea)) _ refl (ap (λ (a : ℕ). going s (aligned a)) (address-same hides s regs bytes reading i.ea same.regs (shows-none hides _ may.deciding)))
name-agree hides Balx i s regs bytes reading same known may none =
    alike-by hides (linking i.c (named Balx i) s (address s i.ea)) _ refl (ap (λ (a : ℕ). linking i.c (named Balx i) s a) (address-same hides s regs bytes reading i.ea same.regs (shows-none hides _ may.deciding)))
name-agree hides Bal i s regs bytes reading same known may none = alike-same hides (action_by_name Bal (named Bal i) s) refl
name-agree hides Call i s regs bytes reading same known may none = call-agree hides (named Call i) s regs bytes reading (target (named Call i) s) (target (named Call i) s) same.regs none refl
name-agree hides Callx i s regs bytes reading same known may none =
    call-agree hides (named Callx i) s regs bytes reading (address s i.ea) _ same.regs none (address-same hides s regs bytes reading i.ea same.regs (shows-none hides _ may.deciding))
name-agree hides Calls i s regs bytes reading same known may none =
    calls-agree hides (named Calls i) s regs bytes reading same (shown-first hides s (registers_of i.a 1) (registers_of i.b 0 ++ registers_of i.c 0) (shows-none hides _ may.deciding)) none
name-agree hides Ret i s regs bytes reading same known may none = ret-agree hides s regs bytes reading same known (shows-none hides _ may.deciding) none
name-agree hides Flushreg i s regs bytes reading same known may none = alike-same hides (action_by_name Flushreg (named Flushreg i) s) refl
name-agree hides Modac i s regs bytes reading same known may none =
    let all = shown-three hides s (registers_of i.a 1) (registers_of i.b 1) (registers_of i.c 0) (shows-none hides _ may.deciding) in
    alike-by hides (modac_action (named Modac i) s) (modac_action (named Modac i) (with_values s regs bytes reading)) refl (rw (value-same hides s regs bytes reading i.a same.regs all.0, value-same hides s regs bytes reading i.b same.regs all.1) refl)
name-agree hides Modtc i s regs bytes reading same known may none =
    let all = shown-three hides s (registers_of i.a 1) (registers_of i.b 1) (registers_of i.c 0) (shows-none hides _ may.deciding) in
    alike-by hides (modtc_action (named Modtc i) s) (modtc_action (named Modtc i) (with_values s regs bytes reading)) refl (rw (value-same hides s regs bytes reading i.a same.regs all.0, value-same hides s regs bytes reading i.b same.regs all.1) refl)
name-agree hides Modpc i s regs bytes reading same known may none =
    let all : AreShown hides s (registers_of i.b 1 ++ registers_of i.c 1) = shows-none hides _ may.deciding in
    alike-by hides (modpc_action (named Modpc i) s) (modpc_action (named Modpc i) (with_values s regs bytes reading)) refl
    (rw (value-same hides s regs bytes reading i.b same.regs (shown-first hides s (registers_of i.b 1) (registers_of i.c 1) all), value-same hides s regs bytes reading i.c same.regs (shown-second hides s (registers_of i.b 1) (registers_of i.c 1) all)) refl)
name-agree hides Sdma i s regs bytes reading same known may none =
    let all = shown-three hides s (registers_of i.a 1) (registers_of i.b 1) (registers_of i.c 3) (shows-none hides _ may.deciding) in
    let c : (k : ℕ) → k < 3 → word_of (with_values s regs bytes reading) i.c k ≡ word_of s i.c k = λ k l. operand-same hides s regs bytes reading i.c 3 k same.regs all.2 l in
    alike-by hides (sdma_action (named Sdma i) s) (sdma_action (named Sdma i) (with_values s regs bytes reading)) refl
    (rw (value-same hides s regs bytes reading i.a same.regs all.0, value-same hides s regs bytes reading i.b same.regs all.1, c 0 (omega arith), c 1 (omega arith), c 2 (omega arith)) refl)
name-agree hides Sysctl i s regs bytes reading same known may none = sysctl-agree hides (named Sysctl i) s regs bytes reading same (shows-none hides _ may.deciding) none
name-agree hides Mov i s regs bytes reading same known may none = words-agree hides (named Mov i) s regs bytes reading 1 same.regs may.special
name-agree hides Movl i s regs bytes reading same known may none = words-agree hides (named Movl i) s regs bytes reading 2 same.regs may.special
name-agree hides Movt i s regs bytes reading same known may none = words-agree hides (named Movt i) s regs bytes reading 3 same.regs may.special
name-agree hides Movq i s regs bytes reading same known may none = words-agree hides (named Movq i) s regs bytes reading 4 same.regs may.special
name-agree hides op i s regs bytes reading same known may none = other-agree hides (named op i) s regs bytes reading same.regs refl refl may.deciding may.special

pub action-agree : (hides : Bool) (i : Inst) (s : State) (regs bytes reading : ℕ → ℕ) → AreOther hides s regs bytes reading → ((x : ℕ) → in_returns s.frames.live x ≡ true → s.frames.marked x ≡ false)
    → is_marked s (deciding_by (transfer_of i.op) i s) ≡ false → (is_special i.c && list_any (λ b. b) (marks_by (transfer_of i.op) i s)) ≡ false → hazard_of i s ≡ None
    → AreActionsAlike hides (action_of i s) (action_of i (with_values s regs bytes reading))
unfolding hazard_of action_of
action-agree hides i s regs bytes reading same known may special none = by_transfer (transfer_of i.op) may special none
  where
    by_transfer : (o : Option Transfer) → is_marked s (deciding_by o i s) ≡ false → (is_special i.c && list_any (λ b. b) (marks_by o i s)) ≡ false → hazard_in s (access_by o i s) ≡ None
        → AreActionsAlike hides (action_by o i s) (action_by o i (with_values s regs bytes reading))
    by_transfer (Some t) m x e = moving-agree hides t.direction t.size t.signed i s regs bytes reading same (shows-none hides _ m) x
    by_transfer None m x e = name-agree hides i.op i s regs bytes reading same known (record { deciding = m; special = x }) e
