-- A return undoes the call whose frame is the first live one.
use Rattle.std.proofs.Common.{◌≡◌, ◌≢◌, ℕ, ◌+◌, ◌%◌, ◌<◌, ◌≤◌, Bool, true, false, cond, List, [], ◌∷◌, ◌++◌, get_or, Option, Some, None, refl, sym, ap, ◌∙◌, subst, arith, bit_and}
use Rattle.std.specs.Prelude.{IsTrue, ◌==◌, ◌&&◌, not}
use Rattle.std.proofs.lemmas.Bool.{ne_eqb, eqb-true}
use Rattle.std.proofs.lemmas.List.FromFn.{get_or-map-range_with_len}
use Rattle.i9_laws.proofs.Undoing.{either, left_controls}
use Rattle.i9_isa.specs.declared.op.Op.{Op}
use Rattle.i9_isa.specs.declared.op.Op.TheVariants.{Calls, Ret}
use Rattle.i9_isa.specs.declared.inst.Inst.{Inst}
use Rattle.i9_isa.specs.Transfers.{transfer_of}
use Rattle.i9_isa.specs.Words.{words_of}
use Rattle.i9_model.specs.declared.layout.TheConstants.{LOCALS, FRAME_SIZE, PFP, RIP, FP, PC_MASK, AC_MASK}
use Rattle.i9_model.specs.declared.event.Event.{Event}
use Rattle.i9_model.specs.Writes.{wrapped, aligned, written}
use Rattle.i9_model.specs.Memory.{Memory, word_in, words_in}
use Rattle.i9_model.specs.Stale.{left_memory}
use Rattle.i9_model.specs.State.{State, Frames, frame_sets}
use Rattle.i9_model.specs.Frames.{rounded_down}
use Rattle.i9_model.specs.Hazards.{port_hazard, frame_hazard, return_hazard}
use Rattle.i9_model.specs.Access.{access_by_name, access_by, hazard_in, hazard_of}
use Rattle.i9_model.specs.Calls.{in_supervisor_mode, trace_enable, without_supervisor, call_type, return_type, saved_pc, controls_hazard, returned_pc, returned_ac, ret_hazard, popped}
use Rattle.i9_model.specs.Step.{Move, Action, saved_local, saved_locals, system_call, ret_action, action_by_name, action_by, action_of, moved, flagged, acted, counted}
use Rattle.i9_model.specs.declared.trace.Trace.{Trace}
use Rattle.i9_model.specs.Traced.{traced_action}
use Rattle.i9_model.specs.ScheduleText.{IsPlan}
use Rattle.i9_model.specs.HeldFrames.{frame_at}
use Rattle.i9_model.specs.declared.run.Due.{Due}
use Rattle.i9_model.specs.Run.{Given, Record, Kind, Instruction, Entered, Interrupted, action_by_kind, action_done, after_kind, record_of, due_after, event_after, state_after, IsPast}
use Rattle.i9_model.proofs.CallLaws.{first_none, second_none}
use Rattle.i9_model.proofs.ControlLaws.{flagged-others}
use Rattle.i9_past.proofs.Comes.{MayCome, next_comes}
use Rattle.i9_laws.specs.Kept.{HasBytes}
use Rattle.i9_laws.specs.LiveFrames.{live_moved, live_after, addresses_of, AreSaved}
use Rattle.i9_laws.specs.Undone.{is_call, is_entry, is_return_name, is_return, return_address, pc_by_name, pc_of_record, pc_back, ac_of_record, ac_back, LeavesRecord, GivesRegisters, GivesControls, HasControls, GivesOldControls}
use Rattle.i9_laws.proofs.KeptBits.{IsKept, following_even, kept_after}
use Rattle.i9_laws.proofs.LiveFrames.{live_addresses, live_saved}
use Rattle.i9_laws.proofs.FrameRegisters.{frame_local, frame_pointer, frame_others}
use Rattle.i9_laws.proofs.Pushes.{type_by_name, type_of, Pushes, kind_pushes, pushed_pfp}
use Rattle.i9_laws.proofs.RecordWords.{entry_writes_controls}

-- ---- registers after a return

-- the state t after a return in the state u to the locals that were saved in the state s
record GivesLocals (s u t : State) (back : ℕ) : Type 0 where
  locals : (r : ℕ) → r < LOCALS → t.regs r ≡ saved_local s back r
  fp : t.regs FP ≡ rounded_down (s.regs FP)
  globals : (r : ℕ) → LOCALS ≤ r → r ≢ FP → t.regs r ≡ u.regs r
  ip : t.ip ≡ aligned back

-- the flags of trace events are in no register
locals_flagged : (o : Option Trace) (s u t : State) (back : ℕ) → GivesLocals s u t back → GivesLocals s u (flagged o t) back
locals_flagged None s u t back l = l
locals_flagged (Some x) s u t back l = record { locals = l.locals; fp = l.fp; globals = l.globals; ip = l.ip }

gives_locals : (s u : State) (back : ℕ) (rest : List ℕ) → u.frames.live ≡ rounded_down (s.regs FP) ∷ rest
    → rounded_down (u.regs PFP) ≡ rounded_down (s.regs FP)
    → words_in u.memory (rounded_down (s.regs FP)) LOCALS ≡ saved_locals s back
    → GivesLocals s u (acted u (ret_action u)) back
unfolding acted moved popped
gives_locals s u back rest live frame stands = record {
  locals = λ r h.
      ap (λ (f : ℕ → ℕ). f r) regs
      ∙ frame_local u.regs (saved_locals s back) save r refl h
      ∙ get_or-map-range_with_len (saved_local s back) 0 LOCALS r r 0 h (omega arith);
  fp = ap (λ (f : ℕ → ℕ). f FP) regs ∙ frame_pointer u.regs (saved_locals s back) save;
  globals = λ r h other. ap (λ (f : ℕ → ℕ). f r) regs ∙ frame_others u.regs (saved_locals s back) save r refl h other;
  ip = ap (λ (a : ℕ). aligned (word_in left (wrapped (a + 8)))) frame ∙ ap (λ (ws : List ℕ). aligned (get_or ws 2 0)) words;
}
  where
    save : ℕ
    save = rounded_down (s.regs FP)

    -- what was stored is read, as a frame is live
    left : Memory
    left = left_memory u.frames.live u

    words : words_in left save LOCALS ≡ saved_locals s back
    words = ap (λ (l : List ℕ). words_in (left_memory l u) save LOCALS) live ∙ stands

    from_frame : ℕ → ℕ → ℕ
    from_frame a = written u.regs (frame_sets (words_in left a LOCALS) a)

    regs : from_frame (rounded_down (u.regs PFP)) ≡ written u.regs (frame_sets (saved_locals s back) save)
    regs = ap from_frame frame ∙ ap (λ (ws : List ℕ). written u.regs (frame_sets ws save)) words

-- a return that meets no hazard is to the first live frame
first_live : (f : Frames) (pfp fp save : ℕ) (rest : List ℕ) → f.live ≡ save ∷ rest → ret_hazard f pfp fp ≡ None → rounded_down pfp ≡ save
unfolding ret_hazard
first_live f pfp fp save rest live none =
    let a = rounded_down pfp in
    let last = second_none (controls_hazard f (return_type pfp) fp) (return_hazard f a) none in
    let free = first_none (frame_hazard f.live f a) (port_hazard a FRAME_SIZE) last in
    by_test a (a == save) refl (subst (λ (l : List ℕ). frame_hazard l f a ≡ None) live free)
  where
    by_test : (a : ℕ) (b : Bool) → (a == save) ≡ b → cond b None (Some a) ≡ None → a ≡ save
    by_test a true e h = eqb-true a save e
    by_test a false e h = absurd cc

-- ---- the controls

-- the controls after a return of a type in the state u
abbrev Leaves : State → ℕ → ℕ → ℕ → Type 0
Leaves u kind pc ac =
    (returned_pc u.memory kind (u.regs FP) u.pc ≡ pc) × (returned_ac u.memory kind (u.regs FP) u.ac ≡ ac)

system_controls : (switched : Bool) (s u : State)
    → Leaves u (call_type s.pc switched) (cond (switched && in_supervisor_mode u.pc) (without_supervisor u.pc (trace_enable s.pc)) u.pc) u.ac
system_controls true s u = left_controls u.pc _ u.ac _ (s.pc % 2) (in_supervisor_mode u.pc) (omega arith)
system_controls false s u = (either (not (in_supervisor_mode u.pc)) u.pc, refl)

name_controls : (op : Op) (i : Inst) (s u : State) → Leaves u (type_by_name op i s) (pc_by_name op i s u) u.ac
name_controls Calls i s u = system_controls (system_call i s).switched s u
name_controls _ i s u = (either (not (in_supervisor_mode u.pc)) u.pc, refl)

record_pc : (b : Bool) (pc w : ℕ) → cond (not b) pc w ≡ cond b w pc
record_pc b pc w = grind arith

kind_controls : (k : Kind) (s u : State) → IsTrue (is_call k) → Leaves u (type_of k s) (pc_back k s u) (ac_back k u)
kind_controls (Instruction i) s u h = name_controls i.op i s u
kind_controls (Entered e) s u h = (record_pc (in_supervisor_mode u.pc) u.pc _, refl)
kind_controls (Interrupted c e) s u h = (record_pc (in_supervisor_mode u.pc) u.pc _, refl)
kind_controls _ s u h = absurd cc

controls_back : (k : Kind) (s u : State) → IsTrue (is_call k) → u.regs PFP ≡ rounded_down (s.regs FP) + type_of k s → type_of k s < 8
    → ((acted u (ret_action u)).pc ≡ pc_back k s u) × ((acted u (ret_action u)).ac ≡ ac_back k u)
unfolding acted moved popped
controls_back k s u h pfp small =
    let type : return_type (u.regs PFP) ≡ type_of k s = omega (arith, pfp, small) in
    subst (λ (n : ℕ). Leaves u n (pc_back k s u) (ac_back k u)) (sym type) (kind_controls k s u h)

-- ---- a return

is_ret : (op : Op) → IsTrue (is_return_name op) → op ≡ Ret
is_ret Ret h = refl
is_ret _ h = absurd cc

-- its record, in a state
abbrev return_record : Kind → State → Record
return_record k u = record { kind = k; before = u; after = counted 1 (flagged (action_by_kind k u).trace (acted u (ret_action u))) }

-- it does what ret does, with its trace events
return_after : (k : Kind) (u : State) → IsTrue (is_return k) → after_kind k u ≡ (return_record k u).after
unfolding action_of acted moved
return_after (Instruction i) u h =
    let e = is_ret i.op h in
    ap (λ (a : Action). counted 1 (acted u (record a { trace = (traced_action i u).trace })))
    (ap (λ (o : Op). action_by (transfer_of o) i u) e ∙ ap (λ (o : Op). action_by_name o i u) e)
return_after _ u h = absurd cc

-- it meets no hazard
return_free : (limit : ℕ) (due : Due) (stands : Option Event) (k : Kind) (u : State) → IsTrue (is_return k)
    → MayCome limit due stands u k
    → ret_hazard u.frames (u.regs PFP) (u.regs FP) ≡ None
unfolding hazard_of
return_free limit due stands (Instruction i) u h may =
    let e = is_ret i.op h in
    subst (λ (o : Op). hazard_in u (access_by_name o i u) ≡ None) e
    (subst (λ (o : Op). hazard_in u (access_by (transfer_of o) i u) ≡ None) e may.2)
return_free limit due stands _ u h may = absurd cc

-- no call returns to an address with low bits
address_even : (k : Kind) (s : State) → IsKept s → return_address k s % 4 ≡ 0
address_even (Instruction i) s h = following_even s (words_of i) h
address_even _ s h = h.ip

-- ---- a run

-- the older records of a run begin one too
past_before : (g : Given) (qs rs : List Record) → IsPast g (qs ++ rs) → IsPast g rs
past_before g [] rs past = past
past_before g (q ∷ qs) rs past = past_before g qs rs past.0

-- what stands in the past before a return from a call: the call, from the state before it, and the return, from the state u
record IsBack (s u : State) (call back : Record) : Type 0 where
  call_is : call ≡ record_of call.kind s
  pushes : Pushes s (action_by_kind call.kind s) (return_address call.kind s) (type_of call.kind s)
  kept : IsKept s
  back_is : back ≡ return_record back.kind u
  free : ret_hazard u.frames (u.regs PFP) (u.regs FP) ≡ None

is_back : (g : Given) (rs between : List Record) (call back : Record) → IsPast g (back ∷ between ++ call ∷ rs)
    → IsTrue (is_call call.kind) → IsTrue (is_return back.kind)
    → IsBack (state_after g rs) (state_after g (between ++ call ∷ rs)) call back
is_back g rs between call back past is_called is_returned =
    let s = state_after g rs in
    let all = between ++ call ∷ rs in
    let u = state_after g all in
    let before = past_before g between (call ∷ rs) past.0 in
    let c = next_comes g.length (due_after rs) (event_after g rs) s call before.1 in
    let b = next_comes g.length (due_after all) (event_after g all) u back past.1 in
    record {
      call_is = c.0;
      pushes = kind_pushes g.length (due_after rs) (event_after g rs) call.kind s c.1 is_called;
      kept = kept_after g rs before.0;
      back_is = b.0 ∙ ap (λ (t : State). record { kind = back.kind; before = u; after = t }) (return_after back.kind u is_returned);
      free = return_free g.length (due_after all) (event_after g all) back.kind u is_returned b.1;
    }

pub registers_back : (g : Given) (rs between : List Record) (call back : Record) → HasBytes g.image → IsPlan g.plan
    → IsPast g (back ∷ between ++ call ∷ rs) → IsTrue (is_call call.kind) → IsTrue (is_return back.kind)
    → live_after (between ++ call ∷ rs) ≡ live_after (call ∷ rs) → GivesRegisters call back
registers_back g rs between call back image plan past is_called is_returned live =
    let s = state_after g rs in
    let all = between ++ call ∷ rs in
    let u = state_after g all in
    let save = rounded_down (s.regs FP) in
    let address = return_address call.kind s in
    let i = is_back g rs between call back past is_called is_returned in
    let frames : live_after all ≡ frame_at save (saved_locals s address) ∷ live_after rs =
    live
    ∙ ap (λ (q : Record). live_moved (action_done q).move (live_after rs)) i.call_is
    ∙ ap (λ (v : Move). live_moved v (live_after rs)) i.pushes.move in
    let saved = subst (AreSaved u.memory) frames (live_saved g all image plan past.0) in
    let addresses : u.frames.live ≡ save ∷ addresses_of (live_after rs) = live_addresses g all past.0 ∙ ap addresses_of frames in
    let first = first_live u.frames (u.regs PFP) (u.regs FP) save (addresses_of (live_after rs)) addresses i.free in
    let l = locals_flagged (action_by_kind back.kind u).trace s u (acted u (ret_action u)) address (gives_locals s u address (addresses_of (live_after rs)) addresses first saved.0) in
    let even = address_even call.kind s i.kept in
    let here : GivesRegisters (record_of call.kind s) (return_record back.kind u) = record {
      locals = λ r h other. l.locals r h ∙ ap (λ (c : Bool). cond c address (s.regs r)) (ne_eqb r RIP other);
      rip = l.locals RIP (omega arith);
      fp = l.fp;
      globals = l.globals;
      ip = l.ip ∙ omega (arith, even);
    } in
    subst (λ (q : Record). GivesRegisters q back) (sym i.call_is) (subst (GivesRegisters (record_of call.kind s)) (sym i.back_is) here)

pub control_back : (g : Given) (rs between : List Record) (call back : Record) → IsPast g (back ∷ between ++ call ∷ rs)
    → IsTrue (is_call call.kind) → IsTrue (is_return back.kind) → back.before.regs PFP ≡ call.after.regs PFP → GivesControls call back
control_back g rs between call back past is_called is_returned pfp =
    let s = state_after g rs in
    let u = state_after g (between ++ call ∷ rs) in
    let i = is_back g rs between call back past is_called is_returned in
    let named : u.regs PFP ≡ rounded_down (s.regs FP) + type_of call.kind s =
    sym (ap (λ (q : Record). q.before.regs PFP) i.back_is)
    ∙ pfp
    ∙ ap (λ (q : Record). q.after.regs PFP) i.call_is
    ∙ pushed_pfp s _ _ _ i.pushes in
    let both = controls_back call.kind s u is_called named i.pushes.small in
    let flags = flagged-others (action_by_kind back.kind u).trace (acted u (ret_action u)) in
    let here : GivesControls (record_of call.kind s) (return_record back.kind u) =
    record { pc = ap (λ (x : State). x.pc) flags ∙ both.0; ac = ap (λ (x : State). x.ac) flags ∙ both.1 } in
    subst (λ (q : Record). GivesControls q back) (sym i.call_is) (subst (GivesControls (record_of call.kind s)) (sym i.back_is) here)

-- a return right after a call finds what the call left
pub at_once : (g : Given) (rs : List Record) (call back : Record) → HasBytes g.image → IsPlan g.plan → IsPast g (back ∷ call ∷ rs)
    → IsTrue (is_call call.kind) → IsTrue (is_return back.kind) → GivesRegisters call back × GivesControls call back
at_once g rs call back image plan past is_called is_returned =
    let b = next_comes g.length (due_after (call ∷ rs)) (event_after g (call ∷ rs)) call.after back past.1 in (
      registers_back g rs [] call back image plan past is_called is_returned refl,
      control_back g rs [] call back past is_called is_returned (ap (λ (q : Record). q.before.regs PFP) b.0),
    )

-- ---- the entry of a fault or of an interrupt

-- it is a call, and its return takes the controls of a record
entry_cases : (k : Kind) (s u : State) → IsTrue (is_entry k)
    → IsTrue (is_call k) × (pc_back k s u ≡ pc_of_record u) × (ac_back k u ≡ ac_of_record u)
entry_cases (Entered e) s u h = (h, refl, refl)
entry_cases (Interrupted c e) s u h = (h, refl, refl)
entry_cases _ s u h = absurd cc

pub entry_back : (g : Given) (rs between : List Record) (call back : Record) → IsPast g (back ∷ between ++ call ∷ rs)
    → IsTrue (is_entry call.kind) → IsTrue (is_return back.kind) → back.before.regs PFP ≡ call.after.regs PFP
    → HasControls call.before back.before → GivesOldControls call back
entry_back g rs between call back past is_entered is_returned pfp stands =
    let u = back.before in
    let before = past_before g between (call ∷ rs) past.0 in
    let was = ap (λ (q : Record). q.before) (next_comes g.length (due_after rs) (event_after g rs) (state_after g rs) call before.1).0 in
    let kept = subst IsKept (sym was) (kept_after g rs before.0) in
    let entry = entry_cases call.kind call.before u is_entered in
    let controls = control_back g rs between call back past entry.0 is_returned pfp in
    record {
      pc = λ mode.
          controls.pc
          ∙ entry.1
          ∙ ap (λ (b : Bool). cond b (bit_and (saved_pc u.memory (u.regs FP)) PC_MASK) u.pc) mode
          ∙ ap (λ (w : ℕ). bit_and w PC_MASK) stands.pc
          ∙ kept.pc;
      ac = controls.ac ∙ entry.2 ∙ ap (λ (w : ℕ). bit_and w AC_MASK) stands.ac ∙ kept.ac;
    }

-- a return right after such an entry finds the record as the entry left it
pub entry_at_once : (g : Given) (rs : List Record) (call back : Record) → IsPast g (back ∷ call ∷ rs)
    → IsTrue (is_entry call.kind) → LeavesRecord call.kind call.before → IsTrue (is_return back.kind) → GivesOldControls call back
entry_at_once g rs call back past is_entered left is_returned =
    let s = state_after g rs in
    let c = next_comes g.length (due_after rs) (event_after g rs) s call past.0.1 in
    let b = next_comes g.length (due_after (call ∷ rs)) (event_after g (call ∷ rs)) call.after back past.1 in
    let found : back.before ≡ call.after = ap (λ (q : Record). q.before) b.0 in
    let beside = subst (LeavesRecord call.kind) (ap (λ (q : Record). q.before) c.0) left in
    let kept = kept_after g rs past.0.0 in
    let wrote = entry_writes_controls g.length (due_after rs) (event_after g rs) call.kind s kept c.1 is_entered beside in
    let here : HasControls (record_of call.kind s).before (record_of call.kind s).after = record { pc = wrote.pc; ac = wrote.ac } in
    let after = subst (λ (q : Record). HasControls q.before q.after) (sym c.0) here in
    let stands = subst (HasControls call.before) (sym found) after in
    entry_back g rs [] call back past is_entered is_returned (ap (λ (t : State). t.regs PFP) found) stands
