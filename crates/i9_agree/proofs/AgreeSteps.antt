-- What comes next in states that agree is alike, and states stay in agreement.
use Rattle.std.proofs.Common.{◌≡◌, inl, inr, ℕ, ◌+◌, ◌*◌, ◌≤◌, Bool, true, false, cond, eqb, ◌&&◌, ◌||◌, nat_le, List, [], ◌∷◌, ◌++◌, Option, Some, None, Result, Ok, Err, refl, sym, ap, ◌∙◌, subst, arith, zero, suc, ◌<◌, length}
use Rattle.std.specs.Prelude.{map, ◌==◌}
use Rattle.std.specs.List.{range_with_len, list_any}
use Rattle.i9_isa.specs.declared.op.Op.{Op}
use Rattle.i9_isa.specs.declared.op.Op.TheVariants.{Sysctl, Atadd, Atmod}
use Rattle.i9_isa.specs.declared.size.Size.{Size}
use Rattle.i9_isa.specs.declared.size.Direction.{Direction}
use Rattle.i9_isa.specs.declared.size.Direction.TheVariants.{Load, Store}
use Rattle.i9_isa.specs.declared.size.Transfer.{Transfer}
use Rattle.i9_isa.specs.Transfers.{transfer_of, byte_count, register_count}
use Rattle.i9_isa.specs.Words.{words_of}
use Rattle.i9_isa.specs.declared.inst.Inst.{Inst}
use Rattle.i9_model.specs.declared.layout.TheConstants.{PRCB_SIZE, CONTROL_TABLE_SIZE, CONTROL_GROUP_SIZE, FRAME_SIZE, FP, SP, CONSOLE}
use Rattle.i9_model.specs.declared.setup.TheConstants.{CONTROL_WORDS}
use Rattle.i9_model.specs.declared.setup.Setup.{Setup}
use Rattle.i9_model.specs.declared.interrupts.Chosen.{Chosen}
use Rattle.i9_model.specs.declared.event.Event.{Event}
use Rattle.i9_model.specs.declared.event.Event.TheVariants as events
use Rattle.i9_model.specs.Before.{Received, choice_in, interrupt_in, received_in, interrupting}
use Rattle.i9_model.specs.declared.faults.Entry.{Entry}
use Rattle.i9_model.specs.declared.faults.FaultStop.{FaultStop}
use Rattle.i9_model.specs.declared.faults.FaultStop.TheVariants as stops
use Rattle.i9_model.specs.Writes.{address_count, wrapped, written, upwards, last_put}
use Rattle.i9_model.specs.Memory.{Memory, in_port_page, words_in, exit_word}
use Rattle.i9_model.specs.State.{State, Frames, TraceControls, started, Interrupts, start_sets}
use Rattle.i9_model.specs.Frames.{flushed, places, in_bytes, has}
use Rattle.i9_model.specs.Hazards.{read_hazard, save_hazard, write_hazard}
use Rattle.i9_model.specs.Operands.{address}
use Rattle.i9_model.specs.Boot.{table_word, setup_of, configured}
use Rattle.i9_model.specs.Tables.{tables_hazard, group_address, group_hazard, group_words}
use Rattle.i9_model.specs.Calls.{caller_in, record_address}
use Rattle.i9_model.specs.Controls.{Control, KeepsControls, Restarts, LoadsGroup, with_group, controlled, marks_after}
use Rattle.i9_model.specs.Step.{Action, Flushes, Message, passing, moving, entering, asked_message, message_action, action_by_name, action_by, action_of, moved, flagged, acted, counted, Move, atomic_address, pushing, frames_after}
use Rattle.i9_model.specs.declared.trace.Seen.{Seen}
use Rattle.i9_model.specs.declared.trace.Trace.{Trace}
use Rattle.i9_model.specs.Tracing.{trace_of}
use Rattle.i9_model.specs.Traced.{switches, seen_of, trace_left, traced_action}
use Rattle.i9_model.specs.Access.{Access, access_by_name, access_by, hazard_in, hazard_of, moved_access}
use Rattle.i9_model.specs.Standing.{Standing, Meets, Refused, Faults, Runs, stands_at}
use Rattle.i9_model.specs.declared.run.End.{End}
use Rattle.i9_model.specs.declared.run.End.TheVariants.{Limit}
use Rattle.i9_model.specs.Run.{Kind, Instruction, Faulted, Entered, Interrupted, Reached, action_by_kind, counts_of, record_of, due_in, due_by, Ends, finish, next_by_standing, next_by_received, next_by_event, next_by_interrupt, next_by_choice, next_by_entry, entry_in, fault_at, next_in}
use Rattle.i9_model.specs.declared.run.Due.{Due}
use Rattle.i9_model.specs.Overlay.{overlay}
use Rattle.i9_model.specs.Alike.{is_hard, AgreeWhere, with_other, with_memory, told, is_beyond, shows, with_values, AgreeBeside, Agree, AreWritesAlike, AreActionsAlike, access_by_kind, DoAgree, NextsAgree}
use Rattle.i9_model.proofs.CallLaws.{first_none, second_none, enters_free_by}
use Rattle.i9_model.proofs.ControlLaws.{by_group}
use Rattle.i9_model.proofs.Readings.{read_same, inner_word_same, words_same}
use Rattle.i9_past.proofs.Stands.{Known, IsRead, known as known_here}
use Rattle.i9_agree.proofs.SoundRuns.{action_clear, IsSafe, IsLostOf, action_lost, area_save}
use Rattle.i9_agree.proofs.InterruptsFree.{interrupts_free, InterruptsFree}
use Rattle.i9_agree.proofs.Units.{received_same}
use Rattle.i9_model.specs.declared.run.Due.TheVariants as dues
use Rattle.std.proofs.lemmas.Bool.{cases_Bool, or_from, or_parts, eqb-true}
use Rattle.i9_isa.specs.declared.size.Size.TheVariants.{Byte, Half, Words}
use Rattle.i9_isa.specs.declared.inst.Operand.{Operand}
use Rattle.i9_model.specs.declared.faults.Fault.{Fault}
use Rattle.i9_model.specs.declared.push.Push.{Push}
use Rattle.i9_model.specs.Sound.{in_returns, IsSound}
use Rattle.i9_model.specs.Faults.{is_special, planned_fault_by}
use Rattle.i9_model.specs.Interrupts.{cleared, planned_interrupt_by}
use Rattle.i9_model.specs.Stale.{picked, byte_marks, mark_of, marks_of, word_mark, stored_marks, saved_marks, registers_of, is_marked, deciding, deciding_by, touches_port, stored_out, changed_out, goes_out, goes_out_by, misuses, area_hazard}
use Rattle.i9_model.proofs.FrameLaws.{write_hazard-none, save_hazard-none, port_hazard-none, none_wrote}
use Rattle.i9_model.proofs.Among.{bytes-among, among-bytes, among-address}
use Rattle.i9_model.proofs.SavedMarks.{picked-among, saved-lost}
use Rattle.i9_model.proofs.Storing.{stored_words_same}
use Rattle.i9_agree.proofs.AlikeActions.{other_caller}
use Rattle.i9_agree.proofs.AlikeFetches.{told_same, planned_fault_by_same}
use Rattle.i9_agree.proofs.AlikeInterrupts.{choice_same, planned_by_same, entry_writes_same}
use Rattle.i9_agree.proofs.Agreeing.{shows-none, shows-after, writes-same, written-alike}
use Rattle.i9_agree.proofs.AgreeActions.{shown-first, shown-second, shown-word, alike-same, pushing-alike}
use Rattle.i9_agree.proofs.AgreeNames.{AreOther, hard-bytes, taken-same}
use Rattle.i9_agree.proofs.AgreeCalls.{push-known, action-agree}
use Rattle.i9_agree.proofs.AgreeStands.{access-same, areas-same, asks-shown, allowed-by, stands-same}
use Rattle.i9_agree.proofs.AgreeMoves.{AreInside, AreOfSave, IsContained, moved-agree}
use Rattle.i9_model.proofs.Lengths.{marks_long}

-- ---- the tables of start-up

pub setup_same : (f : Frames) (m : Memory) (bytes : ℕ → ℕ) (first prcb : ℕ) → AgreeWhere (is_hard f) m bytes → tables_hazard m f prcb ≡ None → setup_of (with_other m bytes) first prcb ≡ setup_of m first prcb
unfolding tables_hazard setup_of
setup_same f m bytes first prcb same none =
    let n = with_other m bytes in
    let a = table_word m prcb 1 in
    let prcb_read = first_none (read_hazard f prcb PRCB_SIZE) (read_hazard f a CONTROL_TABLE_SIZE) none in
    let table_read = second_none (read_hazard f prcb PRCB_SIZE) (read_hazard f a CONTROL_TABLE_SIZE) none in
    let here = read_same f m bytes prcb PRCB_SIZE same prcb_read in
    let word : (k : ℕ) → 4 * k + 4 ≤ PRCB_SIZE → table_word n prcb k ≡ table_word m prcb k = λ k h. inner_word_same m bytes prcb PRCB_SIZE (4 * k) here h in
    let table : words_in n (table_word n prcb 1) CONTROL_WORDS ≡ words_in m a CONTROL_WORDS =
    ap (λ (x : ℕ). words_in n x CONTROL_WORDS) (word 1 (omega arith)) ∙ words_same m bytes a CONTROL_TABLE_SIZE CONTROL_WORDS (read_same f m bytes a CONTROL_TABLE_SIZE same table_read) (omega arith) in
    rw (table, word 0 (omega arith), word 1 (omega arith), word 2 (omega arith), word 3 (omega arith), word 4 (omega arith))
    (rw (word 5 (omega arith), word 7 (omega arith), word 9 (omega arith)) refl)

pub group_same : (f : Frames) (m : Memory) (bytes : ℕ → ℕ) (table group : ℕ) → AgreeWhere (is_hard f) m bytes → group_hazard f table group ≡ None → group_words (with_other m bytes) table group ≡ group_words m table group
unfolding group_hazard group_words
group_same f m bytes table group same none =
    let a = group_address table group in
    words_same m bytes a CONTROL_GROUP_SIZE 4 (read_same f m bytes a CONTROL_GROUP_SIZE same none) (omega arith)

-- ---- controls

-- the tables that are read meet no hazard
abbrev pub IsReadable : State → Control → Type 0
IsReadable s KeepsControls = Unit {0}
IsReadable s (Restarts first prcb) = tables_hazard s.memory s.frames prcb ≡ None
IsReadable s (LoadsGroup group) = group_hazard s.frames s.tables.control_table group ≡ None

-- a group of the control table changes nothing of these
pub group-rest : (a b c : Bool) (s : State) (group : ℕ) (ws : List ℕ)
    → let t = by_group a b c s group ws in (t.regs ≡ s.regs) × (t.marks ≡ s.marks) × (t.reading ≡ s.reading) × (t.memory.bytes ≡ s.memory.bytes) × (t.frames ≡ s.frames) × (t.tables ≡ s.tables)
group-rest a b c s group ws = grind arith

pub controlled_bytes : (c : Control) (s : State) → (controlled s c).memory.bytes ≡ s.memory.bytes
unfolding started configured
controlled_bytes c s = grind arith

-- ---- tables are read after a flush that stores nothing

abbrev pub flushing : Inst → State → Control → Action
flushing i s c = record (passing i s) { move = Flushes; control = c }

pub restart_readable : (i : Inst) (s : State) (first prcb : ℕ) → tables_hazard s.memory (flushed s.frames) prcb ≡ None → IsReadable (moved s (flushing i s (Restarts first prcb))) (Restarts first prcb)
unfolding moved written
restart_readable i s first prcb none = ap (λ (f : Frames). tables_hazard s.memory f prcb) (none_wrote (flushed s.frames)) ∙ none

pub group_readable : (i : Inst) (s : State) (group : ℕ) → group_hazard (flushed s.frames) s.tables.control_table group ≡ None → IsReadable (moved s (flushing i s (LoadsGroup group))) (LoadsGroup group)
unfolding moved
group_readable i s group none = ap (λ (f : Frames). group_hazard f s.tables.control_table group) (none_wrote (flushed s.frames)) ∙ none

action_readable : (i : Inst) (s : State) → hazard_of i s ≡ None → IsReadable (moved s (action_of i s)) (action_of i s).control
unfolding action_of hazard_of
action_readable i s none = grind (arith, restart_readable, group_readable)

-- ---- controls in states that agree

group-parts : (a b c : Bool) (s : State) (regs bytes reading : ℕ → ℕ) (group : ℕ) (ws : List ℕ) → by_group a b c (with_values s regs bytes reading) group ws ≡ with_values (by_group a b c s group ws) regs bytes reading
group-parts a b c s regs bytes reading group ws = grind arith

-- a state that agrees, by its values
pub agree-by : (hides : Bool) (s t : State) (regs bytes reading : ℕ → ℕ) → t ≡ with_values s regs bytes reading → AreOther hides s regs bytes reading → Agree hides s t
agree-by hides s t regs bytes reading e same =
    rw e (record { rest = refl; regs = same.regs; bytes = same.bytes; reading = same.reading })

pub others : (hides : Bool) (s t : State) → Agree hides s t → AreOther hides s t.regs t.memory.bytes t.reading
others hides s t agree = record { regs = agree.regs; bytes = agree.bytes; reading = agree.reading }

controls-agree : (hides : Bool) (c : Control) (s : State) (regs bytes reading : ℕ → ℕ) → IsReadable s c → AreOther hides s regs bytes reading → Agree hides (controlled s c) (controlled (with_values s regs bytes reading) c)
unfolding started configured
controls-agree hides KeepsControls s regs bytes reading readable same = agree-by hides s (with_values s regs bytes reading) regs bytes reading refl same
controls-agree hides (Restarts first prcb) s regs bytes reading readable same =
    let t = with_values s regs bytes reading in
    let u = setup_of s.memory first prcb in
    let hard = hard-bytes hides s regs bytes reading same in
    let setup : setup_of (with_other s.memory bytes) first prcb ≡ u = setup_same s.frames s.memory bytes first prcb hard readable in
    let all : controlled t (Restarts first prcb) ≡ with_values (controlled s (Restarts first prcb)) (written regs (start_sets u)) bytes reading =
    ap (λ (x : Setup). record (started x regs s.count s.interrupts.low (configured (with_other s.memory bytes) x.control) s.frames) { marks = marks_after s.marks (start_sets x) []; reading = reading }) setup in
    agree-by hides (controlled s (Restarts first prcb)) (controlled t (Restarts first prcb)) (written regs (start_sets u)) bytes reading all (record {
      regs = λ r h.
          let shown = shows-after hides s.marks (start_sets u) [] r h in
          written-alike hides [] s.regs regs (start_sets u) (start_sets u) r (writes-same hides [] (start_sets u)) shown.0 (λ out. same.regs r (shown.1 out));
      bytes = same.bytes;
      reading = same.reading;
    })
controls-agree hides (LoadsGroup group) s regs bytes reading readable same =
    let t = with_values s regs bytes reading in
    let ws = group_words s.memory s.tables.control_table group in
    let hard = hard-bytes hides s regs bytes reading same in
    let rest = group-rest (eqb group 0) (eqb group 1) (eqb group 6) s group ws in
    let all : controlled t (LoadsGroup group) ≡ with_values (controlled s (LoadsGroup group)) regs bytes reading =
    ap (with_group t group) (group_same s.frames s.memory bytes s.tables.control_table group hard readable) ∙ group-parts (eqb group 0) (eqb group 1) (eqb group 6) s regs bytes reading group ws in
    agree-by hides (controlled s (LoadsGroup group)) (controlled t (LoadsGroup group)) regs bytes reading all (record {
      regs = rw (rest.1, rest.0) same.regs;
      bytes = rw (rest.4, rest.3) same.bytes;
      reading = rw rest.2 same.reading;
    })

pub controlled-agree : (hides : Bool) (c : Control) (s t : State) → IsReadable s c → Agree hides s t → Agree hides (controlled s c) (controlled t c)
controlled-agree hides c s t readable agree =
    subst (λ (u : State). Agree hides (controlled s c) (controlled u c)) (sym agree.rest) (controls-agree hides c s t.regs t.memory.bytes t.reading readable (others hides s t agree))

pub flagged-agree : (hides : Bool) (o : Option Trace) (s t : State) → Agree hides s t → Agree hides (flagged o s) (flagged o t)
flagged-agree hides o s t agree = grind arith

counted-agree : (hides : Bool) (n : ℕ) (s t : State) → Agree hides s t → Agree hides (counted n s) (counted n t)
counted-agree hides n s t agree = record { rest = ap (counted n) agree.rest; regs = agree.regs; bytes = agree.bytes; reading = agree.reading }

pub acted-agree : (hides : Bool) (s t : State) (a b : Action) → IsContained s a → IsReadable (moved s a) a.control → AreActionsAlike hides a b → Agree hides s t → Agree hides (acted s a) (acted t b)
unfolding acted moved
acted-agree hides s t a b inside readable alike agree =
    let control : b.control ≡ a.control = ap (λ (x : Action). x.control) alike.rest in
    let trace : b.trace ≡ a.trace = ap (λ (x : Action). x.trace) alike.rest in
    rw (control, trace) (flagged-agree hides a.trace (controlled (moved s a) a.control) (controlled (moved t b) a.control)
    (controlled-agree hides a.control (moved s a) (moved t b) readable (moved-agree hides s t a b inside alike agree)))

-- ---- what is marked of an action is where it may be

-- beside the port page
within : (a n x : ℕ) → in_bytes a n x ≡ true → in_port_page x ≡ false → is_beyond x ≡ false
within a n x t p = or_from (in_port_page x) (nat_le address_count x) p (among-address a n x (bytes-among a n x t))

save-contained : (v : Move) (f : Frames) (lost : List ℕ) → IsSafe f v → IsLostOf v lost → AreOfSave v lost
save-contained v f lost safe is = grind (arith, or_from, among-address, bytes-among, port_hazard-none, save_hazard-none)

-- nothing is picked where nothing is marked
picked-none : (place : ℕ → ℕ) (n : ℕ) (bs : List Bool) (x : ℕ) → list_any (λ (b : Bool). b) bs ≡ false → has (picked place n bs) x ≡ false
picked-none place n [] x none = refl
picked-none place n (true ∷ bs) x none = absurd cc
picked-none place n (false ∷ bs) x none = picked-none place (n + 1) bs x none

bytes-none : (bs : List Bool) → list_any (λ (b : Bool). b) bs ≡ false → list_any (λ (b : Bool). b) (byte_marks bs) ≡ false
bytes-none [] none = refl
bytes-none (true ∷ bs) none = absurd cc
bytes-none (false ∷ bs) none = bytes-none bs none

map-none : (f : ℕ → Bool) (a n : ℕ) → ((k : ℕ) → k < a + n → f k ≡ false) → list_any (λ (b : Bool). b) (map f (range_with_len a n)) ≡ false
map-none f a zero none = refl
map-none f a (suc n) none = or_from (f a) (list_any (λ (b : Bool). b) (map f (range_with_len (a + 1) n))) (none a (omega arith)) (map-none f (a + 1) n (λ k l. none k (omega arith)))

unmarked : (m : Bool) → shows true m ≡ true → m ≡ false
unmarked m h = grind arith

-- a store of registers without marks
stored-none : (size : Size) (s : State) (o : Operand) → is_marked s (registers_of o (register_count size)) ≡ false → list_any (λ (b : Bool). b) (stored_marks size s o) ≡ false
stored-none Byte s o none = or_from (mark_of s o 0) false (unmarked (mark_of s o 0) (shown-word true s o 1 0 (shows-none true _ none) (omega arith))) refl
stored-none Half s o none = grind (arith, unmarked, shown-word, shows-none, or_from)
stored-none (Words n) s o none = bytes-none (marks_of s o n) (map-none (mark_of s o) 0 n (λ k l. unmarked (mark_of s o k) (shown-word true s o n k (shows-none true _ none) (omega (arith, l)))))

any-none : (test : ℕ → Bool) (ys : List ℕ) (x : ℕ) → list_any test ys ≡ false → list_any (λ (y : ℕ). x == y) ys ≡ true → test x ≡ false
any-none test [] x none t = absurd cc
any-none test (y ∷ ys) x none t = elim (cases_Bool (x == y)) [
  | inl e ↦ rw (eqb-true x y e) (grind arith)
  | inr e ↦ any-none test ys x (grind arith) (grind arith)
]

-- bytes that are written beside live frames, and beside the port page where one of them is marked
written-inside : (f : Frames) (a n : ℕ) (bs : List Bool) (marked : Bool) → length bs ≡ n → write_hazard f a n ≡ None → (marked ≡ false → list_any (λ (b : Bool). b) bs ≡ false) → (marked && touches_port a n) ≡ false → AreInside f (picked wrapped a bs)
unfolding in_bytes
written-inside f a n bs marked long free none out = λ x t.
    let here : in_bytes a n x ≡ true = ap (λ (m : ℕ). in_bytes a m x) (sym long) ∙ among-bytes a (length bs) x (picked-among a bs x t) in
    (within a n x here (by_marked marked refl x t here), write_hazard-none f a n x free here)
  where
    by_marked : (m : Bool) → marked ≡ m → (x : ℕ) → has (picked wrapped a bs) x ≡ true → in_bytes a n x ≡ true → in_port_page x ≡ false
    by_marked false e x t here = absurd (cc (picked-none wrapped a bs x (none e)))
    by_marked true e x t here = any-none in_port_page (places a n) x (rw e at out) here

moving-inside : (d : Direction) (size : Size) (signed : Bool) (i : Inst) (s : State) → stored_out d size i s ≡ false → hazard_in s (moved_access d (address s i.ea) (byte_count size)) ≡ None → AreInside (frames_after s.frames (moving d size signed i s).move) (moving d size signed i s).stale
moving-inside Load size signed i s out none = λ x t. absurd cc
moving-inside Store size signed i s out none =
    written-inside s.frames (address s i.ea) (byte_count size) (stored_marks size s i.c) (is_marked s (registers_of i.c (register_count size))) (marks_long size s i.c) none (stored-none size s i.c) out

atomic-inside : (i : Inst) (s : State) (datas : List ℕ) (data_marked : Bool) → (is_marked s datas ≡ false → data_marked ≡ false) → changed_out datas i s ≡ false → write_hazard s.frames (atomic_address i s) 4 ≡ None
    → AreInside s.frames (picked wrapped (atomic_address i s) (byte_marks ((word_mark s.frames.soft (atomic_address i s) || data_marked) ∷ [])))
atomic-inside i s datas data_marked less out none =
    let a = atomic_address i s in
    let st = word_mark s.frames.soft a in
    let port = (or_parts ((st || is_marked s datas) && touches_port a 4) (is_marked s datas && is_special i.c) out).0 in
    written-inside s.frames a 4 (byte_marks ((st || data_marked) ∷ [])) (st || is_marked s datas) refl none
    (λ e. let parts = or_parts st (is_marked s datas) e in bytes-none ((st || data_marked) ∷ []) (or_from (st || data_marked) false (or_from st data_marked parts.0 (less parts.1)) refl)) port

message-inside : (m : Message) (i : Inst) (s : State) → AreInside (frames_after s.frames (message_action m i s).move) (message_action m i s).stale
message-inside m i s = grind arith

data-none : (s : State) (o : Operand) → is_marked s (registers_of o 1) ≡ false → mark_of s o 0 ≡ false
data-none s o none = unmarked (mark_of s o 0) (shown-word true s o 1 0 (shows-none true _ none) (omega arith))

name-inside : (op : Op) (i : Inst) (s : State) → goes_out op i s ≡ false → hazard_in s (access_by_name op i s) ≡ None → AreInside (frames_after s.frames (action_by_name op i s).move) (action_by_name op i s).stale
name-inside Atadd i s out none = atomic-inside i s (registers_of i.b 1) (mark_of s i.b 0) (data-none s i.b) out none
name-inside Atmod i s out none = atomic-inside i s (registers_of i.b 1 ++ registers_of i.c 1) (mark_of s i.b 0 || mark_of s i.c 0) (λ e.
    let shown = shows-none true (is_marked s (registers_of i.b 1 ++ registers_of i.c 1)) e in
    or_from (mark_of s i.b 0) (mark_of s i.c 0) (unmarked (mark_of s i.b 0) (shown-word true s i.b 1 0 (shown-first true s (registers_of i.b 1) (registers_of i.c 1) shown) (omega arith)))
    (unmarked (mark_of s i.c 0) (shown-word true s i.c 1 0 (shown-second true s (registers_of i.b 1) (registers_of i.c 1) shown) (omega arith)))) out none
name-inside Sysctl i s out none = message-inside (asked_message i s) i s
name-inside _ i s out none = λ x t. absurd cc

action-inside : (i : Inst) (s : State) → goes_out_by (transfer_of i.op) i s ≡ false → hazard_of i s ≡ None → AreInside (frames_after s.frames (action_of i s).move) (action_of i s).stale
unfolding hazard_of action_of
action-inside i s out none = by_transfer (transfer_of i.op) out none
  where
    by_transfer : (o : Option Transfer) → goes_out_by o i s ≡ false → hazard_in s (access_by o i s) ≡ None → AreInside (frames_after s.frames (action_by o i s).move) (action_by o i s).stale
    by_transfer (Some t) g e = moving-inside t.direction t.size t.signed i s g e
    by_transfer None g e = name-inside i.op i s g e

pub action-contained : (i : Inst) (s : State) → misuses i s ≡ false → hazard_of i s ≡ None → IsContained s (action_of i s)
action-contained i s allowed none =
    let clear = action_clear i s none in
    record {
      whole = clear.free.whole;
      lost = save-contained (action_of i s).move s.frames (action_of i s).lost clear.save (action_lost i s);
      stale = action-inside i s (allowed-by i s allowed).out none;
    }

-- ---- what writes leave at the port page

last-alike : (hides : Bool) (marked : List ℕ) (ps qs : List (ℕ × ℕ)) (x : ℕ) → AreWritesAlike hides marked ps qs → has marked x ≡ false → last_put qs x ≡ last_put ps x
unfolding last_put
last-alike hides marked [] [] x h none = refl
last-alike hides marked (p ∷ ps) (q ∷ qs) x h none =
    grind (arith, shows-none, eqb-true, last-alike hides marked ps qs x h.2 none)
last-alike hides marked _ _ x h none = absurd h

port-alike : (hides : Bool) (s : State) (a b : Action) (x : ℕ) → IsContained s a → AreActionsAlike hides a b → in_port_page x ≡ true → last_put b.writes x ≡ last_put a.writes x
port-alike hides s a b x inside alike port = grind (arith, last-alike, cases_Bool)

pub due-in-same : (s : State) (regs bytes reading : ℕ → ℕ) (t : Option Trace) (f : Option End) → due_in (with_values s regs bytes reading) t f ≡ due_in s t f
due-in-same s regs bytes reading t f = grind arith

-- ---- an instruction with its trace events

switched-same : (hides : Bool) (i : Inst) (s : State) (regs bytes reading : ℕ → ℕ) (a b : Action) → AgreeBeside hides s regs → is_marked s (deciding_by (transfer_of i.op) i s) ≡ false → b.pc ≡ a.pc → switches i.op (with_values s regs bytes reading) b ≡ switches i.op s a
switched-same hides i s regs bytes reading a b same none pc = grind arith

seen-same : (hides : Bool) (i : Inst) (s : State) (regs bytes reading : ℕ → ℕ) (a b : Action) → AgreeBeside hides s regs → is_marked s (deciding_by (transfer_of i.op) i s) ≡ false → b.pc ≡ a.pc → seen_of i (with_values s regs bytes reading) b ≡ seen_of i s a
seen-same hides i s regs bytes reading a b same none pc =
    let t = with_values s regs bytes reading in
    let taken = taken-same hides i s regs bytes reading same (asks-shown hides i s none) in
    rw ((access-same hides i s regs bytes reading same none).0, taken, switched-same hides i s regs bytes reading a b same none pc) refl

-- the same events count
trace-alike : (hides : Bool) (a b : Action) (o p : Option Trace) → p ≡ o → AreActionsAlike hides a b → AreActionsAlike hides (record a { trace = o }) (record b { trace = p })
trace-alike hides a b o p e alike = grind arith

-- what an instruction may be done with
pub record MayDo (i : Inst) (s : State) : Type 0 where
  pub allowed : misuses i s ≡ false
  pub none : hazard_of i s ≡ None
  pub known : (x : ℕ) → in_returns s.frames.live x ≡ true → s.frames.marked x ≡ false

pub traced-agree : (hides : Bool) (i : Inst) (s : State) (regs bytes reading : ℕ → ℕ) → AreOther hides s regs bytes reading → MayDo i s → AreActionsAlike hides (traced_action i s) (traced_action i (with_values s regs bytes reading))
traced-agree hides i s regs bytes reading same may =
    let t = with_values s regs bytes reading in
    let a = action_of i s in
    let b = action_of i t in
    let allowed = allowed-by i s may.allowed in
    let alike = action-agree hides i s regs bytes reading same may.known allowed.deciding allowed.special may.none in
    let after = acted-agree hides s t a b (action-contained i s may.allowed may.none) (action_readable i s may.none) alike (agree-by hides s t regs bytes reading refl same) in
    let pc : b.pc ≡ a.pc = ap (λ (x : Action). x.pc) alike.rest in
    let left : trace_left i t b (acted t b).trace ≡ trace_left i s a (acted s a).trace =
    ap (λ (x : TraceControls). trace_left i t b x) (ap (λ (x : State). x.trace) after.rest)
    ∙ ap (λ (x : Seen). trace_of (acted s a).trace.tc s.pc i x (acted s a).trace.breaks) (seen-same hides i s regs bytes reading a b same.regs allowed.deciding pc) in
    trace-alike hides a b (trace_left i s a (acted s a).trace) (trace_left i t b (acted t b).trace) left alike

-- ---- records

-- a kind of record does what is alike
pub record IsKindAlike (hides : Bool) (k : Kind) (s t : State) : Type 0 where
  pub words : told k t ≡ told k s
  pub action : AreActionsAlike hides (action_by_kind k s) (action_by_kind k t)
  pub access : access_by_kind k t ≡ access_by_kind k s
  pub inside : IsContained s (action_by_kind k s)
  pub readable : IsReadable (moved s (action_by_kind k s)) (action_by_kind k s).control

-- what is due after a kind of record
kind-due : (hides : Bool) (k : Kind) (s : State) (regs bytes reading : ℕ → ℕ) → IsContained s (action_by_kind k s) → AreActionsAlike hides (action_by_kind k s) (action_by_kind k (with_values s regs bytes reading)) → due_by k (with_values s regs bytes reading) ≡ due_by k s
unfolding exit_word
kind-due hides k s regs bytes reading inside alike = grind (arith, last-alike, cases_Bool, due-in-same)

record-agree : (hides : Bool) (k : Kind) (s t : State) → IsKindAlike hides k s t → Agree hides s t → DoAgree hides (record_of k s) (record_of k t)
record-agree hides k s t alike agree = record {
  kind = refl;
  before = agree;
  words = alike.words;
  action = alike.action;
  after = counted-agree hides (counts_of k) (acted s (action_by_kind k s)) (acted t (action_by_kind k t)) (acted-agree hides s t (action_by_kind k s) (action_by_kind k t) alike.inside alike.readable alike.action agree);
  access = alike.access;
  due = subst (λ (u : State). due_by k u ≡ due_by k s) (sym agree.rest)
      (kind-due hides k s t.regs t.memory.bytes t.reading alike.inside (subst (λ (u : State). AreActionsAlike hides (action_by_kind k s) (action_by_kind k u)) agree.rest alike.action));
  out = port-alike hides s (action_by_kind k s) (action_by_kind k t) CONSOLE alike.inside alike.action refl;
}

-- no byte that it writes is marked
unmarked-inside : (f : Frames) → AreInside f []
unmarked-inside f = λ x t. absurd cc

push-contained : (s : State) (save : ℕ) → save_hazard s.frames save ≡ None → (x : ℕ) → has (picked wrapped save (byte_marks (saved_marks s))) x ≡ true → (is_beyond x ≡ false) × (in_bytes save FRAME_SIZE x ≡ true)
push-contained s save safe = λ x t.
    let here = (saved-lost s save).inside x t in
    (within save FRAME_SIZE x here (port_hazard-none save FRAME_SIZE x (save_hazard-none s.frames save safe).1 here), here)

-- an entry meets no hazard where it saves a frame
entry-safe : (s : State) (fault : Fault) (e : Entry) → entry_in s fault ≡ Ok e → save_hazard s.frames e.push.save ≡ None
unfolding entry_in
entry-safe s fault e is = (enters_free_by (caller_in s) s.tables.fault_table s.tables.system_table fault s.ac (area_hazard s) e (area_save s) is).save

-- a state whose frames are sound, and one with other values that agree
module _ (hides : Bool) (s : State) (regs bytes reading : ℕ → ℕ) (same : AreOther hides s regs bytes reading) (known : (x : ℕ) → in_returns s.frames.live x ≡ true → s.frames.marked x ≡ false) where
  abbrev other : State
  other = with_values s regs bytes reading

  hard : AgreeWhere (is_hard s.frames) s.memory bytes
  hard = hard-bytes hides s regs bytes reading same

  -- ---- records of each kind

  done-agree : (k : Kind) → IsKindAlike hides k s other → DoAgree hides (record_of k s) (record_of k other)
  done-agree k alike = record-agree hides k s other alike (agree-by hides s other regs bytes reading refl same)

  faulted-agree : (inst : Option Inst) (fault : Fault) → told (Faulted inst fault) other ≡ told (Faulted inst fault) s → access_by_kind (Faulted inst fault) other ≡ access_by_kind (Faulted inst fault) s
      → DoAgree hides (record_of (Faulted inst fault) s) (record_of (Faulted inst fault) other)
  faulted-agree inst fault words access = done-agree (Faulted inst fault) (record {
    words = words;
    access = access;
    action = alike-same hides (action_by_kind (Faulted inst fault) s) refl;
    inside = record { whole = tt; lost = tt; stale = unmarked-inside s.frames };
    readable = tt;
  })

  instruction-agree : (i : Inst) → MayDo i s → IsRead s (words_of i) → DoAgree hides (record_of (Instruction i) s) (record_of (Instruction i) other)
  unfolding moved
  instruction-agree i may read = done-agree (Instruction i) (record {
    words = told_same s bytes (words_of i) hard read;
    access = ap (λ (x : Access). Some x) (access-same hides i s regs bytes reading same.regs (allowed-by i s may.allowed).deciding).0;
    action = traced-agree hides i s regs bytes reading same may;
    inside = let here = action-contained i s may.allowed may.none in record { whole = here.whole; lost = here.lost; stale = here.stale };
    readable = action_readable i s may.none;
  })

  -- a push with bytes that are written
  pushing-writes : (p : Push) (back next pc : ℕ) (check : Bool) (i : Interrupts) (ps qs : List (ℕ × ℕ)) → qs ≡ ps
      → AreActionsAlike hides (record (pushing s p back next) { writes = ps; pc = pc; check = check; interrupts = i }) (record (pushing other p back next) { writes = qs; pc = pc; check = check; interrupts = i })
  pushing-writes p back next pc check i ps qs e =
      let push = pushing-alike hides s regs bytes reading p back next same.regs in
      rw e (record { rest = refl; sets = push.sets; writes = writes-same hides [] ps; move = push.move })

  entered-agree : (e : Entry) → save_hazard s.frames e.push.save ≡ None → DoAgree hides (record_of (Entered e) s) (record_of (Entered e) other)
  entered-agree e safe = done-agree (Entered e) (record {
    words = refl;
    access = refl;
    action = pushing-writes e.push s.ip e.target e.pc s.check s.interrupts _ _ (ap (upwards (record_address e.push.frame)) (stored_words_same s.memory bytes (record_address e.push.frame) e.words));
    inside = record { whole = refl; lost = push-contained s e.push.save safe; stale = unmarked-inside (frames_after s.frames (entering e s).move) };
    readable = tt;
  })

  interrupted-agree : (c : Chosen) (e : Entry) → InterruptsFree s c e → DoAgree hides (record_of (Interrupted c e) s) (record_of (Interrupted c e) other)
  interrupted-agree c e free = done-agree (Interrupted c e) (record {
    words = refl;
    access = refl;
    action = pushing-writes e.push s.ip e.target e.pc false (cleared c.cause s.interrupts) _ _ (entry_writes_same s bytes c e hard free);
    inside = record { whole = refl; lost = push-contained s e.push.save free.enters.save; stale = unmarked-inside (frames_after s.frames (interrupting c e s).move) };
    readable = tt;
  })

  -- ---- what comes next

  standing-agree : (x : Standing) → Known s x → NextsAgree hides (next_by_standing s x) (next_by_standing other x)
  standing-agree (Meets a) k = refl
  standing-agree (Refused number) k = faulted-agree None (fault_at s number) (told_same s bytes 1 hard k) refl
  standing-agree (Faults i number) k =
      faulted-agree (Some i) (fault_at s number) (told_same s bytes (words_of i) hard k.0) (ap (λ (x : Access). Some x) (access-same hides i s regs bytes reading same.regs (allowed-by i s k.1).deciding).0)
  standing-agree (Runs i) k = instruction-agree i (record { allowed = k.2; none = k.1; known = known }) k.0

  entry-same : (fault : Fault) → entry_in other fault ≡ entry_in s fault
  unfolding entry_in
  entry-same fault =
      ap (planned_fault_by (other_caller (caller_in s) bytes (regs FP) (regs SP)) s.tables.fault_table s.tables.system_table fault s.ac) (areas-same hides s regs bytes reading same.regs)
      ∙ planned_fault_by_same (caller_in s) bytes s.tables.fault_table s.tables.system_table fault s.ac (regs FP) (regs SP) (area_hazard s) hard (push-known hides s regs same.regs)

  entry-agree : (fault : Fault) (o : Result Entry FaultStop) → entry_in s fault ≡ o → NextsAgree hides (next_by_entry s o) (next_by_entry other o)
  entry-agree fault (Ok e) is = entered-agree e (entry-safe s fault e is)
  entry-agree fault (Err (stops.Hazard a)) is = refl
  entry-agree fault (Err (stops.Dead code a)) is = refl

  received-same : (e : Event) → received_in other e ≡ received_in s e
  unfolding received_in
  received-same e = events_alone e ∙ received_same s bytes e hard
    where
      events_alone : (e : Event) → received_in other e ≡ received_in (with_memory s bytes) e
      events_alone events.Nmi = refl
      events_alone _ = refl

  reached-agree : (e : Event) (p : Result Received ℕ) → NextsAgree hides (next_by_received s e p) (next_by_received other e p)
  reached-agree e (Ok u) = done-agree (Reached e u) (record { words = refl; access = refl; action = alike-same hides (action_by_kind (Reached e u) s) refl; inside = record { whole = tt; lost = tt; stale = unmarked-inside s.frames }; readable = tt })
  reached-agree e (Err a) = refl

  event-agree : (stands : Option Event) → NextsAgree hides (next_by_event stands s) (next_by_event stands other)
  event-agree (Some e) = rw (received-same e) (reached-agree e (received_in s e))
  event-agree None = rw (stands-same hides s regs bytes reading same) (standing-agree (stands_at s) (known_here s))

  interrupt-same : (c : Chosen) → interrupt_in other c ≡ interrupt_in s c
  unfolding interrupt_in
  interrupt-same c =
      ap (planned_interrupt_by (other_caller (caller_in s) bytes (regs FP) (regs SP)) s.tables.interrupt_table s.tables.interrupt_stack c s.ac) (areas-same hides s regs bytes reading same.regs)
      ∙ planned_by_same (caller_in s) bytes s.tables.interrupt_table s.tables.interrupt_stack c s.ac (regs FP) (regs SP) (area_hazard s) hard (push-known hides s regs same.regs)

  interrupt-agree : (c : Chosen) (o : Result Entry ℕ) → interrupt_in s c ≡ o → NextsAgree hides (next_by_interrupt s c o) (next_by_interrupt other c o)
  interrupt-agree c (Ok e) is = interrupted-agree c e (interrupts_free s c e is)
  interrupt-agree c (Err a) is = refl

  choice-agree : (stands : Option Event) (o : Result (Option Chosen) ℕ) → NextsAgree hides (next_by_choice stands s o) (next_by_choice stands other o)
  choice-agree stands (Ok (Some c)) = rw (interrupt-same c) (interrupt-agree c (interrupt_in s c) refl)
  choice-agree stands (Ok None) = event-agree stands
  choice-agree stands (Err a) = refl

  choice-same : choice_in other ≡ choice_in s
  unfolding choice_in
  choice-same = choice_same s bytes hard

  length-agree : (b : Bool) (stands : Option Event) → NextsAgree hides (cond b (Ends (finish Limit)) (next_by_choice stands s (choice_in s))) (cond b (Ends (finish Limit)) (next_by_choice stands other (choice_in other)))
  length-agree true stands = refl
  length-agree false stands = rw choice-same (choice-agree stands (choice_in s))

  due-agree : (limit : ℕ) (due : Due) (stands : Option Event) → NextsAgree hides (next_in limit due stands s) (next_in limit due stands other)
  due-agree limit (dues.End f) stands = refl
  due-agree limit (dues.Entry fault) stands = rw (entry-same fault) (entry-agree fault (entry_in s fault) refl)
  due-agree limit dues.Nothing stands = length-agree (eqb s.count limit) stands

-- what comes next in states that agree, where their frames are sound
pub next-agree : (hides : Bool) (limit : ℕ) (due : Due) (stands : Option Event) (s t : State) → IsSound s.frames → Agree hides s t → NextsAgree hides (next_in limit due stands s) (next_in limit due stands t)
next-agree hides limit due stands s t sound agree =
    subst (λ (u : State). NextsAgree hides (next_in limit due stands s) (next_in limit due stands u)) (sym agree.rest) (due-agree hides s t.regs t.memory.bytes t.reading (others hides s t agree) sound.known limit due stands)

-- ---- what is shown

pub overlay-agree : (s t : State) (a : ℕ) → Agree true s t → overlay t a ≡ overlay s a
unfolding overlay
overlay-agree s t a agree = grind arith
