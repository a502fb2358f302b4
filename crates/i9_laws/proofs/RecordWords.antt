-- The entry of a fault or of an interrupt writes the controls into the record below its frame.
use Rattle.std.proofs.Common.{◌≡◌, ℕ, ◌+◌, ◌*◌, ◌<◌, Bool, true, false, cond, List, [], ◌∷◌, ◌++◌, length, get_or, Option, None, Ok, refl, inl, sym, ap, ◌∙◌, subst, arith}
use Rattle.std.specs.Prelude.{◌%◌, ◌==◌, IsTrue, replicate}
use Rattle.std.proofs.lemmas.Bool.{ne_eqb, or_from}
use Rattle.std.specs.Int.{w32, from_le_bytes, from_be_bytes, to_le_bytes, to_be_bytes}
use Rattle.i9_model.specs.declared.layout.TheConstants.{FP, AC_MASK, PC_MASK, RECORD_SIZE}
use Rattle.i9_model.specs.declared.calls.Sys.{Sys}
use Rattle.i9_model.specs.declared.push.Push.{Push}
use Rattle.i9_model.specs.declared.faults.Fault.{Fault}
use Rattle.i9_model.specs.declared.faults.Entry.{Entry}
use Rattle.i9_model.specs.Writes.{address_count, wrapped, upwards}
use Rattle.i9_model.specs.Memory.{Memory, stored, region_of, is_big, word_in, word_bytes, with_writes, with_words}
use Rattle.i9_model.specs.declared.interrupts.Cause.{Cause}
use Rattle.i9_model.specs.declared.interrupts.Cause.TheVariants.{Nmi, Line, Soft}
use Rattle.i9_model.specs.declared.interrupts.Chosen.{Chosen}
use Rattle.i9_model.specs.declared.event.Event.{Event}
use Rattle.i9_model.specs.declared.run.Due.{Due}
use Rattle.i9_model.specs.State.{State}
use Rattle.i9_model.specs.Frames.{saved, in_bytes, is_put}
use Rattle.i9_model.specs.Hazards.{write_hazard, port_hazard, record_write_hazard}
use Rattle.i9_model.specs.Calls.{record_address, saved_pc, saved_ac}
use Rattle.i9_model.specs.Faults.{fault_record, entry_of}
use Rattle.i9_model.specs.Step.{bytes_of_words, saved_locals, entering, moved, acted}
use Rattle.i9_model.specs.Interrupts.{without_bit, vector_priority, priority_place, pending_place, left_pending, taken_writes, clearing_writes, record_writes}
use Rattle.i9_model.specs.Before.{interrupt_in, interrupting}
use Rattle.i9_model.specs.Run.{Kind, Entered, Interrupted, action_by_kind, entry_in}
use Rattle.i9_past.proofs.Comes.{MayCome}
use Rattle.i9_model.proofs.CallLaws.{second_none}
use Rattle.i9_model.proofs.FrameBytes.{stored_at, byte_of_words}
use Rattle.i9_model.proofs.FrameLaws.{port_hazard-none}
use Rattle.i9_agree.proofs.Overlays.{words_mcon}
use Rattle.i9_model.proofs.Readings.{in_bytes-has}
use Rattle.i9_model.proofs.Lengths.{words_long}
use Rattle.i9_model.proofs.Stored.{stored-append}
use Rattle.i9_model.proofs.Storing.{stored_kept}
use Rattle.i9_laws.specs.Kept.{IsWord}
use Rattle.i9_laws.specs.Undone.{is_entry, AreBeside, LeavesRecord, HasControls}
use Rattle.i9_laws.proofs.Entered.{entry_by, push_for, words_for, entry_for, interrupt_made}
use Rattle.i9_laws.proofs.FrameRegisters.{frame_pointer}
use Rattle.i9_laws.proofs.KeptBits.{IsKept}
use Rattle.i9_laws.proofs.WordsAfter.{within_word}

-- ---- a word by its four bytes

abbrev bytes_by : Bool → ℕ → List ℕ
bytes_by big w = cond big (to_be_bytes w32 w) (to_le_bytes w32 w)

by_order : (big : Bool) (w p q r s : ℕ) → IsWord w → p ≡ get_or (bytes_by big w) 0 0 → q ≡ get_or (bytes_by big w) 1 0
    → r ≡ get_or (bytes_by big w) 2 0 → s ≡ get_or (bytes_by big w) 3 0
    → cond big (from_be_bytes w32 (p ∷ q ∷ r ∷ s ∷ [])) (from_le_bytes w32 (p ∷ q ∷ r ∷ s ∷ [])) ≡ w
by_order big w p q r s small h i j k = grind (arith, small, h, i, j, k)

-- the word whose bytes, in the order of another memory with the same regions, stand at an address
word_back : (m n : Memory) (x w : ℕ) → n.mcon ≡ m.mcon → x < address_count → IsWord w
    → ((j : ℕ) → j < 4 → n.bytes (wrapped (x + j)) ≡ get_or (word_bytes m x w) j 0) → word_in n x ≡ w
unfolding word_in word_bytes
word_back m n x w same low small has =
    let r = region_of x in
    let order : is_big m r ≡ is_big n r = ap (λ (c : ℕ → ℕ). is_big (record m { mcon = c }) r) (sym same) in
    let stands = λ (j : ℕ) (h : j < 4). has j h ∙ ap (λ (b : Bool). get_or (bytes_by b w) j 0) order in
    let first : wrapped (x + 0) ≡ x = omega (arith, low) in
    by_order (is_big n r) w (n.bytes x) (n.bytes (wrapped (x + 1))) (n.bytes (wrapped (x + 2))) (n.bytes (wrapped (x + 3))) small
    (sym (ap n.bytes first) ∙ stands 0 (omega arith)) (stands 1 (omega arith)) (stands 2 (omega arith)) (stands 3 (omega arith))

-- ---- a record

-- words that are stored outside the port page stand in every later memory that has their bytes
record_stands : (m n after : Memory) (a : ℕ) (ws : List ℕ) (k : ℕ) → after.mcon ≡ m.mcon → a < address_count
    → port_hazard a RECORD_SIZE ≡ None → length ws ≡ 4 → k < 4 → IsWord (get_or ws k 0)
    → ((x : ℕ) → in_bytes a RECORD_SIZE x ≡ true → after.bytes x ≡ stored n.bytes (upwards a (bytes_of_words m a ws)) x)
    → word_in after (wrapped (a + 4 * k)) ≡ get_or ws k 0
record_stands m n after a ws k same low free four h small stays =
    let bs = bytes_of_words m a ws in
    let long = words_long m a ws in
    word_back m after (wrapped (a + 4 * k)) (get_or ws k 0) same (omega arith) small (λ j l.
    let place : wrapped (wrapped (a + 4 * k) + j) ≡ wrapped (a + (4 * k + j)) = omega arith in
    let inside = in_bytes-has a RECORD_SIZE (4 * k + j) (omega (arith, h, l)) in
    let outside = port_hazard-none a RECORD_SIZE (wrapped (a + (4 * k + j))) free inside in
    ap after.bytes place
    ∙ stays (wrapped (a + (4 * k + j))) inside
    ∙ stored_at n.bytes a bs (4 * k + j) (omega (arith, long, four, h, l)) (omega (arith, long, four)) outside
    ∙ byte_of_words m a ws k j low (omega (arith, four, h)) l)

-- so a state whose frame pointer is that of a push, and whose memory has the bytes of its record, has the controls
controls_stand : (s t : State) (push : Push) (ws : List ℕ) → IsKept s → length ws ≡ 4 → get_or ws 0 0 ≡ s.pc
    → get_or ws 1 0 ≡ s.ac
    → t.regs FP ≡ push.frame → t.memory.mcon ≡ s.memory.mcon
    → port_hazard (record_address push.frame) RECORD_SIZE ≡ None
    → ((x : ℕ) → in_bytes (record_address push.frame) RECORD_SIZE x ≡ true
    → t.memory.bytes x ≡ stored (with_words s.memory push.save (saved_locals s s.ip)).bytes (record_writes s.memory push ws) x)
    → HasControls s t
controls_stand s t push ws kept four pc ac fp regions free stays =
    let a = record_address push.frame in
    let n = with_words s.memory push.save (saved_locals s s.ip) in
    let stands = λ (k : ℕ) (h : k < 4) (small : IsWord (get_or ws k 0)).
    record_stands s.memory n t.memory a ws k regions (omega arith) free four h small stays in
    let start : wrapped (a + 0) ≡ a = omega arith in
    let pc_word = within_word PC_MASK s.pc (omega arith) kept.pc in
    let ac_word = within_word AC_MASK s.ac (omega arith) kept.ac in
    record {
      pc =
          ap (saved_pc t.memory) fp
          ∙ sym (ap (word_in t.memory) start)
          ∙ stands 0 (omega arith) (omega (arith, pc, pc_word))
          ∙ pc;
      ac = ap (saved_ac t.memory) fp ∙ stands 1 (omega arith) (omega (arith, ac, ac_word)) ∙ ac;
    }

pub entering_writes : (s : State) (fault : Fault) (e : Entry) → IsKept s → entry_in s fault ≡ Ok e → HasControls s (acted s (entering e s))
unfolding acted moved record_write_hazard
entering_writes s fault e kept ok =
    let made = entry_by (λ (x : Sys). Unit {0}) s fault e (record { switched = λ x y. tt; here = λ x. tt }) ok in
    let push = made.0.push in
    let free = second_none (write_hazard (saved s.frames push.save) (record_address push.frame) RECORD_SIZE) _ made.3 in
    let regions = words_mcon s.memory push.save (saved_locals s s.ip) in
    let fp : (acted s (entering (entry_of fault s.pc s.ac made.0) s)).regs FP ≡ push.frame =
    frame_pointer s.regs (push.pfp ∷ push.sp ∷ replicate 14 0) push.frame in
    let here = controls_stand s (acted s (entering (entry_of fault s.pc s.ac made.0) s)) push
    (fault_record fault s.pc s.ac) kept
    refl refl refl fp regions free (λ x inside. refl) in
    subst (λ (x : Entry). HasControls s (acted s (entering x s))) made.2 (record { pc = here.pc; ac = here.ac })

-- ---- an interrupt

other_place : (a n x y : ℕ) → in_bytes a n x ≡ true → in_bytes a n y ≡ false → (x == y) ≡ false
other_place a n x y h k = ne_eqb x y (λ e. let clash : true ≡ false = sym h ∙ ap (in_bytes a n) e ∙ k in cc clash)

-- what clears a request is no byte of a record that it lies beside
clearing_beside : (c : Cause) (m : Memory) (table v a : ℕ) → AreBeside c table v a → (x : ℕ) → in_bytes a RECORD_SIZE x ≡ true
    → is_put (clearing_writes c m table v) x ≡ false
unfolding is_put taken_writes
clearing_beside Nmi m table v a beside x h = refl
clearing_beside (Line k) m table v a beside x h = refl
clearing_beside Soft m table v a beside x h = by_left (left_pending m table v == 0)
  where
    first : ℕ
    first = priority_place table v

    second : ℕ × ℕ
    second = (pending_place table v, left_pending m table v)

    last : is_put (second ∷ []) x ≡ false
    last = or_from (x == pending_place table v) false (other_place a RECORD_SIZE x (pending_place table v) h beside.1) refl

    by_left : (b : Bool)
        → is_put (cond b ((first, without_bit (m.bytes first) (vector_priority v % 8)) ∷ []) [] ++ second ∷ []) x ≡ false
    by_left true = or_from (x == first) (is_put (second ∷ []) x) (other_place a RECORD_SIZE x first h beside.0) last
    by_left false = last

made_writes : (s : State) (c : Chosen) → IsKept s → record_write_hazard s.frames (push_for s) ≡ None
    → AreBeside c.cause s.tables.interrupt_table c.vector (record_address (push_for s).frame)
    → HasControls s (acted s (interrupting c (entry_for s c) s))
unfolding acted moved record_write_hazard
made_writes s c kept hazard beside =
    let push = push_for s in
    let a = record_address push.frame in
    let ws = words_for s c in
    let n = with_words s.memory push.save (saved_locals s s.ip) in
    let recorded = record_writes s.memory push ws in
    let clears = clearing_writes c.cause (with_writes s.memory recorded) s.tables.interrupt_table c.vector in
    let free = second_none (write_hazard (saved s.frames push.save) a RECORD_SIZE) (port_hazard a RECORD_SIZE) hazard in
    let regions = words_mcon s.memory push.save (saved_locals s s.ip) in
    let stays = λ (x : ℕ) (inside : in_bytes a RECORD_SIZE x ≡ true).
    ap (λ (f : ℕ → ℕ). f x) (stored-append n.bytes recorded clears)
    ∙ stored_kept (stored n.bytes recorded) clears x
    (inl (clearing_beside c.cause (with_writes s.memory recorded) s.tables.interrupt_table c.vector a beside x inside)) in
    let fp : (acted s (interrupting c (entry_for s c) s)).regs FP ≡ push.frame =
    frame_pointer s.regs (push.pfp ∷ push.sp ∷ replicate 14 0) push.frame in
    let here = controls_stand s (acted s (interrupting c (entry_for s c) s))
    push ws kept refl refl refl fp regions free stays in
    record { pc = here.pc; ac = here.ac }

pub interrupting_writes : (s : State) (c : Chosen) (e : Entry) → IsKept s → interrupt_in s c ≡ Ok e
    → AreBeside c.cause s.tables.interrupt_table c.vector (record_address e.push.frame) → HasControls s (acted s (interrupting c e s))
interrupting_writes s c e kept ok beside =
    let made = interrupt_made s c e ok in
    let place = ap (λ (x : Entry). record_address x.push.frame) (sym made.0) in
    let left = subst (AreBeside c.cause s.tables.interrupt_table c.vector) place beside in
    subst (λ (x : Entry). HasControls s (acted s (interrupting c x s))) made.0 (made_writes s c kept made.1 left)

-- ---- an entry of either kind

pub entry_writes_controls : (limit : ℕ) (due : Due) (stands : Option Event) (k : Kind) (s : State) → IsKept s → MayCome limit due stands s k
    → IsTrue (is_entry k) → LeavesRecord k s → HasControls s (acted s (action_by_kind k s))
entry_writes_controls limit due stands (Entered e) s kept may h left = entering_writes s may.0 e kept may.2
entry_writes_controls limit due stands (Interrupted c e) s kept may h left = interrupting_writes s c e kept may.3 left
entry_writes_controls limit due stands _ s kept may h left = absurd cc
