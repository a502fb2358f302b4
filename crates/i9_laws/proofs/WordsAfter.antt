-- Along every run registers are below 2^32 and bytes of memory below 256, where the bytes of the image are.
use Rattle.std.proofs.Common.{◌≡◌, ℕ, zero, suc, ◌+◌, ◌-◌, ◌^◌, ◌<◌, Bool, true, false, cond, List, [], ◌∷◌, Option, Some, None, Ok, length, refl, sym, subst, arith, rules}
use Rattle.std.specs.Prelude.{◌==◌, replicate, bit_and}
use Rattle.std.specs.List.{range_with_len}
use Rattle.std.proofs.lemmas.Nat.{and_le_r}
use Rattle.i9_isa.specs.Words.{field}
use Rattle.i9_isa.specs.declared.op.Op.{Op}
use Rattle.i9_isa.specs.declared.op.Op.TheVariants.{Flushreg, Modac, Modtc, Modpc}
use Rattle.i9_isa.specs.declared.size.Size.{Size}
use Rattle.i9_isa.specs.declared.size.Size.TheVariants.{Byte, Half, Words}
use Rattle.i9_isa.specs.declared.size.Direction.{Direction}
use Rattle.i9_isa.specs.declared.size.Direction.TheVariants.{Load, Store}
use Rattle.i9_isa.specs.declared.size.Transfer.{Transfer}
use Rattle.i9_isa.specs.declared.inst.Operand.{Operand}
use Rattle.i9_isa.specs.declared.inst.Operand.TheVariants.{Reg, Lit, Sfr}
use Rattle.i9_isa.specs.declared.inst.Inst.{Inst}
use Rattle.i9_isa.specs.Transfers.{transfer_of}
use Rattle.i9_model.specs.declared.layout.TheConstants.{AC_MASK, PC_MASK, TC_MASK, FP, SP, RIP, PFP, LOCALS, LOCAL_RETURN, FRAME_SIZE, RECORD_SIZE, FAULT_RETURN, INTERRUPT_RETURN, FIRST_INSTRUCTION}
use Rattle.i9_model.specs.declared.push.Push.{Push}
use Rattle.i9_model.specs.declared.calls.Sys.{Sys}
use Rattle.i9_model.specs.declared.faults.Fault.{Fault}
use Rattle.i9_model.specs.declared.faults.Entry.{Entry}
use Rattle.i9_model.specs.declared.setup.Setup.{Setup}
use Rattle.i9_model.specs.Writes.{pairs_at, wrapped, aligned}
use Rattle.i9_model.specs.Image.{Part, pairs_of_part, pairs_of, AreParts}
use Rattle.i9_model.specs.Memory.{Memory, half_in, word_in, words_in}
use Rattle.i9_model.specs.Boot.{setup_of, configured, with_boot_bytes, boot_setup}
use Rattle.i9_model.specs.State.{State, Interrupts, image_memory, frame_sets, first_frame, start_sets, started, boot}
use Rattle.i9_model.specs.Frames.{rounded_down, pushed}
use Rattle.i9_model.specs.Stale.{legible, left_memory}
use Rattle.i9_model.specs.Operands.{value, higher_word, word_of, source_words, assigned, address, target}
use Rattle.i9_model.specs.Branches.{is_taken}
use Rattle.i9_model.specs.Calls.{popped}
use Rattle.i9_model.specs.Controls.{Control, KeepsControls, Restarts, LoadsGroup, controlled}
use Rattle.i9_model.specs.Tables.{group_words}
use Rattle.i9_model.specs.Step.{Move, Stays, Saves, Action, saved_local, saved_locals, pushing, call_action, calls_action, ret_action, first_word, next_word, loaded, moving, atomic, atomic_address, following, answer_in, destination, values_of, branching, resulting, Message, AsksRestart, message_action, push_sets, system_call, entering, action_by_name, action_by, action_of, moved, acted}
use Rattle.i9_model.specs.declared.run.Due.{Due}
use Rattle.i9_model.specs.declared.interrupts.TheConstants.{LINE_MASK}
use Rattle.i9_model.specs.declared.dma.TheConstants.{COMMAND_MASK}
use Rattle.i9_model.specs.declared.interrupts.Chosen.{Chosen}
use Rattle.i9_model.specs.declared.event.Event.{Event}
use Rattle.i9_model.specs.ScheduleText.{IsPlan}
use Rattle.i9_model.specs.Interrupts.{vector_place, base_for}
use Rattle.i9_model.specs.Pins.{level_word, pending_word}
use Rattle.std.specs.Int.Bits.{or_add_and}
use Rattle.i9_model.specs.Before.{interrupt_in, interrupting}
use Rattle.i9_model.specs.Run.{Given, Record, Kind, Instruction, Faulted, Entered, Interrupted, Reached, action_by_kind, action_done, due_after, event_after, state_after, IsPast, entry_in}
use Rattle.i9_model.proofs.ControlLaws.{by_group, flagged-others}
use Rattle.i9_past.proofs.Comes.{MayCome, next_comes}
use Rattle.i9_laws.specs.Kept.{IsWithin, IsWord, HasBytes}
use Rattle.i9_laws.proofs.Entered.{call_by, entry_by, entry_for, interrupt_made}
use Rattle.i9_laws.proofs.KeptBits.{IsKept, kept_after}
use Rattle.i9_laws.proofs.KeptLines.{HasLines, lines_after}
use Rattle.i9_laws.proofs.BytesAfter.{done_stores, moved_bytes, image_bytes, boot_bytes}
use Rattle.i9_laws.proofs.Decoded.{IsSmall, HasSmall, decoded_small, IsTurn, next_turn}
use Rattle.i9_laws.proofs.StoredWords.{ArePut, all_append, put_pairs, all_map, written_below, half_below, word_below, words_below}
use Rattle.i9_laws.proofs.ResultWords.{AreWords, either_word, results_words}

-- registers and the instruction address are words, and bytes are bytes, soft ones as they are read too
pub record AreWithinWords (f : ℕ → ℕ) (at : ℕ) (memory soft : ℕ → ℕ) : Type 0 where
  pub regs : (r : ℕ) → IsWord (f r)
  pub ip : IsWord at
  pub bytes : (x : ℕ) → memory x < 256
  pub reading : (b : ℕ) → b < 256 → soft b < 256

abbrev pub HasWords : State → Type 0
HasWords s = AreWithinWords s.regs s.ip s.memory.bytes s.reading

-- so bytes are as a load and as a return finds them
legible_bytes : (s : State) → HasWords s → (x : ℕ) → (legible s).bytes x < 256
legible_bytes s h x = by_soft (s.frames.soft x)
  where
    by_soft : (b : Bool) → cond b (s.reading (s.memory.bytes x)) (s.memory.bytes x) < 256
    by_soft true = h.reading (s.memory.bytes x) (h.bytes x)
    by_soft false = h.bytes x

left_bytes : (live : List ℕ) (s : State) → HasWords s → (x : ℕ) → (left_memory live s).bytes x < 256
left_bytes [] s h = legible_bytes s h
left_bytes (f ∷ live) s h = h.bytes

-- a frame is saved whole, at an address
abbrev pub SavesWords : Move → Type 0
SavesWords (Saves save words) = IsWord save × (length words ≡ LOCALS) × AreWords words
SavesWords _ = Unit {0}

-- start-up goes to an address
abbrev StartsWord : Control → Type 0
StartsWord (Restarts first prcb) = IsWord first
StartsWord _ = Unit {0}

-- what an action sets and saves, and where control goes
record AreDone (sets : List (ℕ × ℕ)) (v : Move) (c : Control) (to : ℕ) : Type 0 where
  registers : ArePut (2 ^ 32) sets
  saves : SavesWords v
  starts : StartsWord c
  next : IsWord to

abbrev DoesWords : Action → Type 0
DoesWords a = AreDone a.sets a.move a.control a.next

-- it sets registers alone
setting : {sets : List (ℕ × ℕ)} {to : ℕ} → ArePut (2 ^ 32) sets → IsWord to → AreDone sets Stays KeepsControls to
setting h k = record { registers = h; saves = tt; starts = tt; next = k }

pub within_word : (mask w : ℕ) → IsWord mask → IsWithin mask w → IsWord w
within_word mask w h e = let k = and_le_r w mask in omega (arith, h, e, k)

-- ---- sources and destinations

-- the pending word, the kept one with the bits of pins that are low
pending_is_word : (i : Interrupts) → IsWithin LINE_MASK i.pending → IsWord (pending_word i)
pending_is_word i h =
    let kept : bit_and i.pending LINE_MASK ≡ i.pending = h in
    let within = and_le_r i.pending LINE_MASK in
    let levels = and_le_r i.low (255 - field i.icon 2 8) in
    let sum = or_add_and i.pending (level_word i) in
    omega (arith, kept, within, levels, sum)

special_word : (a b : Bool) (s : State) → HasLines s → IsWord (cond a (pending_word s.interrupts) (cond b s.interrupts.mask s.dma.dmac))
special_word a b s l =
    grind (arith, pending_is_word s.interrupts l.pending, within_word LINE_MASK s.interrupts.mask (omega arith) l.mask, within_word COMMAND_MASK s.dma.dmac (omega arith) l.command)

value_word : (s : State) (o : Operand) → HasWords s → HasLines s → IsSmall o → IsWord (value s o)
value_word s (Reg r) h l k = h.regs r
value_word s (Lit n) h l k = omega (arith, k)
value_word s (Sfr j) h l k = special_word (j == 0) (j == 1) s l

higher_is_word : (s : State) (o : Operand) (k : ℕ) → HasWords s → IsWord (higher_word s o k)
higher_is_word s (Reg r) k h = h.regs (r + k)
higher_is_word s (Lit n) k h = omega arith
higher_is_word s (Sfr j) k h = omega arith

sources_words : (s : State) (o : Operand) (n : ℕ) → HasWords s → HasLines s → IsSmall o → AreWords (source_words s o n)
sources_words s o n h l small = all_map IsWord (word_of s o) (range_with_len 0 n) (λ k. by_place k (k == 0))
  where
    by_place : (k : ℕ) (b : Bool) → IsWord (cond b (value s o) (higher_word s o k))
    by_place k true = value_word s o h l small
    by_place k false = higher_is_word s o k h

assigned_words : (o : Operand) (vs : List ℕ) → AreWords vs → ArePut (2 ^ 32) (assigned o vs)
assigned_words (Reg r) vs h = put_pairs (2 ^ 32) (λ k. k) r vs h
assigned_words (Lit n) vs h = tt
assigned_words (Sfr k) vs h = tt

frame_words : (locals : List ℕ) (fp : ℕ) → AreWords locals → IsWord fp → ArePut (2 ^ 32) (frame_sets locals fp)
frame_words locals fp h k =
    all_append (λ p. p.1 < 2 ^ 32) (pairs_at (λ r. r) 0 locals) ((FP, fp) ∷ [])
    (put_pairs (2 ^ 32) (λ r. r) 0 locals h) (k, tt)

-- ---- loads and stores

filled_word : (signed b : Bool) (width v : ℕ) → v < 2 ^ width → IsWord v → IsWord (cond signed (cond b v (v + 2 ^ 32 - 2 ^ width)) v)
filled_word signed b width v h k = grind (arith, h, k)

loaded_words : (size : Size) (signed : Bool) (m : Memory) (a : ℕ) → ((x : ℕ) → m.bytes x < 256) → AreWords (loaded size signed m a)
loaded_words Byte signed m a h = let k = h a in (filled_word signed _ 8 (m.bytes a) k (omega (arith, k)), tt)
loaded_words Half signed m a h = let k = half_below m a h in (filled_word signed _ 16 (half_in m a) k (omega (arith, k)), tt)
loaded_words (Words n) signed m a h = words_below m a n h

-- control goes behind an instruction, or to an address whose low bits are cleared
behind_word : (i : Inst) (s : State) → IsWord (following i s)
behind_word i s = omega arith

aligned_word : (a : ℕ) → IsWord a → IsWord (aligned a)
aligned_word a h = omega (arith, h)

moving_words : (d : Direction) (size : Size) (signed : Bool) (i : Inst) (s : State) → HasWords s → DoesWords (moving d size signed i s)
moving_words Load size signed i s h =
    let a = address s i.ea in
    setting (assigned_words i.c (loaded size signed (legible s) a) (loaded_words size signed (legible s) a (legible_bytes s h))) (behind_word i s)
moving_words Store size signed i s h = setting tt (behind_word i s)

-- ---- pushes

record IsPushed (p : Push) : Type 0 where
  save : IsWord p.save
  pfp : IsWord p.pfp
  sp : IsWord p.sp
  frame : IsWord p.frame

pushed_words : (fp base extra kind : ℕ) → IsWord fp → kind < 16 → IsPushed (pushed fp base extra kind)
pushed_words fp base extra kind h k = record { save = omega (arith, h); pfp = omega (arith, h, k); sp = omega arith; frame = omega arith }

zero_words : (n : ℕ) → AreWords (replicate n 0)
zero_words zero = tt
zero_words (suc n) = (omega arith, zero_words n)

sets_pushed : (p : Push) → IsPushed p → ArePut (2 ^ 32) (push_sets p)
sets_pushed p h = frame_words (p.pfp ∷ p.sp ∷ replicate 14 0) p.frame (h.pfp, (h.sp, zero_words 14)) h.frame

local_words : (s : State) (back : ℕ) → HasWords s → IsWord back → AreWords (saved_locals s back)
local_words s back h k = all_map IsWord (saved_local s back) (range_with_len 0 LOCALS) (λ r. by_register r (r == RIP))
  where
    by_register : (r : ℕ) (b : Bool) → IsWord (cond b back (s.regs r))
    by_register r true = k
    by_register r false = h.regs r

pushing_words : (s : State) (p : Push) (back to : ℕ) → HasWords s → IsPushed p → IsWord back → IsWord to → DoesWords (pushing s p back to)
pushing_words s p back to h push k next = record {
  registers = sets_pushed p push;
  saves = (push.save, refl, local_words s back h k);
  starts = tt;
  next = next;
}

-- ---- an instruction

other_words : (b : Bool) (i : Inst) (s : State) → HasWords s → HasLines s → HasSmall i
    → DoesWords (cond b (branching i s) (resulting i s (answer_in i s)))
other_words true i s h l small =
    let to = aligned_word (target i s) (omega arith) in
    setting tt (either_word (is_taken i (value s i.a) (value s i.b) s.ac) (aligned (target i s)) (following i s) to (behind_word i s))
other_words false i s h l small =
    let a = sources_words s i.a 4 h l small.a in
    let b = sources_words s i.b 2 h l small.b in
    let c = value_word s i.c h l small.c in
    let results = results_words i.op (source_words s i.a 4) (source_words s i.b 2) (value s i.c) s.ac a b c in
    setting (assigned_words (destination i) (values_of (answer_in i s)) results) (behind_word i s)

-- a destination gets one word
one_set : (o : Operand) (v : ℕ) → IsWord v → ArePut (2 ^ 32) (assigned o (v ∷ []))
one_set o v h = assigned_words o (v ∷ []) (h, tt)

atomic_words : (i : Inst) (s : State) (marked : Bool) (change : ℕ → ℕ) → HasWords s → DoesWords (atomic i s marked change)
atomic_words i s marked change h =
    let a = atomic_address i s in
    setting (one_set i.c (word_in (legible s) a) (word_below (legible s) a (legible_bytes s h))) (behind_word i s)

message_words : (m : Message) (i : Inst) (s : State) → HasWords s → HasLines s → HasSmall i → DoesWords (message_action m i s)
message_words AsksRestart i s h l small =
    record { registers = tt; saves = tt; starts = value_word s i.b h l small.b; next = behind_word i s }
message_words _ i s h l small = record { registers = tt; saves = tt; starts = tt; next = behind_word i s }

-- a call to an address
call_words : (i : Inst) (s : State) (to : ℕ) → HasWords s → IsWord to → DoesWords (call_action i s to)
call_words i s to h k =
    let p = pushed (s.regs FP) (s.regs SP) 0 LOCAL_RETURN in
    let push = pushed_words (s.regs FP) (s.regs SP) 0 LOCAL_RETURN (h.regs FP) (omega arith) in
    pushing_words s p (following i s) (aligned to) h push (behind_word i s) (aligned_word to k)

calls_words : (i : Inst) (s : State) → HasWords s → DoesWords (calls_action i s)
calls_words i s h = pushing_words s (system_call i s).push (following i s) (system_call i s).target h both.0 (behind_word i s) both.1
  where
    both : IsPushed (system_call i s).push × IsWord (system_call i s).target
    both = call_by (λ (x : Sys). IsPushed x.push × IsWord x.target) i s (record {
      switched = λ x y. (pushed_words (s.regs FP) _ 0 _ (h.regs FP) (omega arith), aligned_word _ (word_below s.memory x h.bytes));
      here = λ x. (pushed_words (s.regs FP) (s.regs SP) 0 _ (h.regs FP) (omega arith), aligned_word _ (word_below s.memory x h.bytes));
    })

ret_words : (s : State) → HasWords s → DoesWords (ret_action s)
unfolding popped
ret_words s h =
    let a = rounded_down (s.regs PFP) in
    let m = left_memory s.frames.live s in
    let bytes = left_bytes s.frames.live s h in
    let pfp = h.regs PFP in record {
      registers = frame_words (words_in m a LOCALS) a (words_below m a LOCALS bytes) (omega (arith, pfp));
      saves = tt;
      starts = tt;
      next = aligned_word _ (word_below m (wrapped (a + 8)) bytes);
    }

ruleset action_rules = (setting, one_set, behind_word, aligned_word, word_below, legible_bytes, call_words, calls_words, ret_words, message_words, other_words)

name_words : (op : Op) (i : Inst) (s : State) → HasWords s → HasLines s → IsKept s → HasSmall i → DoesWords (action_by_name op i s)
name_words Flushreg i s h l k small = record { registers = tt; saves = tt; starts = tt; next = behind_word i s }
name_words Modac i s h l k small = setting (one_set i.c s.ac (within_word AC_MASK s.ac (omega arith) k.ac)) (behind_word i s)
name_words Modtc i s h l k small = setting (one_set i.c s.trace.tc (within_word TC_MASK s.trace.tc (omega arith) k.tc)) (behind_word i s)
name_words Modpc i s h l k small = setting (one_set i.c s.pc (within_word PC_MASK s.pc (omega arith) k.pc)) (behind_word i s)
name_words _ i s h l k small = search (rules, arith, action_rules)

instruction_words : (i : Inst) (s : State) → HasWords s → HasLines s → IsKept s → HasSmall i → DoesWords (action_of i s)
unfolding action_of
instruction_words i s h l k small = by_transfer (transfer_of i.op)
  where
    by_transfer : (o : Option Transfer) → DoesWords (action_by o i s)
    by_transfer (Some t) = moving_words t.direction t.size t.signed i s h
    by_transfer None = name_words i.op i s h l k small

-- ---- what comes next

entering_words : (s : State) (fault : Fault) (e : Entry) → HasWords s → entry_in s fault ≡ Ok e → DoesWords (entering e s)
entering_words s fault e h ok =
    let push = λ (base : ℕ). pushed_words (s.regs FP) base RECORD_SIZE FAULT_RETURN (h.regs FP) (omega arith) in
    let target = λ (x : ℕ). aligned_word (word_in s.memory x) (word_below s.memory x h.bytes) in
    let made = entry_by (λ (x : Sys). IsPushed x.push × IsWord x.target) s fault e
    (record { switched = λ x y. (push (aligned (word_in s.memory y)), target x); here = λ x. (push (s.regs SP), target x) }) ok in
    let both : IsPushed e.push × IsWord e.target = subst (λ (x : Entry). IsPushed x.push × IsWord x.target) made.2 made.1 in
    pushing_words s e.push s.ip e.target h both.0 h.ip both.1

interrupting_words : (s : State) (c : Chosen) (e : Entry) → HasWords s → interrupt_in s c ≡ Ok e → DoesWords (interrupting c e s)
interrupting_words s c e h ok =
    let base = base_for s.pc (s.regs SP) s.tables.interrupt_stack in
    let push = pushed_words (s.regs FP) base RECORD_SIZE INTERRUPT_RETURN (h.regs FP) (omega arith) in
    let at = vector_place s.tables.interrupt_table c.vector in
    let made = entry_for s c in
    let pushes : DoesWords (interrupting c made s) = pushing_words s made.push s.ip made.target h push h.ip (aligned_word (word_in s.memory at) (word_below s.memory at h.bytes)) in
    subst (λ (x : Entry). DoesWords (interrupting c x s)) (interrupt_made s c e ok).0 pushes

kind_words : (limit : ℕ) (due : Due) (stands : Option Event) (k : Kind) (s : State) → MayCome limit due stands s k
    → IsTurn stands s k
    → HasWords s → HasLines s → IsKept s → DoesWords (action_by_kind k s)
kind_words limit due stands (Instruction i) s may d h l k =
    instruction_words i s h l k (decoded_small (first_word s) (next_word s) i d.1)
kind_words limit due stands (Faulted inst fault) s may d h l k = setting tt (omega arith)
kind_words limit due stands (Entered e) s may d h l k = entering_words s may.0 e h may.2
kind_words limit due stands (Interrupted c e) s may d h l k = interrupting_words s c e h may.3
kind_words limit due stands (Reached e u) s may d h l k = setting tt h.ip

-- ---- the state after it

start_words : (u : Setup) → ArePut (2 ^ 32) (start_sets u)
start_words u =
    let fp = first_frame u in
    frame_words (0 ∷ wrapped (fp + FRAME_SIZE) ∷ replicate 14 0) fp (omega arith, (omega arith, zero_words 14)) (omega arith)

-- a control group changes no register and no instruction address
group_words_kept : (a b c : Bool) (s : State) (group : ℕ) (ws : List ℕ) → HasWords s → HasWords (by_group a b c s group ws)
group_words_kept true b c s group ws h = h
group_words_kept false true c s group ws h = h
group_words_kept false false true s group ws h = h
group_words_kept false false false s group ws h = h

controlled_words : (s : State) (c : Control) → StartsWord c → HasWords s → HasWords (controlled s c)
unfolding started configured setup_of
controlled_words s KeepsControls first h = h
controlled_words s (Restarts first prcb) word h =
    let u = setup_of s.memory first prcb in
    record { regs = written_below (2 ^ 32) s.regs (start_sets u) h.regs (start_words u); ip = aligned_word first word; bytes = h.bytes; reading = h.reading }
controlled_words s (LoadsGroup group) first h =
    group_words_kept (group == 0) (group == 1) (group == 6) s group (group_words s.memory s.tables.control_table group) h

acted_words : (s : State) (a : Action) → DoesWords a → ArePut 256 a.writes → HasWords s → HasWords (acted s a)
unfolding acted moved
acted_words s a k stores h =
    let after = controlled_words (moved s a) a.control k.starts (record {
      regs = written_below (2 ^ 32) s.regs a.sets h.regs k.registers;
      ip = k.next;
      bytes = moved_bytes s a h.bytes stores;
      reading = h.reading;
    }) in
    subst HasWords (sym (flagged-others a.trace (controlled (moved s a) a.control))) after

-- ---- a run

boot_words : (image : List (ℕ × ℕ)) → HasBytes image → HasWords (boot image)
unfolding boot started boot_setup setup_of with_boot_bytes
boot_words image h =
    let m = image_memory image in record {
      regs = written_below (2 ^ 32) (λ _. 0) (start_sets (boot_setup m)) (λ x. omega arith) (start_words (boot_setup m));
      ip = aligned_word _ (word_below (with_boot_bytes m) FIRST_INSTRUCTION (image_bytes image h));
      bytes = boot_bytes image h;
      reading = λ b k. omega arith;
    }

done_words : (g : Given) (r : Record) (rs : List Record) → IsPlan g.plan → IsPast g (r ∷ rs) → HasWords (state_after g rs)
    → DoesWords (action_by_kind r.kind (state_after g rs))
done_words g r rs plan past h =
    let s = state_after g rs in
    let event = event_after g rs in
    let comes = next_comes g.length (due_after rs) event s r past.1 in
    let turn = next_turn g.length (due_after rs) event s r past.1 in
    kind_words g.length (due_after rs) event r.kind s comes.1 turn h (lines_after g rs plan past.0)
    (kept_after g rs past.0)

pub words_after : (g : Given) (rs : List Record) → HasBytes g.image → IsPlan g.plan → IsPast g rs → HasWords (state_after g rs)
words_after g [] image plan past = boot_words g.image image
words_after g (r ∷ rs) image plan past =
    let s = state_after g rs in
    let h = words_after g rs image plan past.0 in
    let stores = done_stores g r rs plan past h.bytes in
    let after = acted_words s (action_by_kind r.kind s) (done_words g r rs plan past h) stores h in
    let comes = next_comes g.length (due_after rs) (event_after g rs) s r past.1 in
    subst (λ (q : Record). HasWords q.after) (sym comes.0) after

-- the frames that are saved
pub saved_after : (g : Given) (r : Record) (rs : List Record) → HasBytes g.image → IsPlan g.plan → IsPast g (r ∷ rs)
    → SavesWords (action_done r).move
saved_after g r rs image plan past =
    let comes = next_comes g.length (due_after rs) (event_after g rs) (state_after g rs) r past.1 in
    let done = done_words g r rs plan past (words_after g rs image plan past.0) in
    subst (λ (q : Record). SavesWords (action_done q).move) (sym comes.0) done.saves

-- ---- images

pub parts_bytes : (ps : List Part) → AreParts ps → HasBytes (pairs_of ps)
unfolding pairs_of
parts_bytes [] h = tt
parts_bytes (p ∷ ps) h =
    all_append (λ p. p.1 < 256) (pairs_of_part p) (pairs_of ps) (put_pairs 256 wrapped p.address p.bytes h.0.bytes)
    (parts_bytes ps h.1)
