-- One instruction in a state: what it does is data, and one function applies it.
use Rattle.std.specs.Prelude.{ℕ, ◌+◌, ◌-◌, ◌*◌, ◌/◌, nat_lt, ◌%◌, ◌^◌, ◌==◌, Bool, true, false, ◌||◌, if◌then◌else◌}
use Rattle.std.specs.Prelude.{bit_and, bit_or, List, [], ◌∷◌, ◌++◌, map, replicate, Option, Some, None}
use Rattle.std.specs.List.{range_with_len}
use Rattle.i9_isa.specs.declared.op.Op.{Op}
use Rattle.i9_isa.specs.declared.op.Op.TheVariants.{Lda, Atadd, Atmod, Bx, Balx, Bal, Call, Callx, Calls, Ret, Flushreg}
use Rattle.i9_isa.specs.declared.op.Op.TheVariants.{Modac, Modtc, Modpc, Sdma, Sysctl}
use Rattle.i9_isa.specs.declared.size.Transfer.{Transfer}
use Rattle.i9_isa.specs.declared.size.Direction.{Direction}
use Rattle.i9_isa.specs.declared.size.Direction.TheVariants.{Load, Store}
use Rattle.i9_isa.specs.declared.size.Size.{Size}
use Rattle.i9_isa.specs.declared.size.Size.TheVariants.{Byte, Half, Words}
use Rattle.i9_isa.specs.declared.inst.Operand.{Operand}
use Rattle.i9_isa.specs.declared.inst.Operand.TheVariants.{Reg}
use Rattle.i9_isa.specs.declared.inst.Inst.{Inst}
use Rattle.i9_isa.specs.Operands.{words_written}
use Rattle.i9_isa.specs.Table.{row_of}
use Rattle.i9_isa.specs.Transfers.{transfer_of}
use Rattle.i9_isa.specs.Words.{words_of}
use Rattle.i9_model.specs.declared.layout.TheConstants.{LOCALS, PFP, SP, RIP, LINK, FP, LOCAL_RETURN, AC_MASK, PC_MASK}
use Rattle.i9_model.specs.declared.layout.TheConstants.{TC_MASK}
use Rattle.i9_model.specs.declared.push.Push.{Push}
use Rattle.i9_model.specs.declared.calls.Sys.{Sys}
use Rattle.i9_model.specs.declared.calls.Pop.{Pop}
use Rattle.i9_model.specs.declared.faults.Entry.{Entry}
use Rattle.i9_model.specs.declared.trace.Trace.{Trace}
use Rattle.i9_model.specs.declared.interrupts.TheConstants.{FIRST_VECTOR}
use Rattle.i9_model.specs.Writes.{wrapped, written, upwards}
use Rattle.i9_model.specs.Memory.{Memory, half_in, half_bytes, word_in, word_bytes, words_in, with_writes, with_words}
use Rattle.i9_model.specs.State.{State, Frames, Interrupts, Dma, Channel, aligned}
pub use Rattle.i9_model.specs.State.{frame_sets}
use Rattle.i9_model.specs.Controls.{Control, KeepsControls, Restarts, LoadsGroup, marks_after, controlled}
use Rattle.i9_model.specs.Frames.{pushed, saved, with_marked, returned, flushed, wrote, softened}
use Rattle.i9_model.specs.Hazards.{return_place}
use Rattle.i9_model.specs.Stale.{picked, marks_for, byte_marks, mark_of, word_mark, word_marks, legible, loaded_marks}
use Rattle.i9_model.specs.Stale.{stored_marks, saved_marks, left_memory, left_stale, address_registers, is_marked}
use Rattle.i9_model.specs.Stale.{result_marks}
use Rattle.i9_model.specs.Requests.{request_writes}
use Rattle.i9_model.specs.Dma.{set_up}
use Rattle.i9_model.specs.Calls.{priority_of, caller_in, call_type, system_entered, record_address, popped}
use Rattle.i9_model.specs.Operands.{value, word_of, source_words, assigned, interrupts_assigned, dma_assigned, address}
use Rattle.i9_model.specs.Operands.{target}
use Rattle.i9_model.specs.Numbers.{complement}
use Rattle.i9_model.specs.Results.{Answer, results}
use Rattle.i9_model.specs.Branches.{question_of, asks, branch_controls, is_taken}

-- ---- what an instruction does

-- what it does to frames: nothing, it saves the locals at an address, it returns, or it flushes
pub data Move : Type 0 where
  Stays : Move
  Saves : (save : ℕ) → (words : List ℕ) → Move
  Returns : Move
  Flushes : Move

-- the registers that are set; the bytes that are written; the frames; the arithmetic, process and trace controls,
-- the check flag, interrupts and DMA afterwards; the other controls; the next address; where trace events count,
-- the trace controls with their flags and the subtype of their fault; and what has a mark: of the registers that are
-- set, of the bytes that are written, and of the bytes of the frame that is saved
pub record Action : Type 0 where
  pub sets : List (ℕ × ℕ)
  pub writes : List (ℕ × ℕ)
  pub move : Move
  pub ac : ℕ
  pub pc : ℕ
  pub tc : ℕ
  pub check : Bool
  pub interrupts : Interrupts
  pub dma : Dma
  pub control : Control
  pub next : ℕ
  pub trace : Option Trace
  pub marked : List ℕ
  pub stale : List ℕ
  pub lost : List ℕ

-- Nothing is done, but control goes to an address. The choice of an interrupt that came before has looked at what
-- software asks for, where the check flag was set, so the flag is clear.
abbrev pub going : State → ℕ → Action
going s next = record {
  sets = [];
  writes = [];
  move = Stays;
  ac = s.ac;
  pc = s.pc;
  tc = s.trace.tc;
  check = false;
  interrupts = s.interrupts;
  dma = s.dma;
  control = KeepsControls;
  next = next;
  trace = None;
  marked = [];
  stale = [];
  lost = [];
}

-- the address behind an instruction
abbrev pub following : Inst → State → ℕ
following i s = wrapped (s.ip + 4 * words_of i)

-- nothing is done
abbrev pub passing : Inst → State → Action
passing i s = going s (following i s)

-- a destination gets values
abbrev pub assigning : Operand → List ℕ → Action → Action
assigning o vs a = record a {
  sets = assigned o vs;
  interrupts = interrupts_assigned o vs a.interrupts;
  dma = dma_assigned o vs a.dma;
}

-- its registers get these marks
abbrev pub marking : Operand → List Bool → Action → Action
marking o bs a = record a { marked = marks_for o bs }

-- a destination gets one value, and nothing else is done
abbrev pub answering : Inst → State → ℕ → Action
answering i s v = assigning i.c (v ∷ []) (passing i s)

-- ---- loads, stores and atomics

-- a number of so many bits in two's complement, as a word
abbrev pub extended : ℕ → ℕ → ℕ
extended width v = if nat_lt v (2 ^ (width - 1)) then v else v + 2 ^ 32 - 2 ^ width

-- a byte or a half with zeros above, or with its sign
abbrev pub filled : Bool → ℕ → ℕ → ℕ
filled signed width v = if signed then extended width v else v

-- the words that a load of a size reads, groups upwards
abbrev pub loaded : Size → Bool → Memory → ℕ → List ℕ
loaded Byte signed m a = filled signed 8 (m.bytes a) ∷ []
loaded Half signed m a = filled signed 16 (half_in m a) ∷ []
loaded (Words n) signed m a = words_in m a n

-- the bytes of words that are stored from an address up, each in the order of its own region
unfoldable pub bytes_of_words : Memory → ℕ → List ℕ → List ℕ
bytes_of_words m a [] = []
bytes_of_words m a (w ∷ ws) = word_bytes m a w ++ bytes_of_words m (wrapped (a + 4)) ws

-- the bytes that a store of a size writes of its source: the low ones of a byte and of a half, groups upwards
abbrev pub stored_of : Size → State → Operand → ℕ → List ℕ
stored_of Byte s o a = value s o % 2 ^ 8 ∷ []
stored_of Half s o a = half_bytes s.memory a (value s o % 2 ^ 16)
stored_of (Words n) s o a = bytes_of_words s.memory a (source_words s o n)

abbrev pub loading : Size → Bool → Inst → State → Action
loading size signed i s =
    let a = address s i.ea in
    marking i.c (loaded_marks size s.frames.soft a) (assigning i.c (loaded size signed (legible s) a) (passing i s))

abbrev pub storing : Size → Inst → State → Action
storing size i s = record (passing i s) {
  writes = upwards (address s i.ea) (stored_of size s i.c (address s i.ea));
  stale = picked wrapped (address s i.ea) (stored_marks size s i.c);
}

-- loads and stores go between registers and memory
abbrev pub moving : Direction → Size → Bool → Inst → State → Action
moving Load size signed i s = loading size signed i s
moving Store size signed i s = storing size i s

abbrev pub transferring : Transfer → Inst → State → Action
transferring t i s = moving t.direction t.size t.signed i s

-- an old word with other bits where a mask has them
abbrev pub merged : ℕ → ℕ → ℕ → ℕ
merged old mask bits = bit_or (bit_and bits mask) (bit_and old (complement mask))

-- the word that an atomic instruction works on is at src1, whose low two bits are cleared
abbrev pub atomic_address : Inst → State → ℕ
atomic_address i s = aligned (value s i.a)

-- The old word is answered, and another one stored in its place. The answer is marked where the old word is stale, and
-- the new word is stale where that is so or where the data are marked.
abbrev pub atomic : Inst → State → Bool → (ℕ → ℕ) → Action
atomic i s data_marked change =
    let a = atomic_address i s in
    let old = word_in (legible s) a in
    let is_stale = word_mark s.frames.soft a in
    record (marking i.c (is_stale ∷ []) (answering i s old)) {
      writes = upwards a (word_bytes s.memory a (change old));
      stale = picked wrapped a (byte_marks ((is_stale || data_marked) ∷ []));
    }

-- ---- branches

-- the condition code changes, and control goes to the target where the branch is taken
abbrev pub branching : Inst → State → Action
branching i s = record (passing i s) {
  ac = branch_controls i (value s i.a) (value s i.b) s.ac;
  next = if is_taken i (value s i.a) (value s i.b) s.ac then aligned (target i s) else following i s;
}

-- control goes to an address, and a destination gets the address behind the instruction
abbrev pub jumping : Inst → State → ℕ → Action
jumping i s to = going s (aligned to)

abbrev pub linking : Operand → Inst → State → ℕ → Action
linking o i s to = assigning o (following i s ∷ []) (jumping i s to)

-- ---- results

-- what an instruction of the register format, or a test, gives
abbrev pub answer_in : Inst → State → Option Answer
answer_in i s = results i (source_words s i.a 4) (source_words s i.b 2) (value s i.c) s.ac

-- the destination: src1 of a test, src/dst of the others
abbrev pub destination : Inst → Operand
destination i = if words_written (row_of i.op).a == 0 then i.c else i.a

abbrev pub values_of : Option Answer → List ℕ
values_of None = []
values_of (Some r) = r.values

abbrev pub controls_of : Option Answer → ℕ → ℕ
controls_of None ac = ac
controls_of (Some r) ac = r.controls

-- a result goes to the destination, and the arithmetic controls change with it
abbrev pub resulting : Inst → State → Option Answer → Action
resulting i s o = record
    (marking (destination i) (result_marks i s) (assigning (destination i) (values_of o) (passing i s)))
    { ac = controls_of o s.ac }

-- controls with other bits where a mask has them, of which some are kept
abbrev pub modified : ℕ → ℕ → ℕ → ℕ → ℕ
modified old mask bits kept = bit_and (merged old mask bits) kept

-- modac and modtc answer the old controls, and change them under the mask src1
abbrev pub modac_action : Inst → State → Action
modac_action i s = record (answering i s s.ac) { ac = modified s.ac (value s i.a) (value s i.b) AC_MASK }

abbrev pub modtc_action : Inst → State → Action
modtc_action i s = record (answering i s s.trace.tc) { tc = modified s.trace.tc (value s i.a) (value s i.b) TC_MASK }

-- modpc answers the old process controls, and changes them under the mask src2 to bits of src/dst
abbrev pub process_controls : Inst → State → ℕ
process_controls i s = modified s.pc (value s i.b) (value s i.c) PC_MASK

-- where it lowers the priority, the next choice of an interrupt looks at what software asks for
abbrev pub modpc_action : Inst → State → Action
modpc_action i s = record (answering i s s.pc) {
  pc = process_controls i s;
  check = nat_lt (priority_of (process_controls i s)) (priority_of s.pc);
}

-- ---- system control

-- the message of sysctl is bits 15 to 8 of src1, and its argument bits 7 to 0
abbrev pub message_of : Inst → State → ℕ
message_of i s = value s i.a / 2 ^ 8 % 2 ^ 8

abbrev pub argument_of : Inst → State → ℕ
argument_of i s = value s i.a % 2 ^ 8

-- what a message asks for: message 0 asks for an interrupt by its vector, or sets the check flag alone; message 3
-- starts the processor anew at src2, by the PRCB at src/dst, and message 4 loads a control group
pub data Message : Type 0 where
  AsksNothing : Message
  AsksCheck : Message
  AsksInterrupt : Message
  AsksRestart : Message
  AsksGroup : Message

-- a vector below the first one is ignored
abbrev pub interrupt_asked : ℕ → Message
interrupt_asked v = if nat_lt v FIRST_VECTOR then AsksCheck else AsksInterrupt

abbrev pub message_kind : ℕ → ℕ → Message
message_kind n argument =
    if n == 0 then interrupt_asked argument
    else if n == 3 then AsksRestart
    else if n == 4 then AsksGroup
    else AsksNothing

-- what sysctl asks for
abbrev pub asked_message : Inst → State → Message
asked_message i s = message_kind (message_of i s) (argument_of i s)

-- what software asks for is looked at before the next instruction; the other two flush first
abbrev pub message_action : Message → Inst → State → Action
message_action AsksNothing i s = passing i s
message_action AsksCheck i s = record (passing i s) { check = true }
message_action AsksInterrupt i s = record (passing i s) {
  writes = request_writes s.memory s.tables.interrupt_table (argument_of i s);
  check = true;
}
message_action AsksRestart i s = record (passing i s) { move = Flushes; control = Restarts (value s i.b) (value s i.c) }
message_action AsksGroup i s = record (passing i s) { move = Flushes; control = LoadsGroup (argument_of i s) }

-- ---- DMA

-- what sdma sets a channel up with: the control word src2, and a byte count, a source and a target in three registers
abbrev pub channel_in : Inst → State → Channel
channel_in i s = record {
  control = value s i.b;
  count = word_of s i.c 0;
  source = word_of s i.c 1;
  target = word_of s i.c 2;
}

abbrev pub sdma_action : Inst → State → Action
sdma_action i s = record (passing i s) { dma = set_up s.dma (value s i.a) (channel_in i s) }

-- ---- calls and returns

-- what a push saves of a register: rip has the return address
abbrev pub saved_local : State → ℕ → ℕ → ℕ
saved_local s back r = if r == RIP then back else s.regs r

-- the locals that a push saves
abbrev pub saved_locals : State → ℕ → List ℕ
saved_locals s back = map (saved_local s back) (range_with_len 0 LOCALS)

-- the registers of a new frame: pfp and sp, and zeros in the other locals
abbrev pub push_sets : Push → List (ℕ × ℕ)
push_sets p = frame_sets (p.pfp ∷ p.sp ∷ replicate 14 0) p.frame

-- the locals are saved with a return address, and control goes on in a new frame
abbrev pub pushing : State → Push → ℕ → ℕ → Action
pushing s p back next = record (going s next) {
  sets = push_sets p;
  move = Saves p.save (saved_locals s back);
  lost = picked wrapped p.save (byte_marks (saved_marks s));
}

-- call and callx go on in a frame above sp
abbrev pub call_action : Inst → State → ℕ → Action
call_action i s to = pushing s (pushed (s.regs FP) (s.regs SP) 0 LOCAL_RETURN) (following i s) (aligned to)

-- the procedure that calls enters
abbrev pub system_call : Inst → State → Sys
system_call i s = system_entered (caller_in s) s.tables.system_table (value s i.a) 0 (call_type s.pc)

abbrev pub calls_action : Inst → State → Action
calls_action i s = record (pushing s (system_call i s).push (following i s) (system_call i s).target)
    { pc = (system_call i s).pc }

-- what ret makes of the controls, and the frame that pfp names
abbrev pub return_in : State → Pop
return_in s = popped s.memory s.frames (s.regs PFP) (s.regs FP) s.pc s.ac

-- ret reads the locals of that frame, and goes on at its rip; that of an interrupt has software's requests looked at
abbrev pub ret_action : State → Action
ret_action s = record (going s (aligned (word_in (left_memory s.frames.live s) (return_place (return_in s).frame)))) {
  sets = frame_sets (words_in (left_memory s.frames.live s) (return_in s).frame LOCALS) (return_in s).frame;
  marked = picked (λ r. r) 0 (word_marks (left_stale s.frames.live s.frames) (return_in s).frame LOCALS);
  move = Returns;
  pc = (return_in s).pc;
  ac = (return_in s).ac;
  check = (return_in s).check;
}

-- ---- faults

-- an instruction that faults is counted, and control goes behind its words
abbrev pub faulting : ℕ → State → Action
faulting words s = going s (wrapped (s.ip + 4 * words))

-- The entry of a fault saves the locals with the address behind the instruction, writes its record, and goes on at its
-- handler. It is no instruction of its own, and comes before the next choice of an interrupt: the check flag stays.
abbrev pub entering : Entry → State → Action
entering e s = record (pushing s e.push s.ip e.target) {
  writes = upwards (record_address e.push.frame) (bytes_of_words s.memory (record_address e.push.frame) e.words);
  pc = e.pc;
  check = s.check;
}

-- a branch, and every other name by the table of results
abbrev pub other_action : Op → Inst → State → Action
other_action op i s = if asks (question_of op) then branching i s else resulting i s (answer_in i s)

-- Each name that is built and moves nothing between registers and memory: lda sets its destination to the effective
-- address; atadd and atmod answer the old word and store its sum with src2, or the bits of src/dst where src2 has
-- them; bx, balx and bal jump, and the last two link; flushreg flushes; sdma sets up the channel of src1; sysctl goes
-- by its message; syncf does nothing but drain, mark and fmark nothing but what tracing makes of them, and udma
-- nothing; the others branch or go by the table of results.
abbrev pub action_by_name : Op → Inst → State → Action
action_by_name Lda i s = marking i.c (is_marked s (address_registers i.ea) ∷ []) (answering i s (address s i.ea))
action_by_name Atadd i s = atomic i s (mark_of s i.b 0) (λ old. wrapped (old + value s i.b))
action_by_name Atmod i s = atomic i s (mark_of s i.b 0 || mark_of s i.c 0)
    (λ old. merged old (value s i.b) (value s i.c))
action_by_name Bx i s = jumping i s (address s i.ea)
action_by_name Balx i s = linking i.c i s (address s i.ea)
action_by_name Bal i s = linking (Reg LINK) i s (target i s)
action_by_name Call i s = call_action i s (target i s)
action_by_name Callx i s = call_action i s (address s i.ea)
action_by_name Calls i s = calls_action i s
action_by_name Ret i s = ret_action s
action_by_name Flushreg i s = record (passing i s) { move = Flushes }
action_by_name Modac i s = modac_action i s
action_by_name Modtc i s = modtc_action i s
action_by_name Modpc i s = modpc_action i s
action_by_name Sdma i s = sdma_action i s
action_by_name Sysctl i s = message_action (asked_message i s) i s
action_by_name op i s = other_action op i s

abbrev pub action_by : Option Transfer → Inst → State → Action
action_by (Some t) i s = transferring t i s
action_by None i s = action_by_name i.op i s

unfoldable pub action_of : Inst → State → Action
action_of i s = action_by (transfer_of i.op) i s

-- ---- the state after it

abbrev pub memory_after : Memory → Move → Memory
memory_after m Stays = m
memory_after m (Saves save words) = with_words m save words
memory_after m Returns = m
memory_after m Flushes = m

abbrev pub frames_after : Frames → Move → Frames
frames_after s Stays = s
frames_after s (Saves save words) = saved s save
frames_after s Returns = returned s
frames_after s Flushes = flushed s

-- all but the count, and the controls of start-up and of control groups
unfoldable pub moved : State → Action → State
moved s a = record s {
  regs = written s.regs a.sets;
  marks = marks_after s.marks a.sets a.marked;
  ac = a.ac;
  pc = a.pc;
  trace = record s.trace { tc = a.tc };
  check = a.check;
  interrupts = a.interrupts;
  dma = a.dma;
  memory = with_writes (memory_after s.memory a.move) a.writes;
  frames = softened (wrote (with_marked (frames_after s.frames a.move) a.lost) a.writes) a.stale;
  ip = a.next;
}

-- the flags of trace events come last, where some count
abbrev pub flagged : Option Trace → State → State
flagged None s = s
flagged (Some t) s = record s { trace = record s.trace { tc = t.tc } }

unfoldable pub acted : State → Action → State
acted s a = flagged a.trace (controlled (moved s a) a.control)

-- a state with so many instructions more
abbrev pub counted : ℕ → State → State
counted n s = record s { count = s.count + n }

-- ---- its own words

abbrev pub first_word : State → ℕ
first_word s = word_in s.memory s.ip

abbrev pub next_word : State → ℕ
next_word s = word_in s.memory (wrapped (s.ip + 4))
