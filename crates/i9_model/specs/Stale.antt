-- Stale values: the marks that go with them, and the uses that marked registers allow. A register is marked where soft
-- bytes decide its value. All of this is this project's own.
use Rattle.std.specs.Prelude.{ℕ, ◌+◌, ◌*◌, ◌/◌, ◌%◌, ◌^◌, ◌==◌, Bool, true, false, ◌||◌, ◌&&◌, not, if◌then◌else◌, List}
use Rattle.std.specs.Prelude.{[], ◌∷◌, ◌++◌, map, replicate, Option, Some, None}
use Rattle.std.specs.List.{list_any, range_with_len}
use Rattle.i9_isa.specs.declared.op.Op.{Op}
use Rattle.i9_isa.specs.declared.op.Op.TheVariants.{Mov, Movl, Movt, Movq, Lda, Atadd, Atmod, Bx, Balx, Callx, Ret}
use Rattle.i9_isa.specs.declared.op.Op.TheVariants.{Modpc, Sysctl}
use Rattle.i9_isa.specs.declared.size.Size.{Size}
use Rattle.i9_isa.specs.declared.size.Size.TheVariants.{Byte, Half, Words}
use Rattle.i9_isa.specs.declared.size.Direction.{Direction}
use Rattle.i9_isa.specs.declared.size.Direction.TheVariants.{Load, Store}
use Rattle.i9_isa.specs.declared.size.Transfer.{Transfer}
use Rattle.i9_isa.specs.declared.inst.Operand.{Operand}
use Rattle.i9_isa.specs.declared.inst.Operand.TheVariants.{Reg, Lit, Sfr}
use Rattle.i9_isa.specs.declared.inst.Ea.{Ea}
use Rattle.i9_isa.specs.declared.inst.Inst.{Inst}
use Rattle.i9_isa.specs.Operands.{words_read, has_base, has_index}
use Rattle.i9_isa.specs.Table.{row_of}
use Rattle.i9_isa.specs.Transfers.{transfer_of, byte_count, register_count}
use Rattle.i9_isa.specs.Keeping.{keeps_marks}
use Rattle.i9_model.specs.declared.layout.TheConstants.{LOCALS, PFP, SP, RIP, FP}
use Rattle.i9_model.specs.Writes.{wrapped}
use Rattle.i9_model.specs.Memory.{Memory, in_port_page}
use Rattle.i9_model.specs.State.{State, aligned}
use Rattle.i9_model.specs.Frames.{places, rounded_down}
pub use Rattle.i9_model.specs.Frames.{word_mark, left_stale}
use Rattle.i9_model.specs.Hazards.{or_else, save_hazard}
use Rattle.i9_model.specs.Calls.{takes_record, return_type}
use Rattle.i9_model.specs.Faults.{is_special}
use Rattle.i9_model.specs.Operands.{value, address}
use Rattle.i9_model.specs.Results.{destination_words}

-- ---- marks beside values

-- of places in a row from a number on, those that are marked
abbrev pub picked : (ℕ → ℕ) → ℕ → List Bool → List ℕ
picked place n [] = []
picked place n (b ∷ bs) = if b then place n ∷ picked place (n + 1) bs else picked place (n + 1) bs

-- a destination's registers that get marks
abbrev pub marks_for : Operand → List Bool → List ℕ
marks_for (Reg r) bs = picked (λ k. k) r bs
marks_for (Lit n) bs = []
marks_for (Sfr k) bs = []

-- the bytes of words have the marks of their words
abbrev pub byte_marks : List Bool → List Bool
byte_marks [] = []
byte_marks (b ∷ bs) = b ∷ b ∷ b ∷ b ∷ byte_marks bs

-- the mark of a word of a source of several
abbrev pub mark_of : State → Operand → ℕ → Bool
mark_of s (Reg r) k = if k == 0 then s.marks r else s.marks (r + k)
mark_of s (Lit n) k = false
mark_of s (Sfr j) k = false

abbrev pub marks_of : State → Operand → ℕ → List Bool
marks_of s o n = map (mark_of s o) (range_with_len 0 n)

abbrev pub word_marks : (ℕ → Bool) → ℕ → ℕ → List Bool
word_marks stale a n = map (λ k. word_mark stale (wrapped (a + 4 * k))) (range_with_len 0 n)

-- ---- loads and stores

-- memory as a load finds it: soft bytes are as the machine reads them
abbrev pub legible : State → Memory
legible s = record s.memory { bytes = λ x. if s.frames.soft x then s.reading (s.memory.bytes x) else s.memory.bytes x }

-- the marks of the registers that a load of a size sets
abbrev pub loaded_marks : Size → (ℕ → Bool) → ℕ → List Bool
loaded_marks Byte soft a = soft a ∷ []
loaded_marks Half soft a = (soft a || soft (wrapped (a + 1))) ∷ []
loaded_marks (Words n) soft a = word_marks soft a n

-- the marks of the bytes that a store of a size writes
abbrev pub stored_marks : Size → State → Operand → List Bool
stored_marks Byte s o = mark_of s o 0 ∷ []
stored_marks Half s o = mark_of s o 0 ∷ mark_of s o 0 ∷ []
stored_marks (Words n) s o = byte_marks (marks_of s o n)

-- ---- calls and returns

-- the marks of the locals that a push saves: the return address has none
abbrev pub saved_mark : State → ℕ → Bool
saved_mark s r = if r == RIP then false else s.marks r

abbrev pub saved_marks : State → List Bool
saved_marks s = map (saved_mark s) (range_with_len 0 LOCALS)

-- a return reads what was stored; where no frame is live it reads as a load does
abbrev pub left_memory : List ℕ → State → Memory
left_memory [] s = legible s
left_memory (f ∷ live) s = s.memory

-- ---- the registers that an instruction reads

abbrev pub registers_of : Operand → ℕ → List ℕ
registers_of (Reg r) n = range_with_len r n
registers_of (Lit l) n = []
registers_of (Sfr k) n = []

-- as sources, by its row
abbrev pub sources : Inst → List ℕ
sources i =
    registers_of i.a (words_read (row_of i.op).a)
    ++ (registers_of i.b (words_read (row_of i.op).b) ++ registers_of i.c (words_read (row_of i.op).c))

-- for its effective address
abbrev pub address_registers : Ea → List ℕ
address_registers e = (if has_base e.mode then e.base ∷ [] else []) ++ (if has_index e.mode then e.index ∷ [] else [])

abbrev pub is_marked : State → List ℕ → Bool
is_marked s rs = list_any s.marks rs

-- ---- results

-- words are moved as they are
abbrev pub moves_words : Op → Bool
moves_words Mov = true
moves_words Movl = true
moves_words Movt = true
moves_words Movq = true
moves_words _ = false

-- the marks of a result: word by word where words are moved, and else one for all, where some source is marked
abbrev pub result_marks : Inst → State → List Bool
result_marks i s =
    if moves_words i.op then marks_of s i.a (destination_words i.op)
    else replicate (destination_words i.op) (is_marked s (sources i))

-- the marks of the destination: of a load or an atomic instruction by the bytes that are read, of lda by its address
abbrev pub moved_marks : Direction → Size → Inst → State → List Bool
moved_marks Load size i s = loaded_marks size s.frames.soft (address s i.ea)
moved_marks Store size i s = []

abbrev pub marks_by_name : Op → Inst → State → List Bool
marks_by_name Lda i s = is_marked s (address_registers i.ea) ∷ []
marks_by_name Atadd i s = word_mark s.frames.soft (aligned (value s i.a)) ∷ []
marks_by_name Atmod i s = word_mark s.frames.soft (aligned (value s i.a)) ∷ []
marks_by_name op i s = result_marks i s

abbrev pub marks_by : Option Transfer → Inst → State → List Bool
marks_by (Some t) i s = moved_marks t.direction t.size i s
marks_by None i s = marks_by_name i.op i s

abbrev pub destination_marks : Inst → State → List Bool
destination_marks i s = marks_by (transfer_of i.op) i s

-- ---- what a marked register may not decide

-- message 3 of sysctl takes an instruction address and a PRCB
abbrev pub restart_registers : Inst → State → List ℕ
restart_registers i s = if value s i.a / 2 ^ 8 % 2 ^ 8 == 3 then registers_of i.b 1 ++ registers_of i.c 1 else []

-- a return from a fault or an interrupt reads its record below fp
abbrev pub record_registers : State → List ℕ
record_registers s = if takes_record (return_type (s.regs PFP)) then FP ∷ [] else []

-- The registers that decide more than values: an address, a condition, a fault, a count, a control word. Names that
-- keep marks have none, nor has lda. What sysctl and a return read beside these depends on the first of them.
abbrev pub deciding : Op → Inst → State → List ℕ
deciding Lda i s = []
deciding Atadd i s = registers_of i.a 1
deciding Atmod i s = registers_of i.a 1
deciding Bx i s = address_registers i.ea
deciding Balx i s = address_registers i.ea
deciding Callx i s = address_registers i.ea
deciding Ret i s = PFP ∷ record_registers s
deciding Modpc i s = registers_of i.b 1 ++ registers_of i.c 1
deciding Sysctl i s = registers_of i.a 1 ++ restart_registers i s
deciding op i s = if keeps_marks op then [] else sources i

abbrev pub deciding_by : Option Transfer → Inst → State → List ℕ
deciding_by (Some t) i s = address_registers i.ea
deciding_by None i s = deciding i.op i s

-- ---- marked values that go out

abbrev pub touches_port : ℕ → ℕ → Bool
touches_port a n = list_any in_port_page (places a n)

-- a store of a marked value to the port page
abbrev pub stored_out : Direction → Size → Inst → State → Bool
stored_out Load size i s = false
stored_out Store size i s = is_marked s (registers_of i.c (register_count size))
    && touches_port (address s i.ea) (byte_count size)

-- The same of an atomic instruction, whose new word is marked where the old one is stale or a data register is marked.
-- With marked data its destination is no special function register.
abbrev pub changed_out : List ℕ → Inst → State → Bool
changed_out datas i s =
    let a = aligned (value s i.a) in
    (word_mark s.frames.soft a || is_marked s datas) && touches_port a 4 || is_marked s datas && is_special i.c

abbrev pub goes_out : Op → Inst → State → Bool
goes_out Atadd i s = changed_out (registers_of i.b 1) i s
goes_out Atmod i s = changed_out (registers_of i.b 1 ++ registers_of i.c 1) i s
goes_out _ i s = false

abbrev pub goes_out_by : Option Transfer → Inst → State → Bool
goes_out_by (Some t) i s = stored_out t.direction t.size i s
goes_out_by None i s = goes_out i.op i s

-- a special function register gets no marked value
abbrev pub reaches_special : Inst → State → Bool
reaches_special i s = is_special i.c && list_any (λ b. b) (destination_marks i s)

-- a marked register is used otherwise than it may be
unfoldable pub misuses : Inst → State → Bool
misuses i s = is_marked s (deciding_by (transfer_of i.op) i s)
    || (reaches_special i s || goes_out_by (transfer_of i.op) i s)

-- ---- pushes

-- A push takes its save address from fp, and where its frame is on the stack in use, its base from sp. Neither may be
-- marked. Such a push is named by the instruction address.
abbrev pub push_mark : State → Bool → Option ℕ
push_mark s switched = if s.marks FP || (not switched && s.marks SP) then Some s.ip else None

-- this comes before the save area
abbrev pub area_hazard : State → Bool → Option ℕ
area_hazard s switched = or_else (push_mark s switched) (save_hazard s.frames (rounded_down (s.regs FP)))
