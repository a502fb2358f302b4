-- Operands: the value of a source, the register of a destination, the effective address, and the target of a branch.
use Rattle.std.specs.Prelude.{ℕ, ◌+◌, ◌^◌, ◌==◌, if◌then◌else◌, bit_and, List, [], ◌∷◌, map, ℤ, pos, unsigned_abs}
use Rattle.std.specs.List.{range_with_len}
use Rattle.std.specs.Int.{int_rem_euclid, w32, cast_unsigned}
use Rattle.i9_isa.specs.declared.inst.Operand.{Operand}
use Rattle.i9_isa.specs.declared.inst.Operand.TheVariants.{Reg, Lit, Sfr}
use Rattle.i9_isa.specs.declared.inst.Ea.{Ea}
use Rattle.i9_isa.specs.declared.inst.Inst.{Inst}
use Rattle.i9_model.specs.Writes.{wrapped, pairs_at}
use Rattle.i9_model.specs.Addresses.{address_of}
use Rattle.i9_model.specs.declared.dma.TheConstants.{COMMAND_MASK}
use Rattle.i9_model.specs.declared.interrupts.TheConstants.{LINE_MASK}
use Rattle.i9_model.specs.State.{State, Interrupts, Dma}
use Rattle.i9_model.specs.Pins.{pending_word}

-- ---- special function registers

-- sf0 is the pending word, and a write of it sets the kept one; sf1 the mask word, and sf2 the DMA command word
abbrev pub special : State → ℕ → ℕ
special s k = if k == 0 then pending_word s.interrupts else if k == 1 then s.interrupts.mask else s.dma.dmac

-- of the first two the bits of lines are kept, and of the third the two bits of each channel
abbrev pub with_pending : Interrupts → ℕ → Interrupts
with_pending i v = record i { pending = bit_and v LINE_MASK }

abbrev pub with_mask : Interrupts → ℕ → Interrupts
with_mask i v = record i { mask = bit_and v LINE_MASK }

abbrev pub with_special : ℕ → ℕ → Interrupts → Interrupts
with_special k v i = if k == 0 then with_pending i v else if k == 1 then with_mask i v else i

abbrev pub with_command : Dma → ℕ → Dma
with_command d v = record d { dmac = bit_and v COMMAND_MASK }

abbrev pub with_dma_special : ℕ → ℕ → Dma → Dma
with_dma_special k v d = if k == 2 then with_command d v else d

-- ---- sources and destinations

-- the value of a source
abbrev pub value : State → Operand → ℕ
value s (Reg r) = s.regs r
value s (Lit n) = n
value s (Sfr k) = special s k

-- a further word of a source of several: that of a higher register, else 0
abbrev pub higher_word : State → Operand → ℕ → ℕ
higher_word s (Reg r) k = s.regs (r + k)
higher_word s (Lit n) k = 0
higher_word s (Sfr j) k = 0

-- a word of a source of several
abbrev pub word_of : State → Operand → ℕ → ℕ
word_of s o k = if k == 0 then value s o else higher_word s o k

-- so many words of a source
abbrev pub source_words : State → Operand → ℕ → List ℕ
source_words s o n = map (word_of s o) (range_with_len 0 n)

-- what a destination gets: registers from one up
abbrev pub assigned : Operand → List ℕ → List (ℕ × ℕ)
assigned (Reg r) vs = pairs_at (λ k. k) r vs
assigned (Lit n) vs = []
assigned (Sfr k) vs = []

-- or a special function register, one value
abbrev pub interrupts_assigned : Operand → List ℕ → Interrupts → Interrupts
interrupts_assigned (Sfr k) (v ∷ vs) i = with_special k v i
interrupts_assigned (Sfr k) [] i = i
interrupts_assigned (Reg r) vs i = i
interrupts_assigned (Lit n) vs i = i

abbrev pub dma_assigned : Operand → List ℕ → Dma → Dma
dma_assigned (Sfr k) (v ∷ vs) d = with_dma_special k v d
dma_assigned (Sfr k) [] d = d
dma_assigned (Reg r) vs d = d
dma_assigned (Lit n) vs d = d

-- the effective address
abbrev pub address : State → Ea → ℕ
address s e = address_of e (s.regs e.base) (s.regs e.index) s.ip

-- a whole number modulo 2^32
abbrev pub reduced : ℤ → ℕ
reduced z = unsigned_abs (int_rem_euclid z (pos (2 ^ 32)))

-- the target of a branch: the instruction's own address and its displacement in two's complement
abbrev pub target : Inst → State → ℕ
target i s = wrapped (s.ip + cast_unsigned w32 i.disp)
