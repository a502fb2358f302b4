-- Results of instructions over registers: the words for the destination, the arithmetic controls afterwards, and
-- perhaps a fault. The table is that of the i960 CA/CF User's Manual, instruction set; what is this project's own is
-- said beside it. Numbers are whole numbers without bound, reduced at the end.
use Rattle.std.specs.Prelude.{ℕ, ◌+◌, ◌*◌, ◌/◌, ◌%◌, ◌^◌, ◌==◌, nat_lt, nat_le, Option, Some, None, bit_and, bit_or}
use Rattle.std.specs.Prelude.{bit_xor, Bool, true, false, not, ◌||◌, List, [], ◌∷◌, slice_index, if◌then◌else◌, ℤ, pos}
use Rattle.std.specs.Prelude.{◌+ℤ◌, ◌-ℤ◌, ◌*ℤ◌, int_lt}
use Rattle.std.specs.Int.{from_bool}
use Rattle.std.specs.Int.RustNames.{int_div, int_rem}
use Rattle.i9_isa.specs.declared.op.Op.{Op}
use Rattle.i9_isa.specs.declared.op.Op.TheVariants.{And, Or, Xor, Nor, Xnor, Nand, Andnot, Notand, Ornot, Notor, Not}
use Rattle.i9_isa.specs.declared.op.Op.TheVariants.{Modify, Mov, Setbit, Clrbit, Notbit, Alterbit, Chkbit, Addo, Subo}
use Rattle.i9_isa.specs.declared.op.Op.TheVariants.{Mulo, Addi, Subi, Muli, Addc, Subc, Emul, Divo, Remo, Divi, Remi}
use Rattle.i9_isa.specs.declared.op.Op.TheVariants.{Modi, Shro, Shlo, Shri, Shrdi, Shli, Rotate, Extract, Cmpo, Cmpi}
use Rattle.i9_isa.specs.declared.op.Op.TheVariants.{Cmpinco, Cmpinci, Cmpdeco, Cmpdeci, Concmpo, Concmpi, Scanbyte}
use Rattle.i9_isa.specs.declared.op.Op.TheVariants.{Spanbit, Scanbit, Testno, Testg, Teste, Testge, Testl, Testne}
use Rattle.i9_isa.specs.declared.op.Op.TheVariants.{Testle, Testo, Movl, Movt, Movq, Ediv, Atadd, Atmod, Modac, Modtc}
use Rattle.i9_isa.specs.declared.op.Op.TheVariants.{Modpc, Sdma, Udma, Sysctl, Calls, Mark, Fmark, Flushreg, Syncf}
use Rattle.i9_isa.specs.declared.inst.Inst.{Inst}
use Rattle.i9_isa.specs.declared.format.Format.{Format}
use Rattle.i9_isa.specs.Table.{row_of}
use Rattle.i9_isa.specs.Operands.{words_written}
use Rattle.i9_isa.specs.Words.{bit, field}
use Rattle.i9_model.specs.declared.arith.Arith.{Arith}
use Rattle.i9_model.specs.declared.arith.Arith.TheVariants.{Overflow, ZeroDivide}
use Rattle.i9_model.specs.Writes.{wrapped}
use Rattle.i9_model.specs.Operands.{reduced}
use Rattle.i9_model.specs.Numbers.{signed, fits, modulo, shifted_down, complement, bit_word, highest_one}
use Rattle.i9_model.specs.Conditions.{code_of, with_code, holds, code_where, compared, signed_compared, bit_in}

-- ---- answers

-- what an instruction gives
pub record Answer : Type 0 where
  pub values : List ℕ
  pub controls : ℕ
  pub fault : Option Arith

-- words, and the controls as they are
abbrev pub words : List ℕ → ℕ → Answer
words vs ac = record { values = vs; controls = ac; fault = None }

-- one word, and the controls as they are
abbrev pub word : ℕ → ℕ → Answer
word v ac = words (v ∷ []) ac

-- one word and a new condition code
abbrev pub word_and_code : ℕ → ℕ → ℕ → Answer
word_and_code v new ac = word v (with_code ac new)

-- a new condition code alone
abbrev pub code : ℕ → ℕ → Answer
code new ac = words [] (with_code ac new)

-- a fault: no register is written, and the controls are as they are (this project's own)
abbrev pub faulting : Arith → ℕ → Answer
faulting fault ac = record { values = []; controls = ac; fault = Some fault }

-- overflow is a fault where bit 12 of the controls is clear; else the word is kept, and bit 8 is set
abbrev pub overflowing : ℕ → ℕ → Answer
overflowing v ac = if bit ac 12 then word v (bit_or ac (2 ^ 8)) else faulting Overflow ac

-- a word, or an overflow that keeps it
abbrev pub word_or_overflow : ℕ → Bool → ℕ → Answer
word_or_overflow v overflows ac = if overflows then overflowing v ac else word v ac

-- the low 32 bits of a signed result, which overflows where it is out of range
abbrev pub checked : ℤ → ℕ → Answer
checked z ac = word_or_overflow (reduced z) (not (fits z)) ac

-- a quotient or a remainder, and a fault where the divisor is 0
abbrev pub divided : ℕ → Answer → ℕ → Answer
divided a answer ac = if a == 0 then faulting ZeroDivide ac else answer

-- ---- their parts

-- The code of a sum of a, b and a carry: bit 1 is the carry out, bit 0 is signed overflow, and bit 2 is clear.
abbrev pub carry_code : ℕ → ℕ → ℕ → ℕ
carry_code a b carry = 2 * ((b + a + carry) / 2 ^ 32) + from_bool (not (fits (signed b +ℤ signed a +ℤ pos carry)))

-- a sum with the carry of bit 1 of the condition code
abbrev pub with_carry : ℕ → ℕ → ℕ → Answer
with_carry a b ac =
    let carry = field ac 1 1 in
    word_and_code (wrapped (b + a + carry)) (carry_code a b carry) ac

-- where bit 2 of the condition code is clear, 010 or 001 as a is at most b or not; else the code stays
abbrev pub code_unless_less : Bool → ℕ → Answer
code_unless_less at_most ac = if bit ac 2 then words [] ac else code (if at_most then 2 else 1) ac

-- the bytes of two words at a place, from the lowest, are the same
abbrev pub same_byte : ℕ → ℕ → ℕ → Bool
same_byte a b place = field a (8 * place) 8 == field b (8 * place) 8

-- some byte of two words is the same
abbrev pub shares_byte : ℕ → ℕ → Bool
shares_byte a b = same_byte a b 0 || same_byte a b 1 || same_byte a b 2 || same_byte a b 3

-- the place that was found, with code 010, or FFFFFFFF with code 000
abbrev pub found : Option ℕ → ℕ → Answer
found (Some place) ac = word_and_code place 2 ac
found None ac = word_and_code 0xFFFFFFFF 0 ac

-- 1 where the mask's condition holds, else 0
abbrev pub tested : ℕ → ℕ → Answer
tested mask ac = word (if holds mask (code_of ac) then 1 else 0) ac

-- a word shifted right by so many places; 0 from 32 on
abbrev pub shifted_right : ℕ → ℕ → ℕ
shifted_right w places = if nat_lt places 32 then w / 2 ^ places else 0

-- a word shifted left by so many places; 0 from 32 on
abbrev pub shifted_left : ℕ → ℕ → ℕ
shifted_left w places = if nat_lt places 32 then w * 2 ^ places % 2 ^ 32 else 0

-- a word turned left by fewer than 32 places: what leaves above comes in below
abbrev pub turned_left : ℕ → ℕ → ℕ
turned_left w places = w * 2 ^ places % 2 ^ 32 + w * 2 ^ places / 2 ^ 32

-- so many low bits of a word; all from 32 on (this project's own)
abbrev pub low_bits : ℕ → ℕ → ℕ
low_bits count w = if nat_lt count 32 then w % 2 ^ count else w

-- a number of 64 bits, from its low and its high word
abbrev pub long : ℕ → ℕ → ℕ
long low high = low + high * 2 ^ 32

-- the remainder and the low word of the quotient of a long number (this project's own)
abbrev pub long_divided : ℕ → ℕ → List ℕ
long_divided b a = b % a ∷ b / a % 2 ^ 32 ∷ []

-- ---- the table

-- names whose sources have one word each: a is src1, b is src2, and c the old src/dst
abbrev pub result_of : Op → ℕ → ℕ → ℕ → ℕ → Option Answer
-- bit by bit
result_of And a b c ac = Some (word (bit_and b a) ac)
result_of Or a b c ac = Some (word (bit_or b a) ac)
result_of Xor a b c ac = Some (word (bit_xor b a) ac)
result_of Nor a b c ac = Some (word (complement (bit_or b a)) ac)
result_of Xnor a b c ac = Some (word (complement (bit_xor b a)) ac)
result_of Nand a b c ac = Some (word (complement (bit_and b a)) ac)
result_of Andnot a b c ac = Some (word (bit_and b (complement a)) ac)
result_of Notand a b c ac = Some (word (bit_and (complement b) a) ac)
result_of Ornot a b c ac = Some (word (bit_or b (complement a)) ac)
result_of Notor a b c ac = Some (word (bit_or (complement b) a) ac)
result_of Not a b c ac = Some (word (complement a) ac)
result_of Modify a b c ac = Some (word (bit_or (bit_and b a) (bit_and c (complement a))) ac)
-- one word is moved
result_of Mov a b c ac = Some (word a ac)
-- one bit: set, cleared, flipped, made bit 1 of the condition code, and looked at
result_of Setbit a b c ac = Some (word (bit_or b (bit_word a)) ac)
result_of Clrbit a b c ac = Some (word (bit_and b (complement (bit_word a))) ac)
result_of Notbit a b c ac = Some (word (bit_xor b (bit_word a)) ac)
result_of Alterbit a b c ac = Some
    (word (if bit ac 1 then bit_or b (bit_word a) else bit_and b (complement (bit_word a))) ac)
result_of Chkbit a b c ac = Some (code (code_where (bit_in b a)) ac)
-- sums, differences and products
result_of Addo a b c ac = Some (word (wrapped (b + a)) ac)
result_of Subo a b c ac = Some (word (reduced (pos b -ℤ pos a)) ac)
result_of Mulo a b c ac = Some (word (wrapped (b * a)) ac)
result_of Addi a b c ac = Some (checked (signed b +ℤ signed a) ac)
result_of Subi a b c ac = Some (checked (signed b -ℤ signed a) ac)
result_of Muli a b c ac = Some (checked (signed b *ℤ signed a) ac)
result_of Addc a b c ac = Some (with_carry a b ac)
result_of Subc a b c ac = Some (with_carry (complement a) b ac)
result_of Emul a b c ac = Some (words (a * b % 2 ^ 32 ∷ a * b / 2 ^ 32 ∷ []) ac)
-- quotients and remainders; signed ones are towards zero
result_of Divo a b c ac = Some (divided a (word (b / a) ac) ac)
result_of Remo a b c ac = Some (divided a (word (b % a) ac) ac)
result_of Divi a b c ac = Some (divided a (checked (int_div (signed b) (signed a)) ac) ac)
result_of Remi a b c ac = Some (divided a (word (reduced (int_rem (signed b) (signed a))) ac) ac)
result_of Modi a b c ac = Some (divided a (word (reduced (modulo (signed b) (signed a))) ac) ac)
-- shifts, rotation and bit fields
result_of Shro a b c ac = Some (word (shifted_right b a) ac)
result_of Shlo a b c ac = Some (word (shifted_left b a) ac)
result_of Shri a b c ac = Some (word (reduced (shifted_down (signed b) (if nat_lt a 32 then a else 31))) ac)
result_of Shrdi a b c ac = Some (word (if nat_lt a 32 then reduced (int_div (signed b) (pos (2 ^ a))) else 0) ac)
result_of Shli a b c ac = Some (checked (signed b *ℤ pos (2 ^ a)) ac)
result_of Rotate a b c ac = Some (word (turned_left b (a % 32)) ac)
result_of Extract a b c ac = Some (word (low_bits b (shifted_right c a)) ac)
-- comparisons
result_of Cmpo a b c ac = Some (code (compared a b) ac)
result_of Cmpi a b c ac = Some (code (signed_compared a b) ac)
result_of Cmpinco a b c ac = Some (word_and_code (wrapped (b + 1)) (compared a b) ac)
result_of Cmpinci a b c ac = Some (word_and_code (wrapped (b + 1)) (signed_compared a b) ac)
result_of Cmpdeco a b c ac = Some (word_and_code (reduced (pos b -ℤ pos 1)) (compared a b) ac)
result_of Cmpdeci a b c ac = Some (word_and_code (reduced (pos b -ℤ pos 1)) (signed_compared a b) ac)
result_of Concmpo a b c ac = Some (code_unless_less (nat_le a b) ac)
result_of Concmpi a b c ac = Some (code_unless_less (not (int_lt (signed b) (signed a))) ac)
result_of Scanbyte a b c ac = Some (code (code_where (shares_byte a b)) ac)
-- places of bits
result_of Spanbit a b c ac = Some (found (highest_one 32 (complement a)) ac)
result_of Scanbit a b c ac = Some (found (highest_one 32 a) ac)
-- tests of the condition code, with the masks 0 to 7
result_of Testno a b c ac = Some (tested 0 ac)
result_of Testg a b c ac = Some (tested 1 ac)
result_of Teste a b c ac = Some (tested 2 ac)
result_of Testge a b c ac = Some (tested 3 ac)
result_of Testl a b c ac = Some (tested 4 ac)
result_of Testne a b c ac = Some (tested 5 ac)
result_of Testle a b c ac = Some (tested 6 ac)
result_of Testo a b c ac = Some (tested 7 ac)
result_of _ a b c ac = None

-- each name, of the words of src1 and src2, the old src/dst and the arithmetic controls; None where it has no result
-- here
abbrev pub results_by : Op → List ℕ → List ℕ → ℕ → ℕ → Option Answer
results_by Movl a b c ac = Some (words (slice_index a 0 ∷ slice_index a 1 ∷ []) ac)
results_by Movt a b c ac = Some (words (slice_index a 0 ∷ slice_index a 1 ∷ slice_index a 2 ∷ []) ac)
results_by Movq a b c ac = Some (words (slice_index a 0 ∷ slice_index a 1 ∷ slice_index a 2 ∷ slice_index a 3 ∷ []) ac)
results_by Ediv a b c ac = Some (divided (slice_index a 0)
    (words (long_divided (long (slice_index b 0) (slice_index b 1)) (slice_index a 0)) ac) ac)
results_by op a b c ac = result_of op (slice_index a 0) (slice_index b 0) c ac

-- what an instruction gives
abbrev pub results : Inst → List ℕ → List ℕ → ℕ → ℕ → Option Answer
results i a b c ac = results_by i.op a b c ac

-- ---- its names

-- a name of the register format, or a test, which is the compare-and-branch name that writes src1
abbrev pub is_register_or_test : Format → ℕ → Bool
is_register_or_test Format.Reg written = true
is_register_or_test Format.Cobr written = written == 1
is_register_or_test _ written = false

-- whether a name has a result here; those that work on memory, controls or frames have none
abbrev pub has_result : Op → Bool
has_result Atadd = false
has_result Atmod = false
has_result Modac = false
has_result Modtc = false
has_result Modpc = false
has_result Sdma = false
has_result Udma = false
has_result Sysctl = false
has_result Calls = false
has_result Mark = false
has_result Fmark = false
has_result Flushreg = false
has_result Syncf = false
has_result op = is_register_or_test (row_of op).format (words_written (row_of op).a)

-- how many words the destination of a name has: src1 is that of a test, and src/dst of the others
abbrev pub destination_words : Op → ℕ
destination_words op = words_written (row_of op).a + words_written (row_of op).c
