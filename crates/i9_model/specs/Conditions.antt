-- The condition code, bits 0 to 2 of the arithmetic controls: 100 is less, 010 equal and 001 greater.
use Rattle.std.specs.Prelude.{ℕ, ◌+◌, ◌*◌, ◌/◌, ◌%◌, ◌==◌, nat_lt, Bool, not, if◌then◌else◌, bit_and, int_lt}
use Rattle.i9_isa.specs.Words.{bit}
use Rattle.i9_model.specs.Numbers.{signed}

-- the condition code of the arithmetic controls
abbrev pub code_of : ℕ → ℕ
code_of ac = ac % 8

-- the arithmetic controls with another condition code
abbrev pub with_code : ℕ → ℕ → ℕ
with_code ac code = ac / 8 * 8 + code % 8

-- a condition holds where the mask and the code have a bit in common, or both are 000
abbrev pub holds : ℕ → ℕ → Bool
holds mask code = if mask == 0 then code == 0 else not (bit_and mask code == 0)

-- 010 where something is so, else 000
abbrev pub code_where : Bool → ℕ
code_where so = if so then 2 else 0

-- the code of a against b, as numbers from 0
abbrev pub compared : ℕ → ℕ → ℕ
compared a b = if nat_lt a b then 4 else if a == b then 2 else 1

-- the code of a against b, as signed numbers
abbrev pub signed_compared : ℕ → ℕ → ℕ
signed_compared a b = if int_lt (signed a) (signed b) then 4 else if a == b then 2 else 1

-- bit p of a word, with p a place modulo 32
abbrev pub bit_in : ℕ → ℕ → Bool
bit_in w place = bit w (place % 32)
