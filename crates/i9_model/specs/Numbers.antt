-- Words of 32 bits as numbers: signed readings, quotients and remainders over whole numbers, and places of bits.
use Rattle.std.specs.Prelude.{◌≡◌, ℕ, ◌<◌, zero, suc, ◌-◌, ◌/◌, ◌%◌, ◌^◌, Bool, true, false, nat_lt, bit_and}
use Rattle.std.specs.Prelude.{if◌then◌else◌, ℤ, pos, negsuc, ◌+ℤ◌, Option, Some, None}
use Rattle.std.specs.Int.{cast_signed, w32}
use Rattle.std.specs.Int.RustNames.{int_rem}
use Rattle.i9_isa.specs.Words.{bit}

-- ---- signed numbers

-- a word in two's complement
abbrev pub signed : ℕ → ℤ
signed w = cast_signed w32 w

-- a whole number is one of 32 bits in two's complement: from -2^31 to 2^31 - 1, and negsuc n is -1 - n
abbrev pub fits : ℤ → Bool
fits (pos n) = nat_lt n (2 ^ 31)
fits (negsuc n) = nat_lt n (2 ^ 31)

-- the first number isn't 0, and its sign differs from the second's
abbrev pub differs_in_sign : ℤ → ℤ → Bool
differs_in_sign (pos r) (pos a) = false
differs_in_sign (pos r) (negsuc a) = nat_lt 0 r
differs_in_sign (negsuc r) (pos a) = true
differs_in_sign (negsuc r) (negsuc a) = false

-- a remainder with the divisor added where their signs differ
abbrev pub sign_matched : ℤ → ℤ → ℤ
sign_matched r a = if differs_in_sign r a then r +ℤ a else r

-- the remainder of b by a that has the sign of a
abbrev pub modulo : ℤ → ℤ → ℤ
modulo b a = sign_matched (int_rem b a) a

-- a whole number over 2^k, rounded down
abbrev pub shifted_down : ℤ → ℕ → ℤ
shifted_down (pos n) k = pos (n / 2 ^ k)
shifted_down (negsuc n) k = negsuc (n / 2 ^ k)

-- ---- bits

-- a word has 32 bits
abbrev pub IsWord : ℕ → Type 0
IsWord w = w < 2 ^ 32

-- a word has no other bits than a mask
abbrev pub IsWithin : ℕ → ℕ → Type 0
IsWithin mask w = bit_and w mask ≡ w

-- the word with the other 32 bits
abbrev pub complement : ℕ → ℕ
complement w = 2 ^ 32 - 1 - w

-- the word with one bit, at a place modulo 32
abbrev pub bit_word : ℕ → ℕ
bit_word place = 2 ^ (place % 32)

-- the place of the highest 1 below place k
unfoldable pub highest_one : ℕ → ℕ → Option ℕ
highest_one zero w = None
highest_one (suc k) w = if bit w k then Some k else highest_one k w
