-- The pins of interrupts: their levels, and the pending word.
use Rattle.std.specs.Prelude.{ℕ, ◌+◌, ◌-◌, Bool, bit_and, bit_or}
use Rattle.i9_isa.specs.Words.{bit, field}
use Rattle.i9_model.specs.State.{Interrupts}

-- bit 2 + x of the control word chooses a falling edge for pin x where it is set, and level detection where it is clear
abbrev pub by_edge : Interrupts → ℕ → Bool
by_edge s x = bit s.icon (2 + x)

abbrev pub is_low : Interrupts → ℕ → Bool
is_low s x = bit s.low x

-- the low pins under level detection
abbrev pub level_word : Interrupts → ℕ
level_word s = bit_and s.low (255 - field s.icon 2 8)

-- the pending word: the kept one, with the bits of these
abbrev pub pending_word : Interrupts → ℕ
pending_word s = bit_or s.pending (level_word s)
