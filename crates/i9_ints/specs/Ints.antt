-- Ints: what it stands for.
use Rattle.std.specs.Prelude.{ℕ, Bool, true, false, slice_set, [], ◌∷◌}
use Rattle.i9_model.specs.State.{Interrupts}
pub use Rattle.i9_model.specs.Operands.{with_pending, with_mask}
use Rattle.i9_model.specs.Interrupts.{lowered, raised}
use Rattle.i9_ints.specs.declared.state.Ints.{Ints}

unfoldable pub interrupts_of : Ints → Interrupts
interrupts_of s = record { pending = s.pending; mask = s.mask; maps = s.maps; icon = s.icon; low = s.low; nmi = s.nmi }

-- nothing is posted or unmasked, and all pins are high
abbrev pub no_interrupts : Interrupts
no_interrupts = record { pending = 0; mask = 0; maps = 0 ∷ 0 ∷ 0 ∷ []; icon = 0; low = 0; nmi = false }

-- a map word as it is written
abbrev pub with_map : Interrupts → ℕ → ℕ → Interrupts
with_map s k v = record s { maps = slice_set s.maps k v }

-- the levels of pins with that of one
abbrev pub with_level : Interrupts → ℕ → Bool → Interrupts
with_level s x true = lowered s x
with_level s x false = raised s x
