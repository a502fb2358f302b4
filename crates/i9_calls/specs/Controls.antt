-- Controls: those that a record keeps, and those after a return.
use Rattle.std.specs.Prelude.{ℕ, bit_and}
use Rattle.i9_model.specs.declared.layout.TheConstants.{PC_MASK, AC_MASK}
use Rattle.i9_model.specs.Memory.{Memory}
use Rattle.i9_model.specs.Calls.{saved_pc, saved_ac, returned_pc, returned_ac}
use Rattle.i9_calls.specs.declared.returns.Controls.{Controls}

-- the kept bits of the controls in the record below a frame
abbrev pub recorded : Memory → ℕ → Controls
recorded m fp = record { pc = bit_and (saved_pc m fp) PC_MASK; ac = bit_and (saved_ac m fp) AC_MASK }

-- the controls after a return of a type
abbrev pub controls_after : Memory → ℕ → ℕ → Controls → Controls
controls_after m kind fp c = record { pc = returned_pc m kind fp c.pc; ac = returned_ac m kind fp c.ac }
