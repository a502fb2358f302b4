-- What is known of a fault's entry before its push: whether stacks are switched, or what stops it.
use Rattle.std.specs.Prelude.{ℕ, Bool, false, Result, Ok}
use Rattle.i9_model.specs.declared.faults.Fault.{Fault}
use Rattle.i9_model.specs.declared.faults.FaultStop.{FaultStop}
use Rattle.i9_model.specs.declared.faults.Handler.{Handler}
use Rattle.i9_model.specs.declared.faults.Handler.TheVariants.{Local, System}
use Rattle.i9_model.specs.Memory.{Memory}
use Rattle.i9_model.specs.State.{Frames}
use Rattle.i9_model.specs.Faults.{◌>>=◌, or_stop, table_entry, planned_handler}
use Rattle.i9_calls.specs.Switches.{system_switch}

-- a handler is entered on the stack in use, or as by a system call
abbrev pub handler_switch : Memory → Frames → ℕ → ℕ → Handler → Result Bool ℕ
handler_switch m f system pc (Local target) = Ok false
handler_switch m f system pc (System n) = system_switch m f system n pc

unfoldable pub fault_switch : Memory → Frames → ℕ → ℕ → Fault → ℕ → Result Bool FaultStop
fault_switch m f table system fault pc = do
  handler ← planned_handler m f (table_entry table fault.kind)
  or_stop (handler_switch m f system pc handler)
