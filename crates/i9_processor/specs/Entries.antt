-- What calls enter in a state, or the hazard that they meet.
use Rattle.std.specs.Prelude.{ℕ, nat_le, false, if◌then◌else◌, Result, Err}
use Rattle.i9_model.specs.declared.layout.TheConstants.{FP, SP, LOCAL_RETURN, MOST_SYSTEM_CALL}
use Rattle.i9_model.specs.declared.push.Push.{Push}
use Rattle.i9_model.specs.declared.calls.Sys.{Sys}
use Rattle.i9_model.specs.declared.calls.CallsStop.{CallsStop}
use Rattle.i9_model.specs.declared.calls.CallsStop.TheVariants.{Length}
use Rattle.i9_model.specs.State.{State}
use Rattle.i9_model.specs.Frames.{pushed}
use Rattle.i9_model.specs.Hazards.{unless}
use Rattle.i9_model.specs.Stale.{area_hazard}
use Rattle.i9_model.specs.Calls.{caller_in, system_hazard_by, system_entered, call_type, calls_answer}

-- a call to an address
abbrev pub call_in : State → Result Push ℕ
call_in s = unless (area_hazard s false) (pushed (s.regs FP) (s.regs SP) 0 LOCAL_RETURN)

-- a call of a system procedure, of a number that is not too great
abbrev pub calls_in : State → ℕ → Result Sys CallsStop
calls_in s n =
    if nat_le n MOST_SYSTEM_CALL
    then calls_answer (unless (system_hazard_by s.memory s.frames s.tables.system_table n s.pc (area_hazard s))
    (system_entered (caller_in s) s.tables.system_table n 0 (call_type s.pc)))
    else Err Length
