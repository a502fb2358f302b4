-- Calls and returns: what they make of frames and controls, or the hazard that they meet.
use Rattle.std.specs.Prelude.{◌≡◌, ℕ, ◌+◌, ◌*◌, ◌%◌, ◌^◌, Bool, true, false, not, ◌==◌, ◌&&◌, ◌||◌, nat_le, nat_lt}
use Rattle.std.specs.Prelude.{if◌then◌else◌, bit_and, length, Option, None, Result, Ok, Err}
use Rattle.i9_isa.specs.Words.{bit, field}
use Rattle.i9_model.specs.declared.interrupts.TheConstants.{PRIORITY_PLACE}
use Rattle.i9_model.specs.declared.layout.TheConstants.{LOCALS, FP, SP, SUPERVISOR_PLACE, SUPERVISOR_STACK}
use Rattle.i9_model.specs.declared.layout.TheConstants.{SYSTEM_TABLE_ENTRIES, MOST_SYSTEM_CALL, ASKS_SUPERVISOR_PLACE}
use Rattle.i9_model.specs.declared.layout.TheConstants.{LOCAL_RETURN, FAULT_RETURN, SUPERVISOR_RETURN, INTERRUPT_RETURN}
use Rattle.i9_model.specs.declared.layout.TheConstants.{PC_MASK, AC_MASK}
use Rattle.i9_model.specs.declared.push.Push.{Push}
use Rattle.i9_model.specs.declared.calls.Sys.{Sys}
use Rattle.i9_model.specs.declared.calls.CallsStop.{CallsStop}
use Rattle.i9_model.specs.declared.calls.CallsStop.TheVariants.{Hazard, Length}
use Rattle.i9_model.specs.declared.calls.Pop.{Pop}
use Rattle.i9_model.specs.Writes.{wrapped}
use Rattle.i9_model.specs.Memory.{Memory, word_in}
use Rattle.i9_model.specs.State.{State, Frames, aligned}
use Rattle.i9_model.specs.Frames.{rounded_down, pushed, saved, word_mark, left_stale}
use Rattle.i9_model.specs.Needs.{set_below}
pub use Rattle.i9_model.specs.Frames.{record_address}
use Rattle.i9_model.specs.Hazards.{or_else, unless, read_hazard, save_hazard, return_hazard, planned_push}

-- ---- process controls

-- supervisor mode is a bit of the process controls
abbrev pub in_supervisor_mode : ℕ → Bool
in_supervisor_mode pc = bit pc SUPERVISOR_PLACE

-- the priority is a field of five bits
abbrev pub priority_of : ℕ → ℕ
priority_of pc = field pc PRIORITY_PLACE 5

-- trace enable is the lowest bit of the process controls
abbrev pub trace_enable : ℕ → ℕ
trace_enable pc = pc % 2

-- process controls with supervisor mode set, and with another trace enable
abbrev pub with_supervisor : ℕ → ℕ → ℕ
with_supervisor pc trace = aligned pc + 2 ^ SUPERVISOR_PLACE + trace

-- the same with supervisor mode clear
abbrev pub without_supervisor : ℕ → ℕ → ℕ
without_supervisor pc trace = aligned pc + trace

-- ---- calls

-- what a procedure or a handler is entered from: memory and frames, the process controls, and the frame and the stack
-- pointer
pub record Caller : Type 0 where
  pub memory : Memory
  pub frames : Frames
  pub pc : ℕ
  pub fp : ℕ
  pub sp : ℕ

-- the caller in a state
abbrev pub caller_in : State → Caller
caller_in s = record { memory = s.memory; frames = s.frames; pc = s.pc; fp = s.regs FP; sp = s.regs SP }

-- a call to an address makes a frame above sp
abbrev pub planned_call : Frames → ℕ → ℕ → Result Push ℕ
planned_call f fp sp = planned_push f fp sp 0 LOCAL_RETURN

-- ---- the system procedure table

-- the entries of the table are words in a row
abbrev pub entry_address : ℕ → ℕ → ℕ
entry_address table n = wrapped (table + (SYSTEM_TABLE_ENTRIES + 4 * n))

-- the supervisor stack word stands before them
abbrev pub stack_address : ℕ → ℕ
stack_address table = wrapped (table + SUPERVISOR_STACK)

-- stacks are switched where the entry asks for the supervisor stack outside supervisor mode
abbrev pub is_switch : ℕ → ℕ → Bool
is_switch entry pc = bit entry ASKS_SUPERVISOR_PLACE && not (in_supervisor_mode pc)

-- the supervisor stack word is read where stacks are switched
abbrev pub stack_hazard : Frames → ℕ → Bool → Option ℕ
stack_hazard f table switched = if switched then read_hazard f (stack_address table) 4 else None

-- the accesses of a procedure's entry: its word in the table, the supervisor stack word, and what is checked of the
-- push, by whether stacks are switched
abbrev pub system_hazard_by : Memory → Frames → ℕ → ℕ → ℕ → (Bool → Option ℕ) → Option ℕ
system_hazard_by m f table n pc area =
    or_else (read_hazard f (entry_address table n) 4)
    (or_else (stack_hazard f table (is_switch (word_in m (entry_address table n)) pc))
    (area (is_switch (word_in m (entry_address table n)) pc)))

-- of the push, the save area
abbrev pub save_area : Frames → ℕ → Bool → Option ℕ
save_area f fp switched = save_hazard f (rounded_down fp)

unfoldable pub system_hazard : Memory → Frames → ℕ → ℕ → ℕ → ℕ → Option ℕ
system_hazard m f table n pc fp = system_hazard_by m f table n pc (save_area f fp)

-- a procedure's frame is on the stack in use
abbrev pub entered_here : ℕ → ℕ → ℕ → ℕ → ℕ → ℕ → Sys
entered_here entry pc fp sp extra kind = record
    { push = pushed fp sp extra kind; target = aligned entry; pc = pc; switched = false }

-- a procedure's frame is on the supervisor stack: of its word, the low two bits are no address, and the lowest is
-- the new trace enable
abbrev pub entered_switched : ℕ → ℕ → ℕ → ℕ → ℕ → ℕ → Sys
entered_switched entry stack pc fp extra kind = record {
  push = pushed fp (aligned stack) extra kind;
  target = aligned entry;
  pc = with_supervisor pc (stack % 2);
  switched = true;
}

-- a procedure is entered by its word in the table; the return type goes by whether stacks are switched
abbrev pub entered_by : Caller → ℕ → ℕ → ℕ → (Bool → ℕ) → Sys
entered_by c table entry extra kind =
    if is_switch entry c.pc
    then entered_switched entry (word_in c.memory (stack_address table)) c.pc c.fp extra (kind true)
    else entered_here entry c.pc c.fp c.sp extra (kind false)

-- procedure n is entered, above a record of so many bytes
unfoldable pub system_entered : Caller → ℕ → ℕ → ℕ → (Bool → ℕ) → Sys
system_entered c table n extra kind = entered_by c table (word_in c.memory (entry_address table n)) extra kind

-- what is planned of procedure n, or the hazard that it meets
abbrev pub planned_system : Caller → ℕ → ℕ → ℕ → (Bool → ℕ) → Result Sys ℕ
planned_system c table n extra kind =
    unless (system_hazard c.memory c.frames table n c.pc c.fp) (system_entered c table n extra kind)

-- the return type of a system call: 000, or where stacks are switched 010 plus the old trace enable
abbrev pub call_type : ℕ → Bool → ℕ
call_type pc switched = if switched then SUPERVISOR_RETURN + trace_enable pc else LOCAL_RETURN

-- a hazard is one of the two reasons why a system call is refused
abbrev pub calls_answer : Result Sys ℕ → Result Sys CallsStop
calls_answer (Ok s) = Ok s
calls_answer (Err a) = Err (Hazard a)

-- a system call, of a number that is not too great
abbrev pub planned_calls : Caller → ℕ → ℕ → Result Sys CallsStop
planned_calls c table n =
    if nat_le n MOST_SYSTEM_CALL then calls_answer (planned_system c table n 0 (call_type c.pc)) else Err Length

-- ---- returns

-- the return type is in the low three bits of pfp
abbrev pub return_type : ℕ → ℕ
return_type pfp = pfp % 8

-- types 001, of a fault, and 111, of an interrupt, take controls from the record
abbrev pub takes_record : ℕ → Bool
takes_record kind = kind == FAULT_RETURN || kind == INTERRUPT_RETURN

-- types 010 and 011, of a system call that switched stacks, leave supervisor mode
abbrev pub leaves_supervisor : ℕ → Bool
leaves_supervisor kind = kind == SUPERVISOR_RETURN || kind == SUPERVISOR_RETURN + 1

-- the first two words of the record below the frame that is left are PC and AC
abbrev pub saved_pc : Memory → ℕ → ℕ
saved_pc m fp = word_in m (record_address fp)

abbrev pub saved_ac : Memory → ℕ → ℕ
saved_ac m fp = word_in m (wrapped (record_address fp + 4))

-- of a record, PC is read first
abbrev pub record_hazard : Frames → ℕ → Option ℕ
record_hazard f fp = or_else (read_hazard f (record_address fp) 4) (read_hazard f (wrapped (record_address fp + 4)) 4)

-- the record is read by the types that take controls from it
abbrev pub controls_hazard : Frames → ℕ → ℕ → Option ℕ
controls_hazard f kind fp = if takes_record kind then record_hazard f fp else None

-- process controls change in supervisor mode alone
abbrev pub returned_pc : Memory → ℕ → ℕ → ℕ → ℕ
returned_pc m kind fp pc =
    if not (in_supervisor_mode pc) then pc
    else if takes_record kind then bit_and (saved_pc m fp) PC_MASK
    else if leaves_supervisor kind then without_supervisor pc (kind % 2)
    else pc

-- arithmetic controls change wherever the record is read
abbrev pub returned_ac : Memory → ℕ → ℕ → ℕ → ℕ
returned_ac m kind fp ac = if takes_record kind then bit_and (saved_ac m fp) AC_MASK else ac

-- the record is read, and then the frame that pfp names
unfoldable pub ret_hazard : Frames → ℕ → ℕ → Option ℕ
ret_hazard f pfp fp = or_else (controls_hazard f (return_type pfp) fp) (return_hazard f (rounded_down pfp))

-- the marks of the words of a frame that is returned to, as a number
unfoldable pub return_marks : Frames → ℕ → ℕ
return_marks f a = set_below LOCALS (λ k. word_mark (left_stale f.live f) (wrapped (a + 4 * k)))

-- a return: where a frame is live the youngest is left, and after an interrupt's return software interrupts are
-- looked at
unfoldable pub popped : Memory → Frames → ℕ → ℕ → ℕ → ℕ → Pop
popped m f pfp fp pc ac = record {
  frame = rounded_down pfp;
  live = nat_lt 0 (length f.live);
  pc = returned_pc m (return_type pfp) fp pc;
  ac = returned_ac m (return_type pfp) fp ac;
  check = return_type pfp == INTERRUPT_RETURN;
  marks = return_marks f (rounded_down pfp);
}

-- what is planned of a return, or the hazard that it meets
abbrev pub planned_ret : Memory → Frames → ℕ → ℕ → ℕ → ℕ → Result Pop ℕ
planned_ret m f pfp fp pc ac = unless (ret_hazard f pfp fp) (popped m f pfp fp pc ac)

-- ---- the way back

-- the return that undoes a system call goes to the frame that the call saved, with the controls from before it
abbrev pub undone : Frames → Sys → ℕ → ℕ → Pop
undone f s pc ac = record
    { frame = s.push.save; live = true; pc = pc; ac = ac; check = false; marks = return_marks f s.push.save }

-- a return right after a system call, made with the pfp, fp and process controls that the call left, undoes it
abbrev pub Undoes : Memory → Frames → ℕ → ℕ → Sys → Type 0
Undoes later f pc ac s = planned_ret later (saved f s.push.save) s.push.pfp s.push.frame s.pc ac
    ≡ Ok (undone (saved f s.push.save) s pc ac)
