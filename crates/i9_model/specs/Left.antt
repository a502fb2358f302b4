-- How much of a run is left: a number that each record makes less.
use Rattle.std.specs.Prelude.{ℕ, ◌+◌, ◌-◌, ◌*◌, Bool, true, false, List, [], ◌∷◌}
use Rattle.i9_model.specs.declared.interrupts.TheConstants.{HIGHEST_PRIORITY}
use Rattle.i9_model.specs.declared.event.Event.{Event}
use Rattle.i9_model.specs.declared.event.Event.TheVariants.{Pin, Low, High, Nmi, Dma, Feed, Show}
use Rattle.i9_model.specs.declared.event.Timed.{Timed}
use Rattle.i9_model.specs.declared.run.Due.{Due}
use Rattle.i9_model.specs.declared.run.Due.TheVariants as dues
use Rattle.i9_model.specs.State.{State}
use Rattle.i9_model.specs.Calls.{priority_of}

abbrev pub flag : Bool → ℕ
flag false = 0
flag true = 1

-- how far the priority of the process controls may rise
abbrev pub room_of : ℕ → ℕ
room_of pc = HIGHEST_PRIORITY - priority_of pc

-- What may still choose an interrupt. No entry lowers the priority. That of a line raises it, since the priority of a
-- line is at most 30, whether its bit is cleared or its pin stays low; the entry of the interrupt that is never masked
-- clears what chose it, and so does that of software, which is looked for once.
abbrev pub asked : State → ℕ
asked s = room_of s.pc + flag s.interrupts.nmi + flag s.check

-- an event is itself one step, beside what it may post
abbrev pub event_work : Event → ℕ
event_work (Pin x) = 1
event_work (Low x) = 1
event_work (High x) = 1
event_work Nmi = 2
event_work (Dma c) = 1
event_work (Feed c bytes) = 1
event_work (Show a n) = 1

abbrev pub plan_work : List Timed → ℕ
plan_work [] = 0
plan_work (t ∷ ts) = event_work t.event + plan_work ts

-- an entry that is due is one more step, and may change the priority
abbrev pub pending : Due → ℕ
pending dues.Nothing = 0
pending (dues.End f) = 0
pending (dues.Entry fault) = 32

-- an instruction weighs more than all that it may ask for and make due
abbrev pub instruction_work : ℕ
instruction_work = 128

-- what is left in a state, at a length, with these events of the plan to come
unfoldable pub left_in : ℕ → List Timed → Due → State → ℕ
left_in limit events due s = instruction_work * (limit - s.count) + plan_work events + asked s + pending due
