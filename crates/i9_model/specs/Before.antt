-- What comes before the next instruction: the entry of an interrupt that is chosen, or an event from outside.
use Rattle.std.specs.Prelude.{ℕ, ◌+◌, ◌++◌, if◌then◌else◌, List, [], Option, Some, None, Result, Ok, Err}
use Rattle.i9_model.specs.declared.interrupts.TheConstants.{FIRST_DMA_LINE}
use Rattle.i9_model.specs.declared.interrupts.Chosen.{Chosen}
use Rattle.i9_model.specs.declared.faults.Entry.{Entry}
use Rattle.i9_model.specs.declared.event.Event.{Event}
use Rattle.i9_model.specs.declared.event.Event.TheVariants.{Pin, Low, High, Nmi, Dma, Feed, Show}
use Rattle.i9_model.specs.Memory.{with_writes}
use Rattle.i9_model.specs.State.{State, Interrupts}
use Rattle.i9_model.specs.State as states
use Rattle.i9_model.specs.Dma.{Unit, next_unit}
use Rattle.i9_model.specs.Calls.{caller_in}
use Rattle.i9_model.specs.Interrupts.{posted, posted_nmi, lowered, raised, chosen, chosen_soft, cleared}
use Rattle.i9_model.specs.Interrupts.{clearing_writes, record_writes, planned_interrupt_by}
use Rattle.i9_model.specs.Stale.{area_hazard}
use Rattle.i9_model.specs.Step.{Action, going, pushing}

-- ---- interrupts

-- the interrupt that is chosen, where one is; what software asks for counts where the check flag is set
unfoldable pub choice_in : State → Result (Option Chosen) ℕ
choice_in s =
    if s.check then chosen_soft s.interrupts s.memory s.frames s.tables.interrupt_table s.pc
    else Ok (chosen s.interrupts s.pc)

-- its entry, or the hazard that this meets
unfoldable pub interrupt_in : State → Chosen → Result Entry ℕ
interrupt_in s c =
    planned_interrupt_by (caller_in s) s.tables.interrupt_table s.tables.interrupt_stack c s.ac (area_hazard s)

-- the bytes that it writes: those of its record, and then those that clear the request
abbrev pub entry_writes : State → Chosen → Entry → List (ℕ × ℕ)
entry_writes s c e =
    let recorded = record_writes s.memory e.push e.words in
    recorded ++ clearing_writes c.cause (with_writes s.memory recorded) s.tables.interrupt_table c.vector

-- The entry of an interrupt saves the locals with the address of the instruction that would have come next, writes its
-- record, clears what chose it, and goes on at its handler.
abbrev pub interrupting : Chosen → Entry → State → Action
interrupting c e s = record (pushing s e.push s.ip e.target) {
  writes = entry_writes s c e;
  pc = e.pc;
  interrupts = cleared c.cause s.interrupts;
}

-- ---- events

-- what an event does: the bytes that it writes, and DMA and interrupts afterwards
pub record Received : Type 0 where
  pub writes : List (ℕ × ℕ)
  pub dma : states.Dma
  pub interrupts : Interrupts

-- nothing is moved, and these are the interrupts
abbrev pub posting : State → Interrupts → Received
posting s i = record { writes = []; dma = s.dma; interrupts = i }

-- a unit of a channel, where one is moved
abbrev pub moving_unit : State → ℕ → Option Unit → Received
moving_unit s c None = posting s s.interrupts
moving_unit s c (Some u) = record {
  writes = u.writes;
  dma = u.dma;
  interrupts = if u.posts then posted s.interrupts (FIRST_DMA_LINE + c) else s.interrupts;
}

abbrev pub received_by : State → ℕ → Result (Option Unit) ℕ → Result Received ℕ
received_by s c (Ok u) = Ok (moving_unit s c u)
received_by s c (Err a) = Err a

-- the next unit of a channel, from memory or with the bytes of a device, or the hazard that it meets
abbrev pub unit_in : State → ℕ → Option (List ℕ) → Result Received ℕ
unit_in s c given = received_by s c (next_unit s.memory s.frames s.dma c given)

-- what an event does in a state, or the hazard that it meets: only those of DMA meet one
unfoldable pub received_in : State → Event → Result Received ℕ
received_in s (Pin x) = Ok (posting s (posted s.interrupts x))
received_in s (Low x) = Ok (posting s (lowered s.interrupts x))
received_in s (High x) = Ok (posting s (raised s.interrupts x))
received_in s Nmi = Ok (posting s (posted_nmi s.interrupts))
received_in s (Dma c) = unit_in s c None
received_in s (Feed c bytes) = unit_in s c (Some bytes.items)
received_in s (Show a n) = Ok (posting s s.interrupts)

-- an event is no instruction: control stays where it is
abbrev pub receiving : Received → State → Action
receiving r s = record (going s s.ip) { writes = r.writes; dma = r.dma; interrupts = r.interrupts }
