-- The state that a processor stands for.
use Rattle.std.specs.Prelude.{◌≡◌, ℕ, ◌+◌, ◌*◌, ◌/◌, ◌%◌, nat_lt, if◌then◌else◌, List, []}
use Rattle.i9_isa.specs.declared.resources.TheConstants.{CONDITION_CODE}
use Rattle.i9_isa.specs.Words.{bit}
use Rattle.i9_ints.specs.Ints.{interrupts_of}
use Rattle.i9_dma.specs.Channels.{dma_of}
use Rattle.i9_storage.specs.Storage as storage
use Rattle.i9_model.specs.declared.need.Cell.{Cell}
use Rattle.i9_model.specs.Late.{Wait, latest}
use Rattle.i9_model.specs.State.{State, as_zero}
use Rattle.i9_model.specs.HeldFrames.{Cache}
use Rattle.i9_regs.specs.declared.file.File.{File}
use Rattle.i9_regs.specs.File.{cell_in}
use Rattle.i9_processor.specs.declared.processor.Processor.{Processor}

-- the register of each number: the latest value of its cell
unfoldable pub registers_of : File → ℕ → ℕ
registers_of cells r = if nat_lt r 32 then latest (cell_in cells r) else 0

-- the arithmetic controls: the latest value of a cell is the condition code, their low three bits
unfoldable pub arithmetic_of : ℕ → File → ℕ
arithmetic_of flags cells = flags / 8 * 8 + latest (cell_in cells CONDITION_CODE) % 8

unfoldable pub state_of : Processor → State
state_of p = record {
  regs = registers_of p.file;
  ip = p.ip;
  ac = arithmetic_of p.flags p.file;
  pc = p.pc;
  count = p.count;
  check = p.check;
  memory = storage.memory_in p.storage;
  frames = storage.frames_in p.storage;
  interrupts = interrupts_of p.ints;
  dma = dma_of p.channels;
  trace = record { tc = p.tc; breaks = p.breaks };
  tables = p.tables;
  marks = bit p.marks;
  reading = as_zero;
}

-- the frames that are held, and the memory behind them
unfoldable pub cache_of : Processor → Cache
cache_of p = storage.cache_of p.storage

-- how many frames can be held
unfoldable pub size_of : Processor → ℕ
size_of p = storage.size_of p.storage

-- ---- what lands late

-- registers and the condition code, each with the value that it had and the latest one, which shows from its turn on
unfoldable pub cells_of : Processor → ℕ → Cell
cells_of p = cell_in p.file

-- the requests that wait to be stored in memory, the oldest first
unfoldable pub queue_of : Processor → List Wait
queue_of p = storage.waiting_in p.storage

-- the bytes of memory behind the held frames, without those
unfoldable pub bytes_of : Processor → ℕ → ℕ
bytes_of p = (storage.acted_in p.storage).bytes

-- no request waits
abbrev pub IsDrained : Processor → Type 0
IsDrained p = queue_of p ≡ []

-- ---- what stays

-- the state, the frames that are held in as many sets, and what is planned
pub record KeepsState (old new : Processor) : Type 0 where
  pub state : state_of new ≡ state_of old
  pub cache : cache_of new ≡ cache_of old
  pub size : size_of new ≡ size_of old
  pub cells : cells_of new ≡ cells_of old

-- and what waits, and the bytes behind it: all but pages
pub record KeepsContents (old new : Processor) : Type 0 where
  pub seen : KeepsState old new
  pub bytes : bytes_of new ≡ bytes_of old
  pub queue : queue_of new ≡ queue_of old

-- registers with what is planned of them, and the arithmetic controls
pub record KeepsFile (old new : Processor) : Type 0 where
  pub file : new.file ≡ old.file
  pub flags : new.flags ≡ old.flags

-- memory and frames, and what waits
pub record KeepsStorage (old new : Processor) : Type 0 where
  pub storage : new.storage ≡ old.storage
  pub cache : cache_of new ≡ cache_of old
  pub size : size_of new ≡ size_of old

-- both: all but the other controls, interrupts, DMA, marks and the count
pub record KeepsParts (old new : Processor) : Type 0 where
  pub registers : KeepsFile old new
  pub stored : KeepsStorage old new
