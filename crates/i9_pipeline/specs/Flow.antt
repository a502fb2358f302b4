-- The one value of a pipeline, and what its calls do to it.
use Rattle.std.specs.Prelude.{◌≡◌, ℕ, ◌<◌, max, List, [], None, Bool, if◌then◌else◌}
use Rattle.i9_model.specs.declared.need.Cell.{Cell}
use Rattle.i9_model.specs.declared.need.TimedNeed.{TimedNeed}
use Rattle.i9_model.specs.HeldFrames.{Cache}
use Rattle.i9_model.specs.Late.{Wait, landed, due_puts, left_waiting, resources}
use Rattle.i9_model.specs.Memory.{stored}
use Rattle.i9_model.specs.State.{State}
use Rattle.i9_model.specs.Turns.{Pending, StandsFor, end_turn}
use Rattle.i9_course.specs.Kernel.{Kernel}
use Rattle.i9_shade.specs.Shade.{Kept}
use Rattle.i9_processor.specs.declared.processor.Processor.{Processor}
use Rattle.i9_processor.specs.State.{state_of, cache_of, size_of, cells_of, bytes_of, queue_of}
use Rattle.i9_pipeline.specs.declared.pipeline.Pipeline.{Pipeline}

-- The state once all has landed, the number of sets, the frames in them and the memory behind; the open needs; the
-- turn, that of the last fence, and that at which the last record is done; registers with what is planned for them,
-- memory with what waits, and what stood under an open barrier's writes.
pub record Flow : Type 0 where
  pub state : State
  pub size : ℕ
  pub cache : Cache
  pub board : Pending
  pub turn : ℕ
  pub floor : ℕ
  pub done : ℕ
  pub cells : ℕ → Cell
  pub bytes : ℕ → ℕ
  pub queue : List Wait
  pub shade : Kept

abbrev pub flow_of : Pipeline → Flow
flow_of p = record {
  state = state_of p.processor;
  size = size_of p.processor;
  cache = cache_of p.processor;
  board = p.board;
  turn = p.turn;
  floor = p.floor;
  done = p.done;
  cells = cells_of p.processor;
  bytes = bytes_of p.processor;
  queue = queue_of p.processor;
  shade = p.shade;
}

-- what of it lands late, as it shows at its turn
abbrev pub kernel_of : Flow → Kernel
kernel_of f = record {
  board = f.board;
  turn = f.turn;
  floor = f.floor;
  done = f.done;
  cells = λ r. landed f.turn (f.cells r);
  bytes = f.bytes;
  queue = f.queue;
}

-- nothing was issued yet in a pipeline, around this processor, and no turn has passed
pub record IsFresh (around : Processor) (p : Pipeline) : Type 0 where
  pub processor : p.processor ≡ around
  pub board : StandsFor p.board []
  pub turn : p.turn ≡ 1
  pub floor : p.floor ≡ 0
  pub done : p.done ≡ 1
  pub shade : p.shade.due ≡ 0

-- the turn becomes this one, and what is due by then lands; all else stays
abbrev pub moved_to : ℕ → Flow → Flow
moved_to t f = record f {
  turn = t;
  bytes = stored f.bytes (due_puts t f.queue);
  queue = left_waiting t f.queue;
}

-- a turn is the least at which all records of a scoreboard are done, whatever they are
abbrev pub IsEndTurn : Pending → ℕ → Type 0
IsEndTurn board t = (rs : List TimedNeed) → StandsFor board rs → t ≡ end_turn rs

-- all is done by a turn, which becomes the pipeline's unless that is above it, and the last fence stands at another
abbrev pub settled_to : ℕ → ℕ → Flow → Flow
settled_to until floor f = record (moved_to (max f.turn until) f) { floor = floor }

-- All that is open landed, and where a fence is set it stands at the turn at which the last of it did.
pub record IsSettled (fenced : Bool) (old new : Flow) : Type 0 where
  pub until : ℕ
  pub end : IsEndTurn old.board until
  pub settled : new ≡ settled_to until (if fenced then until else old.floor) old

-- nothing is planned for a register or the condition code, and no request waits
pub record IsQuiet (f : Flow) : Type 0 where
  pub planned : (r : ℕ) → r < resources → (landed f.turn (f.cells r)).plan ≡ None
  pub waiting : f.queue ≡ []
