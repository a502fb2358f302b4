-- The state of the one-at-a-time machine, and the state that start-up leaves.
use Rattle.std.specs.Prelude.{ℕ, ◌+◌, bit_and, slice_index, Bool, false, List, [], ◌∷◌, ◌++◌, replicate}
use Rattle.i9_model.specs.declared.layout.TheConstants.{BOOT_PC, FRAME_SIZE, FP, TC_MASK}
use Rattle.i9_model.specs.declared.setup.Setup.{Setup}
use Rattle.i9_model.specs.declared.setup.Tables.{Tables}
use Rattle.i9_model.specs.declared.setup.Breaks.{Breaks}
use Rattle.i9_model.specs.Writes.{wrapped, rounded_up, pairs_at, written}
pub use Rattle.i9_model.specs.Writes.{aligned}
use Rattle.i9_model.specs.Memory.{Memory, stored}
use Rattle.i9_model.specs.Boot.{tables_of, boot_setup, boot_memory}

-- bytes that only the save of a frame or a marked value wrote; the save addresses of the frames that may be returned
-- to, youngest first; and the bytes of these frames that are in marked words
pub record Frames : Type 0 where
  pub soft : ℕ → Bool
  pub live : List ℕ
  pub marked : ℕ → Bool

-- The kept pending word and the mask word, the three map words, the control word of pins (ICON), the word of the pins
-- that are low, and whether NMI is posted.
pub record Interrupts : Type 0 where
  pub pending : ℕ
  pub mask : ℕ
  pub maps : List ℕ
  pub icon : ℕ
  pub low : ℕ
  pub nmi : Bool

-- what a DMA channel was set up with, as far as it has come
pub record Channel : Type 0 where
  pub control : ℕ
  pub count : ℕ
  pub source : ℕ
  pub target : ℕ

pub record Dma : Type 0 where
  pub channels : ℕ → Channel
  pub dmac : ℕ

-- trace controls, and the breakpoints
pub record TraceControls : Type 0 where
  pub tc : ℕ
  pub breaks : Breaks

-- The registers (r0 to r15 are 0 to 15, g0 to g15 are 16 to 31), instruction address, arithmetic and process controls,
-- count of instructions, whether the next choice of an interrupt looks at software ones, and the words of the PRCB;
-- which registers are marked, that is, have values that stale bytes decide; and, the same for the whole run, what a
-- soft byte is read as, by what memory holds there.
pub record State : Type 0 where
  pub regs : ℕ → ℕ
  pub ip : ℕ
  pub ac : ℕ
  pub pc : ℕ
  pub count : ℕ
  pub check : Bool
  pub memory : Memory
  pub frames : Frames
  pub interrupts : Interrupts
  pub dma : Dma
  pub trace : TraceControls
  pub tables : Tables
  pub marks : ℕ → Bool
  pub reading : ℕ → ℕ

-- the memory of an image before boot; later pairs win
abbrev pub image_memory : List (ℕ × ℕ) → Memory
image_memory image = record { bytes = stored (λ _. 0) image; mcon = λ _. 0 }

-- ---- start-up

-- the sixteen locals and fp
abbrev pub frame_sets : List ℕ → ℕ → List (ℕ × ℕ)
frame_sets locals fp = pairs_at (λ r. r) 0 locals ++ (FP, fp) ∷ []

-- the first frame is at the interrupt stack
abbrev pub first_frame : Setup → ℕ
first_frame u = wrapped (rounded_up u.interrupt_stack)

-- sp is a frame above fp, and the other locals are 0
abbrev pub start_sets : Setup → List (ℕ × ℕ)
start_sets u = frame_sets (0 ∷ wrapped (first_frame u + FRAME_SIZE) ∷ replicate 14 0) (first_frame u)

-- No interrupt is pending or unmasked; words 4 to 7 of the control table are the interrupt maps and the control word of
-- pins. The levels of pins stay.
abbrev pub start_interrupts : Setup → ℕ → Interrupts
start_interrupts u low = record {
  pending = 0;
  mask = 0;
  maps = slice_index u.control 4 ∷ slice_index u.control 5 ∷ slice_index u.control 6 ∷ [];
  icon = slice_index u.control 7;
  low = low;
  nmi = false;
}

abbrev pub no_dma : Dma
no_dma = record { channels = λ _. record { control = 0; count = 0; source = 0; target = 0 }; dmac = 0 }

-- words 0 to 3, 25 and 26 of the control table are the breakpoints, their controls and the trace controls
abbrev pub start_trace : Setup → TraceControls
start_trace u = record {
  tc = bit_and (slice_index u.control 26) TC_MASK;
  breaks = record {
    ipb = slice_index u.control 0 ∷ slice_index u.control 1 ∷ [];
    dab = slice_index u.control 2 ∷ slice_index u.control 3 ∷ [];
    bpcon = slice_index u.control 25;
  };
}

-- the machine of runs reads a soft byte as 0
abbrev pub as_zero : ℕ → ℕ
as_zero b = 0

-- The state that start-up leaves, from the registers, the count and the low pins before it, and the memory and the
-- frames behind it.
unfoldable pub started : Setup → (ℕ → ℕ) → ℕ → ℕ → Memory → Frames → State
started u regs count low m f = record {
  regs = written regs (start_sets u);
  ip = aligned u.first;
  ac = u.ac;
  pc = BOOT_PC;
  count = count;
  check = false;
  memory = m;
  frames = f;
  interrupts = start_interrupts u low;
  dma = no_dma;
  trace = start_trace u;
  tables = tables_of u;
  marks = λ _. false;
  reading = as_zero;
}

-- the state after boot; all pins are high
unfoldable pub boot : List (ℕ × ℕ) → State
boot image =
    let m = image_memory image in
    started (boot_setup m) (λ _. 0) 0 0 (boot_memory m) (record { soft = λ _. false; live = []; marked = λ _. false })
