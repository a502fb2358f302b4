-- Registers and the condition code where a record plans what it leaves in them.
use Rattle.std.specs.Prelude.{◌≡◌, ℕ, ◌<◌, ◌%◌, ◌==◌, ◌||◌, if◌then◌else◌, IsTrue, List, None}
use Rattle.std.specs.Int.{bit_at, IsBitSet}
use Rattle.i9_isa.specs.declared.resources.TheConstants.{CONDITION_CODE}
use Rattle.i9_isa.specs.Resources.{is_in_frame}
use Rattle.i9_model.specs.Late.{resources}
use Rattle.i9_model.specs.Writes.{last_put}
use Rattle.i9_regs.specs.declared.file.File.{File}
use Rattle.i9_regs.specs.File.{cell_in, still, latest_of, issued_over}
use Rattle.i9_processor.specs.State.{registers_of, arithmetic_of}

-- registers that are not in a set of resources are not set
abbrev pub AreCovered : ℕ → List (ℕ × ℕ) → Type 0
AreCovered writes sets = (r : ℕ) → r < resources → bit_at writes r ≡ 0 → last_put sets r ≡ None

-- the condition code of the arithmetic controls stays where it is not in the set
abbrev pub IsCodeCovered : ℕ → ℕ → ℕ → Type 0
IsCodeCovered writes old new = bit_at writes CONDITION_CODE ≡ 0 → new % 8 ≡ old % 8

-- the locals, fp and the condition code are in the set
abbrev pub IsStartCovered : ℕ → Type 0
IsStartCovered writes = (r : ℕ) → r < resources → IsTrue (is_in_frame r || r == CONDITION_CODE) → IsBitSet writes r

-- what a resource is, by the cells and the arithmetic controls but for the condition code
abbrev pub resource_of : ℕ → File → ℕ → ℕ
resource_of flags cells r = if r == CONDITION_CODE then arithmetic_of flags cells % 8 else registers_of cells r

-- each cell in the set has its latest value, and what the resource is now is planned for a turn; the others stay
pub record IsIssued (writes done flags : ℕ) (olds news : File) : Type 0 where
  pub each : (r : ℕ) → r < resources
      → cell_in news r ≡ issued_over writes done r (resource_of flags news r) (cell_in olds r)

-- each cell shows its value at every turn
abbrev pub AreStill : File → Type 0
AreStill cells = (r : ℕ) → r < resources → cell_in cells r ≡ still (latest_of cells r)

-- the condition code stays, and cells that are still stay so: all but registers
pub record KeepsCode (old new : File) : Type 0 where
  pub code : cell_in new CONDITION_CODE ≡ cell_in old CONDITION_CODE
  pub still : AreStill old → AreStill new
