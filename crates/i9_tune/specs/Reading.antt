-- The block that stands in an image, or the first instruction that keeps it from being one.
use Rattle.std.specs.Prelude.{◌≡◌, ℕ, zero, suc, ◌+◌, ◌*◌, ◌==◌, Bool, true, false, if◌then◌else◌, Option, Some, None}
use Rattle.std.specs.Prelude.{Result, Ok, Err, List, [], ◌∷◌}
use Rattle.std.specs.Global.{Vec}
use Rattle.std.specs.Int.{w32, from_le_bytes}
use Rattle.i9_isa.specs.declared.inst.Inst.{Inst}
use Rattle.i9_isa.specs.declared.inst.BadWord.{BadWord}
use Rattle.i9_isa.specs.Valid.{IsValid}
use Rattle.i9_isa.specs.Words.{words_of, decoded}
use Rattle.i9_model.specs.Writes.{wrapped}
use Rattle.i9_tune.specs.declared.block.Flaw.{Flaw}
use Rattle.i9_tune.specs.declared.block.Flaw.TheVariants.{NotLoaded, NotAllowed}
use Rattle.i9_tune.specs.declared.block.BlockFault.{BlockFault}
use Rattle.i9_tune.specs.declared.block.BlockError.{BlockError}
use Rattle.i9_tune.specs.declared.block.BlockError.TheVariants.{Bad, Memory}
use Rattle.i9_tune.specs.Blocks.{is_allowed}

-- the kind of a flaw
unfoldable pub kind_of : Flaw → ℕ
kind_of NotLoaded = 1
kind_of NotAllowed = 2

-- four bytes as a word, low byte first, where all are loaded
abbrev pub word_of : Option ℕ → Option ℕ → Option ℕ → Option ℕ → Option ℕ
word_of (Some p) (Some q) (Some r) (Some s) = Some (from_le_bytes w32 (p ∷ q ∷ r ∷ s ∷ []))
word_of None q r s = None
word_of (Some p) None r s = None
word_of (Some p) (Some q) None s = None
word_of (Some p) (Some q) (Some r) None = None

-- ---- one instruction

-- what is decoded, where a block may have it
abbrev pub fitting : Result Inst BadWord → Result Inst Flaw
fitting (Ok i) = if is_allowed i then Ok i else Err NotAllowed
fitting (Err e) = Err NotAllowed

-- a first word says whether there is a second one, whatever that is
abbrev pub is_long : Result Inst BadWord → Bool
is_long (Ok i) = words_of i == 2
is_long (Err e) = false

abbrev pub by_second : ℕ → Option ℕ → Result Inst Flaw
by_second w (Some v) = fitting (decoded w v)
by_second w None = Err NotLoaded

abbrev pub by_first : Option ℕ → Option ℕ → Result Inst Flaw
by_first (Some w) second = if is_long (decoded w 0) then by_second w second else fitting (decoded w 0)
by_first None second = Err NotLoaded

-- ---- a block

-- the instruction at an address, and those behind it, or the first fault
abbrev pub put_first : Inst → Result (List Inst) BlockFault → Result (List Inst) BlockFault
put_first i (Ok is) = Ok (i ∷ is)
put_first i (Err fault) = Err fault

abbrev pub block_by : ℕ → Result Inst Flaw → (Inst → Result (List Inst) BlockFault) → Result (List Inst) BlockFault
block_by a (Ok i) later = put_first i (later i)
block_by a (Err flaw) later = Err (record { flaw = flaw; address = a })

-- `loaded` gives the byte of an address, where it is loaded
module _ (loaded : ℕ → Option ℕ) where
  abbrev pub word_at : ℕ → Option ℕ
  word_at a = word_of (loaded a) (loaded (wrapped (a + 1))) (loaded (wrapped (a + 2))) (loaded (wrapped (a + 3)))

  abbrev pub inst_at : ℕ → Result Inst Flaw
  inst_at a = by_first (word_at a) (word_at (wrapped (a + 4)))

  -- so many instructions from an address on
  unfoldable pub block_at : ℕ → ℕ → Result (List Inst) BlockFault
  block_at zero a = Ok []
  block_at (suc n) a = block_by a (inst_at a) (λ i. block_at n (wrapped (a + 4 * words_of i)))

-- ---- what is answered

-- an instruction of a block
pub record IsFitting (i : Inst) : Type 0 where
  pub valid : IsValid i
  pub allowed : is_allowed i ≡ true

-- this block or this fault is answered, or that memory was refused
abbrev pub Answers : Result (Vec Inst) BlockError → Result (List Inst) BlockFault → Type 0
Answers (Ok block) wanted = wanted ≡ Ok block.items
Answers (Err (Bad fault)) wanted = wanted ≡ Err fault
Answers (Err Memory) wanted = Unit {0}
