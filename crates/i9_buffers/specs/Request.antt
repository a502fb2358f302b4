-- What is answered for a text of words and three files.
use Rattle.std.specs.Prelude.{◌≡◌, ◌⊎◌, ℕ, List, [], ◌++◌}
use Rattle.i9_outside.specs.Counts.{Rose}
use Rattle.i9_tool.specs.CommandLine.{command_of}
use Rattle.i9_tool.specs.Fetches.{AllTold}
use Rattle.i9_tool.specs.Outcome.{Gives, names_of}
use Rattle.i9_buffers.specs.Line.{AsksWith}
use Rattle.i9_buffers.specs.SlotFiles.{slot_of}

module _ (words first second third : List ℕ) where
  -- What the command gives for the words. Where each file that they name is one of the three, no file can fail to be
  -- read, and the outcome is that of these very bytes. Whatever they name, it is one for which any file may have failed
  -- to be read, and what a file has that is none of the three is not said.
  pub record RequestGives (code : ℕ) (text : List ℕ) : Type 0 where
    pub asked : List (List ℕ)
    pub asks : AsksWith words asked
    pub gives : AllTold (slot_of first second third) (names_of (command_of asked))
        → Gives (slot_of first second third) (λ name. ⊥) (command_of asked) code text
    pub may_give : Gives (slot_of first second third) (λ name. Rose 0 1) (command_of asked) code text

-- a front of a text that is given
pub record IsFrontOf (gives : ℕ → List ℕ → Type 0) (printed : List ℕ) : Type 0 where
  pub code : ℕ
  pub text : List ℕ
  pub rest : List ℕ
  pub is_given : gives code text
  pub parts : printed ++ rest ≡ text

-- nothing, or a front of a text that is given
abbrev pub IsCut : (ℕ → List ℕ → Type 0) → List ℕ → Type 0
IsCut gives printed = (printed ≡ []) ⊎ IsFrontOf gives printed
