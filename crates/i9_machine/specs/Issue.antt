-- What is told of an instruction that was issued.
use Rattle.std.specs.Prelude.{◌≡◌, ℕ, ◌==◌, if◌then◌else◌}
use Rattle.i9_model.specs.State.{State}
use Rattle.i9_model.specs.Step.{first_word, next_word}
use Rattle.i9_machine.specs.declared.line.Issued.{Issued}

-- the count of instructions before it, its address and its words, of so many, from the state before it
pub record TellsIssue (words : ℕ) (s : State) (t : Issued) : Type 0 where
  pub number : t.count ≡ s.count
  pub place : t.address ≡ s.ip
  pub one : t.first ≡ first_word s
  pub two : t.second ≡ (if words == 2 then next_word s else 0)
