-- A statement, operand by operand.
use Rattle.std.specs.Prelude.{◌≡◌, ℕ, Bool, true, List, [], ◌∷◌, ◌++◌, if◌then◌else◌}
use Rattle.i9_text.specs.Text.{space}
use Rattle.i9_statement.specs.Fields.{comma}
use Rattle.i9_statement.specs.Instructions.{Fields}

-- what stands before an operand: a space, and a comma where others stand before it
abbrev pub separator : Bool → List ℕ
separator started = if started then comma ∷ space ∷ [] else space ∷ []

-- operands behind others, or as the first ones
unfoldable pub pieces : Bool → Fields → List ℕ
pieces started [] = []
pieces started (f ∷ fs) = (separator started ++ f) ++ pieces true fs

-- others stand before what follows
abbrev pub started_by : Bool → Fields → Bool
started_by started [] = started
started_by started (f ∷ fs) = true

-- operands were appended to a text
pub record Added (old new : List ℕ) (started : Bool) (fs : Fields) (now : Bool) : Type 0 where
  pub text : new ≡ old ++ pieces started fs
  pub after : now ≡ started_by started fs
