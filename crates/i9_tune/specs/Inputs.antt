-- What a result sees of its sources, and what it makes of the arithmetic controls.
use Rattle.std.specs.Prelude.{◌≡◌, ℕ, ◌<◌, ◌^◌, bit_or, Bool, true, false, Option, List, slice_index}
use Rattle.i9_isa.specs.declared.op.Op.{Op}
use Rattle.i9_isa.specs.Resources.{writes_code}
use Rattle.i9_model.specs.Conditions.{with_code}
use Rattle.i9_model.specs.Results.{Answer}
use Rattle.i9_model.specs.Step.{values_of, controls_of}
use Rattle.i9_model.specs.Standing.{answer_fault}

-- the same first words, so many
abbrev pub IsSameWords : ℕ → List ℕ → List ℕ → Type 0
IsSameWords n a x = (k : ℕ) → k < n → slice_index a k ≡ slice_index x k

-- what is made of the arithmetic controls: nothing, a new condition code, or the overflow flag
pub data Change : Type 0 where
  Keeps : Change
  Codes : (code : ℕ) → Change
  Flags : Change

abbrev pub changed : Change → ℕ → ℕ
changed Keeps ac = ac
changed (Codes n) ac = with_code ac n
changed Flags ac = bit_or ac (2 ^ 8)

abbrev pub is_code : Change → Bool
is_code Keeps = false
is_code (Codes n) = true
is_code Flags = false

-- Two results of a name, from these arithmetic controls, are the same, and make the same of the controls.
pub record AreSame (op : Op) (ac bc : ℕ) (o p : Option Answer) : Type 0 where
  pub values : values_of o ≡ values_of p
  pub fault : answer_fault o ≡ answer_fault p
  pub change : Change
  pub here : controls_of o ac ≡ changed change ac
  pub there : controls_of p bc ≡ changed change bc
  pub coded : is_code change ≡ true → writes_code op ≡ true
