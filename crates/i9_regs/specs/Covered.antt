-- What a record may change where its set of resources is known.
use Rattle.std.specs.Prelude.{◌≡◌, ℕ, ◌<◌, ◌%◌, ◌==◌, ◌||◌, IsTrue, None}
use Rattle.std.specs.Int.{bit_at, IsBitSet}
use Rattle.i9_isa.specs.declared.resources.TheConstants.{CONDITION_CODE}
use Rattle.i9_isa.specs.Resources.{is_in_frame}
use Rattle.i9_model.specs.Controls.{Control, KeepsControls, Restarts, LoadsGroup}
use Rattle.i9_model.specs.Late.{resources}
use Rattle.i9_model.specs.State.{State}
use Rattle.i9_model.specs.Step.{Action}
use Rattle.i9_model.specs.Writes.{last_put}

-- the processor starts anew
abbrev pub StartsAnew : Control → Type 0
StartsAnew KeepsControls = ⊥
StartsAnew (Restarts first prcb) = Unit {0}
StartsAnew (LoadsGroup group) = ⊥

-- A set of resources covers what an action changes in a state: registers that are not in it are not set, the condition
-- code that is not in it stays, and where the processor starts anew the locals, fp and the condition code are in it.
pub record IsCovered (writes : ℕ) (s : State) (a : Action) : Type 0 where
  pub sets : (r : ℕ) → r < resources → bit_at writes r ≡ 0 → last_put a.sets r ≡ None
  pub code : bit_at writes CONDITION_CODE ≡ 0 → a.ac % 8 ≡ s.ac % 8
  pub start : StartsAnew a.control → (r : ℕ) → r < resources → IsTrue (is_in_frame r || r == CONDITION_CODE)
      → IsBitSet writes r
