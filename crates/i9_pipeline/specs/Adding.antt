-- Pieces that are kept behind others.
use Rattle.std.specs.Prelude.{◌≡◌, ℕ, ◌≤◌, List, ◌++◌, length, map}
use Rattle.i9_model.specs.declared.frame.Frame.{Frame}
use Rattle.i9_model.specs.declared.layout.TheConstants.{FRAME_SIZE}
use Rattle.i9_shade.specs.Shade.{Piece}
use Rattle.i9_pipeline.specs.Raw.{stood, HaveStood, Cover}

-- at most n pieces were added, with what stands in a memory under writes
pub record Adds (f : ℕ → ℕ) (puts : List (ℕ × ℕ)) (n : ℕ) (old new : List Piece) : Type 0 where
  pub added : List Piece
  pub is : new ≡ old ++ added
  pub few : length added ≤ n
  pub same : HaveStood f added
  pub covers : Cover puts added

-- the pieces under frames
abbrev pub under : (ℕ → ℕ) → List Frame → List Piece
under f fs = map (λ frame. stood f frame.address FRAME_SIZE) fs
