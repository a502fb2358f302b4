-- What the sets of the local register cache hold.
use Rattle.std.specs.Prelude.{ℕ, ◌<◌, ◌≤◌, List, length}
use Rattle.i9_model.specs.declared.frame.Frame.{Frame}

-- how many sets there are, and the frames that they hold, the oldest first
pub record Held : Type 0 where
  pub size : ℕ
  pub frames : List Frame

abbrev pub held : ℕ → List Frame → Held
held n fs = record { size = n; frames = fs }

-- there are 1 to 15 sets, and no more frames than sets
pub record HasEnoughSets (h : Held) : Type 0 where
  pub some : 0 < h.size
  pub below : h.size < 16
  pub few : length h.frames ≤ h.size
