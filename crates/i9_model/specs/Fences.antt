-- Needs with fences between them, the newest first: nothing behind a fence issues before all that stands before it is
-- done.
use Rattle.std.specs.Prelude.{ℕ, List, [], ◌∷◌}
use Rattle.i9_model.specs.declared.need.Need.{Need}
use Rattle.i9_model.specs.declared.need.TimedNeed.{TimedNeed}
use Rattle.i9_model.specs.Turns.{with_need, end_turn, waiting_until}

-- a need, or a fence
pub data Item : Type 0 where
  Placed : Need → Item
  Fence : Item

-- the records with their turns, and the turn that the last fence asks for
pub record Fenced : Type 0 where
  pub records : List TimedNeed
  pub fence : ℕ

-- a need gets its turns, not below the last fence's
abbrev pub with_item : Item → Fenced → Fenced
with_item (Placed n) m = record { records = with_need m.records (waiting_until m.fence n); fence = m.fence }
with_item Fence m = record { records = m.records; fence = end_turn m.records }

-- the turns of a list with fences
abbrev pub fenced : List Item → Fenced
fenced [] = record { records = []; fence = 0 }
fenced (item ∷ items) = with_item item (fenced items)
