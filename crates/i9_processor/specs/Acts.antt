-- What is done at once, and what waits.
use Rattle.std.specs.Prelude.{◌≡◌, ℕ, ◌<◌, ◌≤◌, true, false, List, [], length}
use Rattle.std.specs.List.{AllByRecursion}
use Rattle.i9_model.specs.Late.{Wait}
use Rattle.i9_processor.specs.declared.landing.Landing.{Landing}
use Rattle.i9_processor.specs.declared.effect.Effect.{Effect}
use Rattle.i9_processor.specs.declared.effect.Move.{Move}
use Rattle.i9_processor.specs.declared.effect.Move.TheVariants as moves
use Rattle.i9_processor.specs.declared.effect.Control.{Control}
use Rattle.i9_processor.specs.declared.effect.Control.TheVariants as controls
use Rattle.i9_processor.specs.Effect.{writes_in}
use Rattle.i9_processor.specs.Rest.{no_requests}

-- the bytes of an effect can wait behind these requests
pub record CanQueue (waiting : List Wait) (done : ℕ) (e : Effect) : Type 0 where
  pub row : e.requests ≡ no_requests
  pub few : length waiting < 3
  pub order : AllByRecursion (λ w. w.due ≤ done) waiting

-- they wait, or are stored at once where nothing waits
abbrev pub CanPut : List Wait → Landing → Effect → Type 0
CanPut waiting l e =
    (l.request ≡ true → CanQueue waiting l.done e)
    × (l.request ≡ false → 0 < length (writes_in e) → waiting ≡ [])

-- nothing waits where a frame is saved, and at a flush
abbrev pub IsDrainedToMove : List Wait → Move → Type 0
IsDrainedToMove waiting moves.Stays = Unit {0}
IsDrainedToMove waiting (moves.Saves push back) = waiting ≡ []
IsDrainedToMove waiting (moves.Returns frame) = Unit {0}
IsDrainedToMove waiting moves.Flushes = waiting ≡ []

-- nothing waits where something is done to the controls that start-up reads
abbrev pub IsDrainedToControl : List Wait → Control → Type 0
IsDrainedToControl waiting controls.Keeps = Unit {0}
IsDrainedToControl waiting (controls.Restarts first prcb) = waiting ≡ []
IsDrainedToControl waiting (controls.LoadsGroup group) = waiting ≡ []
