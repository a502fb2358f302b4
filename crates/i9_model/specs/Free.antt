-- Free: what holds of every action that meets no hazard.
use Rattle.std.specs.Prelude.{◌≡◌, ℕ, List, [], length, None}
use Rattle.i9_model.specs.declared.layout.TheConstants.{LOCALS}
use Rattle.i9_model.specs.State.{State}
use Rattle.i9_model.specs.Hazards.{writes_hazard}
use Rattle.i9_model.specs.Controls.{Control, KeepsControls, Restarts, LoadsGroup}
use Rattle.i9_model.specs.Step.{Move, Stays, Saves, Returns, Flushes, Action, frames_after}

-- a frame is saved whole
abbrev pub IsWhole : Move → Type 0
IsWhole Stays = Unit {0}
IsWhole (Saves save words) = length words ≡ LOCALS
IsWhole Returns = Unit {0}
IsWhole Flushes = Unit {0}

-- what is done to controls comes after a flush that stores nothing
abbrev pub ComesAfterFlush : Control → Move → List (ℕ × ℕ) → Type 0
ComesAfterFlush KeepsControls v writes = Unit {0}
ComesAfterFlush (Restarts first prcb) v writes = (v ≡ Flushes) × (writes ≡ [])
ComesAfterFlush (LoadsGroup group) v writes = (v ≡ Flushes) × (writes ≡ [])

-- it saves frames whole, stores beside live frames, and changes controls after a mere flush alone
pub record IsFree (s : State) (a : Action) : Type 0 where
  pub whole : IsWhole a.move
  pub free : writes_hazard (frames_after s.frames a.move) a.writes ≡ None
  pub controls : ComesAfterFlush a.control a.move a.writes
