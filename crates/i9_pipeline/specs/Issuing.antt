-- How a record issues.
use Rattle.std.specs.Prelude.{◌≡◌, ℕ, ◌+◌, ◌^◌, ◌<◌, ◌≤◌, true, false, List, [], ◌∷◌, ◌++◌}
use Rattle.i9_model.specs.declared.need.Need.{Need}
use Rattle.i9_model.specs.declared.need.Placed.{Placed}
use Rattle.i9_model.specs.declared.need.TimedNeed.{TimedNeed}
use Rattle.i9_model.specs.Free.{IsFree}
use Rattle.i9_model.specs.Late.{resource, resources}
use Rattle.i9_model.specs.State.{State}
use Rattle.i9_model.specs.Step.{Action, moved, acted, counted}
use Rattle.i9_model.specs.Turns.{Pending, StandsFor, IsAllDone, with_need, waiting_until, placed_record}
use Rattle.i9_regs.specs.File.{issued_over}
use Rattle.i9_course.specs.Course.{puts_of}
use Rattle.i9_shade.specs.Shade.{Kept}
use Rattle.i9_processor.specs.declared.effect.Effect.{Effect}
use Rattle.i9_processor.specs.declared.landing.Landing.{Landing}
use Rattle.i9_processor.specs.Effect.{action_in, AreRegisters, CanAct, CanPost, CanChange, CanControl, CanMove, IsStill}
use Rattle.i9_pipeline.specs.declared.pipeline.Pipeline.{Pipeline}
use Rattle.i9_pipeline.specs.Flow.{Flow}
use Rattle.i9_pipeline.specs.Raw.{Hides, shades_need}

-- no record takes more turns
abbrev pub most_turns : ℕ
most_turns = 248

-- a need is placed on a scoreboard with these turns
abbrev pub IsPlaced : Pending → Need → Placed → Pending → Type 0
IsPlaced old need placed new = (rs : List TimedNeed) → StandsFor old rs → StandsFor new (placed_record need placed ∷ rs)

-- What an action leaves lands late: what is written is planned, and bytes wait where it is a request.
pub record Acts (before : Flow) (l : Landing) (a : Action) (after : Flow) : Type 0 where
  pub cells : (r : ℕ) → r < resources
      → after.cells r ≡ issued_over l.writes l.done r (resource after.state r) (before.cells r)
  pub waits : l.request ≡ true → (after.bytes ≡ before.bytes)
      × (after.queue ≡ before.queue ++ record { puts = a.writes; due = l.done } ∷ [])
  pub acts : l.request ≡ false → after.queue ≡ before.queue
  pub still : l.request ≡ false → IsStill a → after.bytes ≡ before.bytes

-- what is kept of bytes under these writes, done by a turn: those under a barrier that is no request, and else as
-- before
pub record Hidden (memory : ℕ → ℕ) (puts : List (ℕ × ℕ)) (was : Kept) (need : Need) (done : ℕ) (k : Kept) : Type 0 where
  pub bytes : shades_need need ≡ true → Hides memory puts k.pieces
  pub due : shades_need need ≡ true → k.due ≡ done
  pub keeps : shades_need need ≡ false → k ≡ was

-- the turns of one flow, and all else of another, whose last record is done at a turn
abbrev pub keeping : Flow → ℕ → Flow → Flow
keeping before done after = record after { turn = before.turn; floor = before.floor; done = done }

-- A record of this need and action issued: it was placed, what it leaves lands when it is done, and it changes no turn
-- but that of the last record.
pub record IsIssued (before : Flow) (need : Need) (a : Action) (after : Flow) : Type 0 where
  pub placed : Placed
  pub board : IsPlaced before.board (waiting_until before.floor need) placed after.board
  pub timed : (rs : List TimedNeed) → StandsFor before.board rs
      → StandsFor after.board (with_need rs (waiting_until before.floor need))
  pub bound : (b : ℕ) → IsAllDone before.board b → (waiting_until before.floor need).not_before ≤ b
      → IsAllDone after.board (b + need.cost)
  pub cost : need.cost ≤ most_turns
  pub keeps : after ≡ keeping before placed.done after
  pub acts : Acts before (record { writes = need.writes; done = placed.done; request = need.request }) a after
  pub hides : Hidden before.bytes (puts_of before.size before.cache a) before.shade need placed.done after.shade

-- what is done can act with the turns that any scoreboard gives its need
abbrev pub CanActPlaced : Pipeline → Need → Effect → Type 0
CanActPlaced p need e =
    (placed : Placed) (b : Pending) → IsPlaced p.board need placed b
    → CanAct p.processor (record { writes = need.writes; done = placed.done; request = need.request }) e

-- an effect can be applied in a state, which counts so many instructions
pub record IsReady (s : State) (e : Effect) (counts : ℕ) : Type 0 where
  pub registers : AreRegisters e
  pub posts : CanPost e.posting
  pub changes : CanChange e.dma
  pub moves : CanMove s.frames e.frames
  pub free : IsFree s (action_in s e)
  pub controls : CanControl (moved s (action_in s e)) e.control
  pub below : s.count + counts < 2 ^ 63

-- the state behind it
abbrev pub state_behind : State → Effect → ℕ → State
state_behind s e counts = counted counts (acted s (action_in s e))
