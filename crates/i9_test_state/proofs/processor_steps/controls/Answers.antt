use Rattle.std.proofs.Common.{◌≡◌, ℕ, false, List, [], ◌++◌, refl, ap, ◌∙◌}
use Rattle.std.proofs.lemmas.Bool.{false≢true}
use Rattle.i9_model.specs.State.{State, Frames}
use Rattle.i9_model.specs.Frames.{flushed, with_marked, wrote, softened}
use Rattle.i9_model.specs.Writes.{upwards, written}
use Rattle.i9_model.specs.Memory.{with_writes}
use Rattle.i9_model.specs.Tables.{tables_hazard, group_hazard}
use Rattle.i9_model.specs.Step.{Action, Flushes, memory_after, frames_after, moved}
use Rattle.i9_processor.specs.declared.effect.Move.TheVariants as moves
use Rattle.i9_processor.specs.declared.effect.Effect.{Effect}
use Rattle.i9_processor.specs.declared.effect.Control.{Control}
use Rattle.i9_processor.specs.declared.effect.Control.TheVariants as kinds
use Rattle.i9_processor.specs.Effect.{action_in, requests_in, CanControl}
use Rattle.i9_processor.specs.State.{state_of}
use Rattle.i9_model.proofs.FrameLaws.{none_wrote}
use Rattle.i9_processor.proofs.Appending.{unmarked_bytes}
use Rattle.i9_test_state.proofs.processor_steps.controls.Goals as goal

-- an action that merely flushes
record IsFlush (a : Action) : Type 0 where
  move : a.move ≡ Flushes
  writes : a.writes ≡ []
  stale : a.stale ≡ []
  lost : a.lost ≡ []

same_memory : (s : State) (a : Action) → IsFlush a → (moved s a).memory ≡ s.memory
unfolding moved written
same_memory s a h = ap (λ (ws : List (ℕ × ℕ)). with_writes (memory_after s.memory a.move) ws) h.writes ∙ ap (memory_after s.memory) h.move

flushed_frames : (s : State) (a : Action) → IsFlush a → (moved s a).frames ≡ flushed s.frames
unfolding moved
flushed_frames s a h =
    let f = frames_after s.frames a.move in
    ap (softened (wrote (with_marked f a.lost) a.writes)) h.stale
    ∙ ap (wrote (with_marked f a.lost)) h.writes
    ∙ none_wrote (with_marked f a.lost)
    ∙ ap (with_marked f) h.lost
    ∙ ap (frames_after s.frames) h.move

-- behind it the tables are read as they are
behind : (c : Control) (s : State) (a : Action) → IsFlush a → CanControl (record s { frames = flushed s.frames }) c → CanControl (moved s a) c
unfolding moved
behind kinds.Keeps s a h can = tt
behind (kinds.Restarts first prcb) s a h can = (λ i. tables_hazard (same_memory s a h i) (flushed_frames s a h i) prcb) ∙ can
behind (kinds.LoadsGroup group) s a h can = (can.0, ap (λ (f : Frames). group_hazard f s.tables.control_table group) (flushed_frames s a h) ∙ can.1)

pub applies-requires-clause-controls : goal.applies-requires-clause-controls
applies-requires-clause-controls c =
    let s = state_of c.args.p.now in
    let e = c.going-effect.result in
    let effect : Effect = record e {
      frames = moves.Flushes;
      control = c.args.control;
      plain = false;
      rest = λ is. absurd (false≢true is);
    } in
    let flush : IsFlush (action_in s effect) = record {
      move = refl;
      writes = ap (λ (bs : List ℕ). upwards e.address bs ++ requests_in e.requests) c.going-effect.ensures.keeps.bytes ∙ ap requests_in c.going-effect.ensures.keeps.requests;
      stale = unmarked_bytes effect c.going-effect.ensures.keeps.stale;
      lost = refl;
    } in
    behind c.args.control s (action_in s effect) flush c.requires.can
