-- New sets that were made for an effect can take the place of the others, and are as many as there are to be.
use Rattle.std.proofs.Common.{◌≡◌, ℕ, List, Option, arith}
use Rattle.i9_model.specs.Memory.{Memory}
use Rattle.i9_model.specs.Step.{Move}
use Rattle.i9_model.specs.Free.{ComesAfterFlush}
use Rattle.i9_model.specs.HeldFrames.{renewed}
use Rattle.i9_frames.specs.Sets.{Held}
use Rattle.i9_processor.specs.declared.effect.Control.{Control}
use Rattle.i9_processor.specs.declared.effect.Control.TheVariants as controls
use Rattle.i9_processor.specs.Effect.{control_in, AreMade, CanTake, size_with}

pub made_size : (asked : Option ℕ) (m : Memory) (c : Control) (made : Option Held) (n : ℕ) → AreMade asked m c made → size_with made n ≡ renewed asked m (control_in c) n
made_size asked m c made n is = grind arith

pub made_takes : (asked : Option ℕ) (m : Memory) (c : Control) (made : Option Held) (v : Move) (writes : List (ℕ × ℕ)) → AreMade asked m c made → ComesAfterFlush (control_in c) v writes → CanTake v made
made_takes asked m c made v writes is after = grind arith
