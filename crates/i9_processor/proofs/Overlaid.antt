-- A test of one byte.
use Rattle.std.proofs.Common.{◌≡◌, ℕ, ◌^◌, ◌<◌, Bool, ap, ◌∙◌, arith}
use Rattle.std.specs.Prelude.{is_some}
use Rattle.i9_model.specs.Writes.{wrapped}
use Rattle.i9_model.specs.Memory.{in_port_page}
use Rattle.i9_model.specs.State.{Frames}
use Rattle.i9_model.specs.Frames.{in_frames}
use Rattle.i9_model.specs.Hazards.{least, write_hazard, port_hazard}

here : (a : ℕ) → a < 2 ^ 32 → wrapped a ≡ a
here a h = omega arith

found : (p : ℕ → Bool) (x : ℕ) → is_some (least p x 1) ≡ p (wrapped x)
found p x = grind arith

pub port_alone : (a : ℕ) → a < 2 ^ 32 → is_some (port_hazard a 1) ≡ in_port_page a
unfolding port_hazard
port_alone a h = found in_port_page a ∙ ap in_port_page (here a h)

pub live_alone : (s : Frames) (a : ℕ) → a < 2 ^ 32 → is_some (write_hazard s a 1) ≡ in_frames s.live a
unfolding write_hazard
live_alone s a h = found (in_frames s.live) a ∙ ap (in_frames s.live) (here a h)

pub ruleset overlay_rules = (port_alone, live_alone)
