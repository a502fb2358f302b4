-- Where nothing is held, memory is what is behind, and regions may be configured.
use Rattle.std.proofs.Common.{◌≡◌, ℕ, List, [], ap}
use Rattle.i9_model.specs.declared.frame.Frame.{Frame}
use Rattle.i9_model.specs.Memory.{Memory}
use Rattle.i9_model.specs.HeldFrames.{Cache, cache, over, overlaid, cache_configured}
use Rattle.i9_agree.proofs.Overlays.{over_mcon}

pub empty_behind : (hs : List Frame) (m : Memory) → hs ≡ [] → over hs m ≡ m
unfolding over
empty_behind hs m none = ap (λ (gs : List Frame). over gs m) none

pub ruleset empty_rules = (empty_behind)

-- what is behind gets the configuration words that it has
pub configured_none : (c : Cache) → cache_configured (overlaid c) c ≡ c
configured_none c = ap (λ (k : ℕ → ℕ). cache c.held (record { bytes = c.behind.bytes; mcon = k })) (over_mcon c.held c.behind)
