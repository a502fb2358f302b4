use Rattle.i9_tune.proofs.Sources.{allowed_parts}
use Rattle.i9_tune.proofs.Swaps.{swap}
use Rattle.i9_tune.proofs.laws.instructions_that_are_apart_change_places.Goals as goal

pub returns : goal.returns
returns c area i j is s p q = swap area i j is s (allowed_parts i p) (allowed_parts j q)
