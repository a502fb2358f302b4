-- The names that are known: none, those of a table, or those that were defined before a step.
use Rattle.std.proofs.Common.{◌≡◌, ℕ, None, refl}
use Rattle.i9_statement.specs.declared.known.Known.TheVariants.{Nothing, All, Before}
use Rattle.i9_statement.specs.Known.{definitions, values_of, values_before, known_in}

pub known-nothing : known_in Nothing ≡ (λ name. None)
unfolding known_in
known-nothing = refl

pub known-all : (table : _) → known_in (All table) ≡ values_of (definitions table.now)
unfolding known_in
known-all table = refl

pub known-before : (table : _) (step : ℕ) → known_in (Before table step) ≡ values_before step (definitions table.now)
unfolding known_in
known-before table step = refl
