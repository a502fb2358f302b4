-- A printed branch target is read again.
use Rattle.std.proofs.Common.{◌≡◌, ℕ, ◌^◌, ◌<◌, ◌≤◌, true, arith}
use Rattle.std.specs.Prelude.{ℤ}
use Rattle.i9_isa.specs.declared.format.Format.{Format}
use Rattle.i9_isa.specs.Valid.{is_within}
use Rattle.i9_statement.specs.Noted.{fine}
use Rattle.i9_statement.specs.Values.{Names}
use Rattle.i9_statement.specs.Targets.{distance, reach, target_of}
use Rattle.i9_statement.specs.Printed.{target, target_text}
use Rattle.i9_statement.proofs.ReadValues.{value_of-hex}

pub distance-target : (n : ℕ) (ip : ℕ) (z : ℤ) → n ≤ 2 ^ 31 → ip < 2 ^ 32 → is_within n z ≡ true → distance ip (target ip z) ≡ z
distance-target n ip z small low h = grind arith

pub target_of-text : (ip : ℕ) (f : Format) (names : Names) (z : ℤ) → ip < 2 ^ 32 → is_within (reach f) z ≡ true → target_of ip f names (target_text ip z) ≡ fine z
unfolding target_of target_text
target_of-text ip f names z low h = grind (arith, value_of-hex, distance-target)
