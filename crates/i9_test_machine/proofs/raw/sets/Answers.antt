use Rattle.std.proofs.Common.{◌≡◌, ℕ, ◌<◌, arith}
use Rattle.std.specs.Int.{bit_at}
use Rattle.std.proofs.lemmas.Nat.Bits.{bit_at_ones}
use Rattle.i9_model.specs.Late.{resources}
use Rattle.i9_model.proofs.SetLaws.{one-set}
use Rattle.i9_test_machine.proofs.raw.sets.Goals as goal

-- all resources
whole : (r : ℕ) → r < resources → bit_at 18446744073709551615 r ≡ 1
whole r few = bit_at_ones 64 r (omega (arith, few))

pub issue-requires-clause-covered : goal.issue-requires-clause-covered
issue-requires-clause-covered c = record {
  sets = λ r few clear. let one = whole r few in absurd (omega (arith, one, clear));
  code = λ clear. let one = whole 32 (omega arith) in absurd (omega (arith, one, clear));
  start = λ starts r few here. one-set 18446744073709551615 r (whole r few);
}
