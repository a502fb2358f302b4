use Rattle.std.proofs.Common.{ℕ, zero, suc, ◌+◌, ◌<◌, refl, arith}
use Rattle.std.specs.Int.{IsBitSet}
use Rattle.i9_model.proofs.SetLaws.{one-set}
use Rattle.i9_test_parts.proofs.regs.issues_values.Goals as goal

set_two : (k : ℕ) → k < 2 → IsBitSet 4295032880 (4 + k)
set_two zero h = one-set 4295032880 4 refl
set_two (suc zero) h = one-set 4295032880 5 refl
set_two (suc (suc k)) h = absurd (omega (arith, h))

pub issue-requires-clause-set : goal.issue-requires-clause-set
issue-requires-clause-set g c = set_two
