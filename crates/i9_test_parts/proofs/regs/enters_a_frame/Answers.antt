use Rattle.std.proofs.Common.{refl, ◌∙◌}
use Rattle.std.proofs.lemmas.Nat.Bits.{bit_at_cat_low, bit_at_ones}
use Rattle.i9_model.proofs.SetLaws.{one-set}
use Rattle.i9_test_parts.proofs.regs.enters_a_frame.Goals as goal

pub issue_frame-requires-clause-locals : goal.issue_frame-requires-clause-locals
issue_frame-requires-clause-locals g c = λ k low.
    one-set 2147549183 k (bit_at_cat_low 32768 16 65535 k low ∙ bit_at_ones 16 k low)

pub issue_frame-requires-clause-frame : goal.issue_frame-requires-clause-frame
issue_frame-requires-clause-frame g c = one-set 2147549183 31 refl
