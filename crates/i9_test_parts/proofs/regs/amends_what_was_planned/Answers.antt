use Rattle.std.proofs.Common.{refl, ◌∙◌}
use Rattle.std.proofs.lemmas.Nat.Bits.{bit_at_cat_low, bit_at_ones}
use Rattle.i9_model.proofs.SetLaws.{one-set}
use Rattle.i9_test_parts.proofs.regs.amends_what_was_planned.Goals as goal

pub amend_frame-requires-clause-locals : goal.amend_frame-requires-clause-locals
amend_frame-requires-clause-locals g c = λ k low.
    one-set 6442516479 k (bit_at_cat_low 98304 16 65535 k low ∙ bit_at_ones 16 k low)

pub amend_frame-requires-clause-frame : goal.amend_frame-requires-clause-frame
amend_frame-requires-clause-frame g c = one-set 6442516479 31 refl
