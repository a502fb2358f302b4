use Rattle.std.proofs.Common.{◌∙◌, arith}
use Rattle.i9_isa.specs.Operands.{has_offset}
use Rattle.i9_decode.proofs.Modes.{mode_added, not_true, not_false}
use Rattle.i9_decode.proofs.encoder.memory_word.Goals as goal

pub returns-clause-mode : goal.returns-clause-mode
returns-clause-mode c =
    let e = c.mode_bits.ensures in
    let l = c.address_low-low.ensures in
    mode_added _ c.mode_bits.result c.address_low-low.result (omega arith) e.small e.low
    (λ t. e.short (not_false (has_offset c.args.ea.now.mode) _ e.long t)) l.small
    (λ t. l.long_small (not_true (has_offset c.args.ea.now.mode) _ e.long t)) ∙ e.mode
