use Rattle.std.proofs.Common.{◌-◌, ◌/◌, ◌%◌, sym, ap, ◌∙◌}
use Rattle.std.specs.Prelude.{bit_and, bit_or}
use Rattle.std.specs.Int.Bits.{or_zero_r}
use Rattle.i9_ints.specs.Ints.{interrupts_of}
use Rattle.i9_ints.proofs.state.Ints.pending.Goals as goal

-- no pin is low
pub returns-then-self-eq0 : goal.returns-then-self-eq0
unfolding interrupts_of
returns-then-self-eq0 c =
    let ints = c.args.self.now in
    sym (ap (λ low. bit_or ints.pending (bit_and low (255 - ints.icon / 4 % 256))) c.if-self-eq0.true ∙ or_zero_r ints.pending)
