use Rattle.std.proofs.Common.{sym, append_assoc, arith}
use Rattle.std.proofs.lemmas.List.{append-nil}
use Rattle.i9_asm.specs.Source.{zeros}
use Rattle.i9_asm.proofs.GivenBytes.{zeros-more}
use Rattle.i9_asm.proofs.items.add_zeros.Goals as goal

pub loop-init : goal.loop-init
unfolding zeros
loop-init c = sym (append-nil c.args.bytes.now.items)

pub loop-preserved : goal.loop-preserved
loop-preserved c = grind (arith, append_assoc, zeros-more)
