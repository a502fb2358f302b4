use Rattle.std.proofs.Common.{arith, sym, ap, ◌∙◌}
use Rattle.i9_model.specs.Numbers.{highest_one}
use Rattle.i9_exec.proofs.Places.{highest_one-zero, highest_one_is}
use Rattle.i9_exec.proofs.bits.highest_one.Goals as goal

pub returns-then-word-eq0 : goal.returns-then-word-eq0
returns-then-word-eq0 c = sym (ap (highest_one 32) c.if-word-eq0.true ∙ highest_one-zero 32)

pub returns-else-word-eq0 : goal.returns-else-word-eq0
returns-else-word-eq0 c = sym (highest_one_is c.args.word (omega arith) (omega arith))
