use Rattle.std.proofs.Common.{arith}
use Rattle.i9_exec.proofs.Products.{shift_far, shift_positive, shift_negative}
use Rattle.i9_exec.proofs.signed.shift_overflows.Goals as goal

pub returns-then-places-ge32 : goal.returns-then-places-ge32
returns-then-places-ge32 c = shift_far c.args.word c.args.places (omega arith) (omega arith)

pub returns-then-word : goal.returns-then-word
returns-then-word c = shift_positive c.args.word c.args.places (omega arith) (omega arith)

pub returns-else-word : goal.returns-else-word
returns-else-word c = shift_negative c.args.word c.args.places (omega arith) (omega arith) (omega arith)
