use Rattle.std.proofs.Common.{arith}
use Rattle.i9_asm.proofs.CodeLength.{code_len-on, code_len-end}
use Rattle.i9_asm.proofs.comments.cut_comment.Goals as goal

pub returns-then-is_comment : goal.returns-then-is_comment
returns-then-is_comment c = grind (arith, code_len-end)

pub loop-i-preserved : goal.loop-i-preserved
loop-i-preserved c = grind (arith, code_len-on)
