use Rattle.std.proofs.Common.{arith}
use Rattle.std.proofs.lemmas.List.{take_all}
use Rattle.i9_asm.proofs.CodeLength.{code_len-whole}
use Rattle.i9_asm.proofs.comments.without_comment.Goals as goal

pub returns-else-contains : goal.returns-else-contains
returns-else-contains c = grind (arith, code_len-whole, take_all)
