use Rattle.std.proofs.Common.{◌≡◌, ◌+◌, drop}
use Rattle.i9_asm.specs.declared.comments.Quote.TheVariants.{Outside}
use Rattle.i9_asm.specs.Lines.{code_len}
use Rattle.i9_asm.proofs.comments.cut_comment.Given as goal

abbrev pub invariant-loop-i : goal.invariant-loop-i
invariant-loop-i l = l.i + code_len l.quote (drop l.i l.line) ≡ code_len Outside l.line
