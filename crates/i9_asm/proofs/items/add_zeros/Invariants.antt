use Rattle.std.proofs.Common.{◌≡◌, ◌++◌}
use Rattle.i9_asm.specs.Source.{zeros}
use Rattle.i9_asm.proofs.items.add_zeros.Given as goal

abbrev pub invariant-loop : goal.invariant-loop
invariant-loop l = l.bytes.items ≡ l.fn.bytes.items ++ zeros l.counter
