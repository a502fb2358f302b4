use Rattle.std.proofs.Common.{sym, rules}
use Rattle.i9_statement.proofs.Decimals.{hex_below}
use Rattle.i9_statement.proofs.statements.braced.Goals as goal

pub overflow_cast-result : goal.overflow_cast-result
overflow_cast-result c = let small = hex_below c.in_ok-digits.digits.now c.in_ok-bits.bits (sym c.in_ok-bits.ensures) in search rules
