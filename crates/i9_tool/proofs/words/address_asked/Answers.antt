use Rattle.std.proofs.Common.{sym, rules}
use Rattle.i9_statement.proofs.Decimals.{hex_below}
use Rattle.i9_tool.proofs.words.address_asked.Goals as goal

pub overflow_cast-result : goal.overflow_cast-result
overflow_cast-result c = let small = hex_below c.as_bytes.result.now c.in_ok-n.n (sym c.in_ok-n.ensures) in search rules
