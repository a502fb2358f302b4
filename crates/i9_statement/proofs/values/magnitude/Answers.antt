use Rattle.std.proofs.Common.{drop, sym, ◌∙◌, arith}
use Rattle.std.proofs.lemmas.List.{take_rest}
use Rattle.i9_statement.specs.Values.{magnitude}
use Rattle.i9_statement.proofs.Decimals.{capped_hex}
use Rattle.i9_statement.proofs.values.magnitude.Goals as goal

pub returns-then-is_hexadecimal : goal.returns-then-is_hexadecimal
unfolding magnitude
returns-then-is_hexadecimal c =
    let is = sym c.is_hexadecimal.ensures ∙ c.if-is_hexadecimal.true in
    let number = rw (take_rest c.args.text.now 2) at c.number.ensures in
    rw is (number ∙ sym (capped_hex (drop 2 c.args.text.now)))

pub returns-else-is_hexadecimal : goal.returns-else-is_hexadecimal
unfolding magnitude
returns-else-is_hexadecimal c = grind arith
