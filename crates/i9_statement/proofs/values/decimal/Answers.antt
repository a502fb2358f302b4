use Rattle.std.proofs.Common.{take, get_or, sym, ap, ◌∙◌, arith}
use Rattle.std.specs.Option.{option_map}
use Rattle.std.specs.Char.{digit_value}
use Rattle.std.specs.Str.Parse.{digits_value}
use Rattle.std.proofs.lemmas.Grind.{common_steps}
use Rattle.std.proofs.lemmas.Int.Digits.{digits_value_more, digits_more}
use Rattle.std.proofs.lemmas.List.{take_all}
use Rattle.i9_statement.specs.Values.{capped}
use Rattle.i9_statement.proofs.Decimals.{decimal_of-empty, decimal_of-other, capped_digit, capped_small}
use Rattle.i9_statement.proofs.ReadValues.{decimal_of-digits}
use Rattle.i9_statement.proofs.values.decimal.Goals as goal

pub returns-then-is_empty : goal.returns-then-is_empty
returns-then-is_empty c = grind (arith, common_steps, decimal_of-empty)

pub returns-then-digit-ge10 : goal.returns-then-digit-ge10
returns-then-digit-ge10 c = sym (ap (option_map capped) (decimal_of-other c.args.text.now c.loop-byte.byte-index c.loop-byte-test.true (omega (arith, c.digit-digit.ensures))))

pub with_digit-value-requires-clause-n : goal.with_digit-value-requires-clause-n
with_digit-value-requires-clause-n c = rw c.loop-byte.invariant.value (capped_small (digits_value 10 (take c.loop-byte.byte-index c.args.text.now)))

pub loop-byte-preserved : goal.loop-byte-preserved
loop-byte-preserved c =
    let i = c.loop-byte.byte-index in
    let w = c.args.text.now in
    let more = digits_value_more 10 w i c.loop-byte-test.true in
    record {
      value = c.with_digit-value.ensures ∙ rw (c.digit-digit.ensures, c.loop-byte.invariant.value) (capped_digit (digits_value 10 (take i w)) (digit_value (get_or w i 0))) ∙ ap capped (sym more);
      digits = digits_more 10 w i c.loop-byte-test.true c.loop-byte.invariant.digits (omega (arith, c.digit-digit.ensures));
    }

pub returns : goal.returns
returns c = grind (arith, take_all, common_steps, decimal_of-digits)
