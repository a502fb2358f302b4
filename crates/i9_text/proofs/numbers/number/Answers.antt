use Rattle.std.proofs.Common.{sym, arith}
use Rattle.std.proofs.lemmas.Grind.{common_steps}
use Rattle.std.proofs.lemmas.Int.Digits.{digits_value-lt, digits_value_more, digits_more}
use Rattle.std.proofs.lemmas.List.{length-take-le, take_all}
use Rattle.i9_text.specs.Text.{number_of}
use Rattle.i9_text.proofs.Digits.{number_of-digits, number_of-other, small_number}
use Rattle.i9_text.proofs.numbers.number.Goals as goal

pub returns-then-is_empty : goal.returns-then-is_empty
unfolding number_of
returns-then-is_empty c = grind (arith, common_steps)

pub returns-then-digit-radix : goal.returns-then-digit-radix
returns-then-digit-radix c = sym (number_of-other c.args.radix c.args.most c.args.word.now c.loop-byte.byte-index c.loop-byte-test.true (omega (arith, c.digit-digit.ensures)))

pub overflow_mul-value : goal.overflow_mul-value
overflow_mul-value c = grind (arith, length-take-le, digits_value-lt, small_number)

pub overflow_add-value : goal.overflow_add-value
overflow_add-value c = grind (arith, length-take-le, digits_value-lt, small_number)

pub loop-byte-preserved : goal.loop-byte-preserved
loop-byte-preserved c = grind (arith, digits_value_more, digits_more)

pub returns : goal.returns
returns c = grind (arith, take_all, common_steps, number_of-digits)
