use Rattle.std.proofs.Common.{arith}
use Rattle.i9_text.proofs.Loop.{left_len-split}
use Rattle.i9_statement.proofs.KnownNames.{known-nothing}
use Rattle.i9_asm.proofs.FieldLoops.{split_fields, sized-on, sized-off, sized-all, bytes_of-small}
use Rattle.i9_asm.proofs.data.data_size.Goals as goal

pub loop-rest-smaller : goal.loop-rest-smaller
loop-rest-smaller c = left_len-split c.loop-rest.rest c.in-Some.fields c.split_field.result.1 c.in-Some.is c.split_field.ensures.shorter

pub loop-rest-preserved : goal.loop-rest-preserved
loop-rest-preserved c = grind (arith, split_fields, left_len-split, known-nothing, bytes_of-small, sized-on)

pub returns-then-is_none-clause-size : goal.returns-then-is_none-clause-size
returns-then-is_none-clause-size c = grind (arith, split_fields, known-nothing, sized-off, sized-all)

pub returns : goal.returns
returns c = grind arith
