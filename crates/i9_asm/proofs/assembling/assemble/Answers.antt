use Rattle.i9_text.specs.Text.{lines_of}
use Rattle.std.proofs.Common.{arith}
use Rattle.i9_asm.proofs.CountedSource.{few_pairs}
use Rattle.i9_asm.proofs.Once.{only_answer, first_answer}
use Rattle.i9_asm.proofs.assembling.assemble.Goals as goal

pub returns-in-Ok-clause-most : goal.returns-in-Ok-clause-most
returns-in-Ok-clause-most c = grind (arith, few_pairs)

pub returns-in-Ok-clause-only : goal.returns-in-Ok-clause-only
returns-in-Ok-clause-only c = only_answer (lines_of c.args.text.now) c.segments_of.result c.segments_of.ensures.found c.segments_of.ensures.refused

pub returns-in-Ok-clause-first : goal.returns-in-Ok-clause-first
returns-in-Ok-clause-first c = first_answer (lines_of c.args.text.now) c.segments_of.result c.segments_of.ensures.found c.segments_of.ensures.refused
