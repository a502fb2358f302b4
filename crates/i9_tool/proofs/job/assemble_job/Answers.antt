use Rattle.i9_generator.proofs.MadeSource.{source_not_refused}
use Rattle.i9_tool.proofs.Outcomes.{answers_unprinted}
use Rattle.i9_tool.proofs.job.assemble_job.Goals as goal

pub returns-in-Err-Memory-clause-answers : goal.returns-in-Err-Memory-clause-answers
returns-in-Err-Memory-clause-answers g c = λ some. answers_unprinted _ _ _ some

pub unreachable-requires : goal.unreachable-requires
unreachable-requires g c =
    let bad = rw c.in-Err-Bad.field-0-is at c.in-Err-Bad.ensures.refused in
    source_not_refused c.args.words.number _ (rw c.requires.source at bad)
