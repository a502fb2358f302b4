use Rattle.i9_tool.proofs.top.answer_words.Goals as goal

pub returns-clause-answers : goal.returns-clause-answers
returns-clause-answers g c = rw c.status.ensures c.work.ensures.answers

pub returns-clause-formless : goal.returns-clause-formless
returns-clause-formless g c = rw c.status.ensures c.work.ensures.formless

pub returns-clause-fetches : goal.returns-clause-fetches
returns-clause-fetches g c = rw c.status.ensures c.work.ensures.fetches
