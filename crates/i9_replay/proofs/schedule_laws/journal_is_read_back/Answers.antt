use Rattle.i9_replay.proofs.ReadBack.{journal_says, line_of-journal}
use Rattle.i9_replay.proofs.schedule_laws.journal_is_read_back.Goals as goal

pub returns-clause-words : goal.returns-clause-words
returns-clause-words c = journal_says

pub returns-clause-line : goal.returns-clause-line
returns-clause-line c = line_of-journal
