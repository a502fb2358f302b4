use Rattle.i9_replay.proofs.ReadBack.{journal_says, line_of-journal}
use Rattle.i9_schedule.proofs.journal.journal_line.Goals as goal

pub returns-in-Ok-clause-says : goal.returns-in-Ok-clause-says
returns-in-Ok-clause-says c = rw c.in-Ok.ensures (λ version of. journal_says version c.args.count c.args.event.now of c.requires.count c.requires.ranges)

pub returns-in-Ok-clause-read : goal.returns-in-Ok-clause-read
returns-in-Ok-clause-read c = rw c.in-Ok.ensures (λ told of. line_of-journal told c.args.count c.args.event.now of c.requires.count c.requires.ranges)
