use Rattle.i9_past.proofs.Unique.{same_records, same_end}
use Rattle.i9_past.proofs.laws.one_run.Goals as goal

pub returns-clause-records : goal.returns-clause-records
returns-clause-records c = same_records

pub returns-clause-end : goal.returns-clause-end
returns-clause-end c = same_end
