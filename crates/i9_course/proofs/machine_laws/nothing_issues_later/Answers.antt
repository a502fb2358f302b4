use Rattle.i9_course.proofs.Ahead.{ahead_by_end}
use Rattle.i9_course.proofs.machine_laws.nothing_issues_later.Goals as goal

pub returns : goal.returns
returns c = ahead_by_end
