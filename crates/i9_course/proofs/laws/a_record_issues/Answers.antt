use Rattle.i9_course.proofs.Steps.{issues_lands, lands_clear}
use Rattle.i9_course.proofs.laws.a_record_issues.Goals as goal

pub returns-clause-lands : goal.returns-clause-lands
returns-clause-lands c = issues_lands

pub returns-clause-clear : goal.returns-clause-clear
returns-clause-clear c = lands_clear
