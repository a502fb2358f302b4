use Rattle.i9_issue.proofs.AllOpen.{all_open}
use Rattle.i9_issue.proofs.laws.at_most_seven_are_open.Goals as goal

pub returns : goal.returns
returns c = all_open
