use Rattle.std.proofs.Common.{arith}
use Rattle.i9_course.proofs.Ahead.{ahead_later, ahead_fenced, ahead_precise}
use Rattle.i9_course.proofs.laws.nothing_issues_earlier.Goals as goal

pub returns : goal.returns
returns c = grind (arith, ahead_later, ahead_fenced, ahead_precise)
