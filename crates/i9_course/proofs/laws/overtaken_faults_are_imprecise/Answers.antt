use Rattle.std.proofs.Common.{arith}
use Rattle.i9_course.proofs.Ahead.{imprecise_only, imprecise_overtaken, fenced_precise, alone_precise}
use Rattle.i9_course.proofs.laws.overtaken_faults_are_imprecise.Goals as goal

pub returns : goal.returns
returns c = grind (arith, imprecise_only, imprecise_overtaken, fenced_precise, alone_precise)
