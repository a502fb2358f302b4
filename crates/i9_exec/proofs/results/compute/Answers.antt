use Rattle.std.proofs.Common.{sym, subst}
use Rattle.i9_exec.specs.Shown.{answer_of}
use Rattle.i9_exec.proofs.Table.{kept, Keeps, Keeps-results}
use Rattle.i9_exec.proofs.results.compute.Goals as goal

pub returns-clause-unchanged : goal.returns-clause-unchanged
returns-clause-unchanged c = kept c.args.ac (answer_of c.result_of.result) (subst (Keeps c.args.ac) (sym c.result_of.ensures) (Keeps-results c.args.i.now.op c.args.a.now c.args.b.now c.args.c c.args.ac))
