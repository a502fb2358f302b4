use Rattle.i9_model.specs.Given.{given}
use Rattle.i9_model.specs.Image.{pairs_of}
use Rattle.i9_tool.specs.declared.run.Ran.TheVariants as ran
use Rattle.i9_tool.proofs.Running.{headed, headed_cut}
use Rattle.i9_tool.proofs.run.run_headed.Goals as goal

pub returns-in-Done : goal.returns-in-Done
returns-in-Done g c = headed _ _ _ _ _ _ _ _ _ c.version.ensures.value c.in-Done.ensures.prints c.run.ensures

pub returns-in-Write : goal.returns-in-Write
returns-in-Write g c =
    let what = given (pairs_of c.args.image.now) c.args.plan.now.events c.args.limit c.args.sets in
    headed_cut _ what ran.Write _ _ _ _ _ tt c.version.ensures.value c.in-Write.ensures.prints

pub returns-in-Memory : goal.returns-in-Memory
returns-in-Memory g c =
    let what = given (pairs_of c.args.image.now) c.args.plan.now.events c.args.limit c.args.sets in
    headed_cut _ what ran.Memory _ _ _ _ _ tt c.version.ensures.value c.in-Memory.ensures.prints
