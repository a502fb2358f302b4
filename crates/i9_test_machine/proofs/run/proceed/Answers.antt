use Rattle.i9_machine.specs.Progress.{progress}
use Rattle.i9_machine.proofs.InRuns.{comes_in_run, behind_in_run}
use Rattle.i9_test_machine.proofs.run.proceed.Goals as goal

pub returns : goal.returns
returns c =
    let now = c.args.run.now in
    let m = c.proceed.new.self in
    let plan = c.proceed.new.plan in
    behind_in_run now.machine m c.proceed.result now.plan plan _ _
    (λ g h stands follows. let p = c.proceed.ensures.next g h stands follows in comes_in_run g h c.proceed.result _ (progress m plan c.proceed.new.out.items) p.comes)
    c.proceed.ensures.again c.requires
