use Rattle.i9_machine.specs.Progress.{progress}
use Rattle.i9_machine.proofs.InRuns.{advances_in_run, behind_in_run}
use Rattle.i9_test_machine.proofs.run.advance.Goals as goal

pub returns : goal.returns
returns c =
    let now = c.args.run.now in
    let m = c.advance.new.self in
    let plan = c.advance.new.plan in
    behind_in_run now.machine m c.advance.result now.plan plan _ _
    (λ g h stands follows. advances_in_run g h c.advance.result _ (progress m plan c.advance.new.out.items) (c.advance.ensures.next g h stands follows))
    c.advance.ensures.again c.requires
