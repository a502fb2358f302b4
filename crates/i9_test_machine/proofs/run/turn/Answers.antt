use Rattle.i9_machine.specs.Progress.{progress}
use Rattle.i9_machine.proofs.InRuns.{turns_in_run, behind_in_run}
use Rattle.i9_test_machine.proofs.run.turn.Goals as goal

pub returns : goal.returns
returns c =
    let now = c.args.run.now in
    let m = c.turn.new.self in
    let plan = c.turn.new.plan in
    behind_in_run now.machine m c.turn.result now.plan plan _ _
    (λ g h stands follows. turns_in_run g h c.turn.result _ (progress m plan c.turn.new.out.items) (c.turn.ensures.next g h stands follows))
    c.turn.ensures.again c.requires
