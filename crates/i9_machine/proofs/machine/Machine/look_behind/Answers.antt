use Rattle.std.proofs.Common.{◌≡◌, ◌<◌, ◌≤◌, refl, arith}
use Rattle.i9_course.specs.Course.{ahead}
use Rattle.i9_machine.specs.Contents.{situation, contents_of}
use Rattle.i9_machine.proofs.Arriving.{ends_arrive}
use Rattle.i9_machine.proofs.Ending.{late_not_nothing}
use Rattle.i9_machine.proofs.Opening.{due_waits}
use Rattle.i9_machine.proofs.Overtaking.{waits_precise, later_precise, sooner_imprecise}
use Rattle.i9_machine.proofs.machine.Machine.look_behind.Goals as goal

pub returns-in-Some-clause-arrives : goal.returns-in-Some-clause-arrives
returns-in-Some-clause-arrives c = λ plan g h stands follows.
    let m = c.args.self.now in
    let t = c.in-Some.issue in
    let same : c.issue_ahead.new.self.pipeline.done ≡ m.pipeline.done = λ i.
    (c.issue_ahead.ensures.like i).pipeline.done in
    let sooner : t < c.issue_ahead.new.self.pipeline.done = c.if-issue-self.true in
    let late = sooner_imprecise g h (contents_of m) c.args.address t stands c.in-Some.ensures.turn c.requires.late
    (omega (arith, sooner, same)) in
    let is : (ahead g h).turn ≡ t = late.1 in
    let in_time : m.pipeline.turn ≤ (ahead g h).turn = stands.in_time in
    record { turn = omega (arith, is, in_time); imprecise = late.0 }

pub returns-in_default-clause-arrives : goal.returns-in_default-clause-arrives
returns-in_default-clause-arrives c = λ plan g h stands follows.
    let m = c.args.self.now in
    let same : c.issue_ahead.new.self.pipeline.done ≡ m.pipeline.done = λ i.
    (c.issue_ahead.ensures.like i).pipeline.done in
    let later : c.issue_ahead.new.self.pipeline.done ≤ c.in-Some.issue = c.if-issue-self.false in
    ends_arrive (contents_of m) plan c.args.until _ c.requires.until c.requires.open
    (due_waits (situation m) plan (late_not_nothing (situation m) c.args.address c.requires.late)) g h stands follows
    (later_precise g h (contents_of m) c.in-Some.issue stands c.in-Some.ensures.turn (omega (arith, same, later)))

pub returns-in_default-2-clause-arrives : goal.returns-in_default-2-clause-arrives
returns-in_default-2-clause-arrives c = λ plan g h stands follows.
    let m = c.args.self.now in
    ends_arrive (contents_of m) plan c.args.until _ c.requires.until c.requires.open
    (due_waits (situation m) plan (late_not_nothing (situation m) c.args.address c.requires.late)) g h stands follows
    (waits_precise g h (contents_of m) stands (c.in_default.ensures.waits refl))
