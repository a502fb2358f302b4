use Rattle.std.proofs.Common.{◌++◌, sym, ◌∙◌, None}
use Rattle.i9_course.specs.PipelinedRun.{steps}
use Rattle.i9_machine.specs.declared.line.Turn.TheVariants as answers
use Rattle.i9_back.proofs.Going.{under_way, no_end, same_events}
use Rattle.i9_back.proofs.Watching.{watching_begins, watching_there, on_watched, issued_watched, shown_steps}
use Rattle.i9_back.proofs.rerun.watch.Goals as goal

pub steps-init : goal.steps-init
steps-init c = λ what s.
    watching_begins what c.args.a c.args.from c.args.to c.args.m.now c.args.plan.now _ c.requires.order s
    (shown_steps what c.args.m.now _ _ (λ rs stands. c.byte-before.ensures what (steps rs) None stands))

pub proceed-requires : goal.proceed-requires
proceed-requires c =
    let w = c.requires.stands in
    let now = c.steps.invariant w.given w.stands in
    record { stands = λ none. under_way w.given (now.newer ++ w.stands.records) _ _ _ _ now.going }

pub steps-preserved-in-On : goal.steps-preserved-in-On
steps-preserved-in-On c = λ what s.
    let at = c.steps.invariant what s in
    let came = c.in-On.ensures.next what (steps (at.newer ++ s.records)) at.going.stands at.going.follows in
    on_watched what c.args.a s.records _ _ _ _ _ _ at came.mid _ _ _ _ c.steps-test.true _
    (shown_steps what c.proceed.new.self _ _ (λ rs stands. c.byte-before-in-On.ensures what (steps rs) None stands)) came.comes

pub steps-preserved : goal.steps-preserved
steps-preserved c = λ what s.
    let at = c.steps.invariant what s in
    let came = c.in-Issued.ensures.next what (steps (at.newer ++ s.records)) at.going.stands at.going.follows in
    issued_watched what c.args.a s.records _ _ _ _ _ _ at came.mid _ _ _ _ c.steps-test.true _
    (shown_steps what c.proceed.new.self _ _ (λ rs stands. c.byte-after.ensures what (steps rs) None stands)) c.in-Issued.issued came.comes
    c.newer_change-found.result c.newer_change-found.ensures

pub unreachable-requires : goal.unreachable-requires
unreachable-requires c =
    let w = c.requires.stands in
    let now = c.steps.invariant w.given w.stands in
    let came = c.in-End.ensures.next w.given (steps (now.newer ++ w.stands.records)) now.going.stands now.going.follows in
    no_end w.given (now.newer ++ w.stands.records) _ _ _ _ now.going came.mid _ _ _ _ c.steps-test.true w.reaches c.in-End.field-0 came.comes

pub returns-in-Memory-clause-events : goal.returns-in-Memory-clause-events
returns-in-Memory-clause-events c =
    let w = c.requires.stands in
    let now = c.steps.invariant w.given w.stands in
    let came = c.in-Memory.ensures.next w.given (steps (now.newer ++ w.stands.records)) now.going.stands now.going.follows in
    same_events w.given (now.newer ++ w.stands.records) _ _ _ _ now.going came.mid _ _ _ _ answers.Memory came.comes ∙ now.going.follows.events ∙ sym w.stands.follows.events

pub returns-clause-found : goal.returns-clause-found
returns-clause-found c = λ what s. watching_there what c.args.a s.records _ _ _ _ _ _ c.steps-test.false (c.steps.invariant what s)

pub returns-clause-events : goal.returns-clause-events
returns-clause-events c =
    let w = c.requires.stands in
    (c.steps.invariant w.given w.stands).going.follows.events ∙ sym w.stands.follows.events
