use Rattle.std.proofs.Common.{◌∷◌, sym, ◌∙◌}
use Rattle.i9_course.specs.PipelinedRun.{steps}
use Rattle.i9_machine.specs.declared.line.Turn.TheVariants as answers
use Rattle.i9_back.proofs.Going.{going_begins, under_way, on_goes, issued_goes, no_end, same_events}
use Rattle.i9_back.proofs.rerun.forward.Goals as goal

pub steps-init : goal.steps-init
steps-init c = λ what stands. (stands.records, going_begins what c.args.from c.args.to c.args.m.now c.args.plan.now c.requires.order stands)

pub proceed-requires : goal.proceed-requires
proceed-requires c =
    let w = c.requires.stands in
    let s = c.steps.invariant w.given w.stands in
    record { stands = λ none. under_way w.given s.0 _ _ _ _ s.1 }

pub steps-preserved-in-On : goal.steps-preserved-in-On
steps-preserved-in-On c = λ what stands.
    let s = c.steps.invariant what stands in
    let came = c.in-On.ensures.next what (steps s.0) s.1.stands s.1.follows in
    (came.comes.done ∷ s.0, on_goes what s.0 _ _ _ _ s.1 came.mid _ _ _ _ c.steps-test.true came.comes)

pub steps-preserved : goal.steps-preserved
steps-preserved c = λ what stands.
    let s = c.steps.invariant what stands in
    let came = c.in-Issued.ensures.next what (steps s.0) s.1.stands s.1.follows in
    (came.comes.done ∷ s.0, issued_goes what s.0 _ _ _ _ s.1 came.mid _ _ _ _ c.steps-test.true c.in-Issued.field-0 came.comes)

pub unreachable-requires : goal.unreachable-requires
unreachable-requires c =
    let w = c.requires.stands in
    let now = c.steps.invariant w.given w.stands in
    let came = c.in-End.ensures.next w.given (steps now.0) now.1.stands now.1.follows in
    no_end w.given now.0 _ _ _ _ now.1 came.mid _ _ _ _ c.steps-test.true w.reaches c.in-End.field-0 came.comes

pub returns-in-Memory-clause-events : goal.returns-in-Memory-clause-events
returns-in-Memory-clause-events c =
    let w = c.requires.stands in
    let now = c.steps.invariant w.given w.stands in
    let came = c.in-Memory.ensures.next w.given (steps now.0) now.1.stands now.1.follows in
    same_events w.given now.0 _ _ _ _ now.1 came.mid _ _ _ _ answers.Memory came.comes ∙ now.1.follows.events ∙ sym w.stands.follows.events

pub returns-clause-events : goal.returns-clause-events
returns-clause-events c =
    let w = c.requires.stands in
    (c.steps.invariant w.given w.stands).1.follows.events ∙ sym w.stands.follows.events
