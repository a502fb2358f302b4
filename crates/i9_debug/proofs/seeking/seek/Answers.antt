use Rattle.std.proofs.Common.{◌∷◌, ◌++◌, None, sym, ◌∙◌}
use Rattle.i9_course.specs.Course.{Step}
use Rattle.i9_course.specs.PipelinedRun.{steps}
use Rattle.i9_back.proofs.Going.{under_way, no_end}
use Rattle.i9_debug.proofs.Lasts.{seek_begins, seek_there, on_seeks, issued_passes, issued_whole, issued_holds}
use Rattle.i9_debug.proofs.seeking.seek.Goals as goal
use Rattle.i9_debug.proofs.seeking.seek.Goals.{else-done-n-via-then-done-n+else-holds, else-done-n-via-else-done-n}

pub steps-init : goal.steps-init
steps-init g c = λ what s. seek_begins _ what _ _ _ _ _ c.requires.order s

pub proceed-requires : goal.proceed-requires
proceed-requires g c =
    let w = c.requires.stands in
    let now = c.steps.invariant w.given w.stands in
    record { stands = λ none. under_way w.given (now.newer ++ w.stands.records) _ _ _ _ now.going }

pub steps-preserved-in-On : goal.steps-preserved-in-On
steps-preserved-in-On g c = λ what s.
    let now = c.steps.invariant what s in
    let came = c.in-On.ensures.next what (steps (now.newer ++ s.records)) now.going.stands now.going.follows in
    on_seeks _ what s.records _ _ _ _ _ _ now came.mid _ _ _ _ c.steps-test.true came.comes

pub steps-preserved-then-holds : goal.steps-preserved-then-holds
steps-preserved-then-holds g c = λ what s.
    let now = c.steps.invariant what s in
    let came = c.in-Issued.ensures.next what (steps (now.newer ++ s.records)) now.going.stands now.going.follows in
    let shown = c.view.ensures.shown what (Step came.comes.done ∷ steps (now.newer ++ s.records)) None came.comes.stands in
    issued_holds _ what s.records _ _ _ _ _ _ now came.mid _ _ _ _ c.steps-test.true c.in-Issued.field-0 came.comes
    c.if-done-n.true (rw shown at c.if-holds.ensures)

pub steps-preserved : goal.steps-preserved
steps-preserved g c = λ what s.
    let now = c.steps.invariant what s in
    let came = c.in-Issued.ensures.next what (steps (now.newer ++ s.records)) now.going.stands now.going.follows in
    elim c.else-done-n.branch [
      | else-done-n-via-then-done-n+else-holds b ↦
          let shown = b.view.ensures.shown what (Step came.comes.done ∷ steps (now.newer ++ s.records)) None came.comes.stands in
          issued_passes _ what s.records _ _ _ _ _ _ now came.mid _ _ _ _ c.steps-test.true c.in-Issued.field-0 came.comes
          (λ lt. rw shown at b.if-holds.ensures)
      | else-done-n-via-else-done-n b ↦
          issued_whole _ what s.records _ _ _ _ _ _ now came.mid _ _ _ _ c.steps-test.true c.in-Issued.field-0 came.comes
          b.if-done-n.false
    ]

pub unreachable-requires : goal.unreachable-requires
unreachable-requires g c =
    let w = c.requires.stands in
    let now = c.steps.invariant w.given w.stands in
    let came = c.in-End.ensures.next w.given (steps (now.newer ++ w.stands.records)) now.going.stands now.going.follows in
    no_end w.given (now.newer ++ w.stands.records) _ _ _ _ now.going came.mid _ _ _ _ c.steps-test.true w.reaches c.in-End.field-0 came.comes

pub returns-in-Memory-clause-events : goal.returns-in-Memory-clause-events
returns-in-Memory-clause-events g c =
    let w = c.requires.stands in
    let now = c.steps.invariant w.given w.stands in
    let came = c.in-Memory.ensures.next w.given (steps (now.newer ++ w.stands.records)) now.going.stands now.going.follows in
    came.comes.follows.events ∙ sym w.stands.follows.events

pub returns : goal.returns
returns g c = record {
  found = λ what s. seek_there _ what c.args.from _ c.args.to c.args.n _ _ _ _ _ s c.steps-test.false (c.steps.invariant what s);
  events =
      let w = c.requires.stands in
      (c.steps.invariant w.given w.stands).going.follows.events ∙ sym w.stands.follows.events;
}
