use Rattle.std.proofs.Common.{List, [], ◌∷◌, length, Some, refl, sym, ap, ◌∙◌}
use Rattle.i9_model.specs.declared.view.View.{View}
use Rattle.i9_model.specs.Given.{given}
use Rattle.i9_model.specs.Run.{Record, state_after, reached_in}
use Rattle.i9_model.specs.Image.{pairs_of}
use Rattle.i9_course.specs.PipelinedRun.{steps}
use Rattle.i9_course.proofs.PipelinedRuns.{records_of-steps}
use Rattle.i9_tool.proofs.Running.{under_way}
use Rattle.i9_tool.proofs.run.count_run.Goals as goal

pub loop-end-init : goal.loop-end-init
loop-end-init c = ([], c.in_ok-machine.ensures.stands c.args.plan.now.events c.requires.plan, record { events = refl; place = c.requires.begins })

pub proceed-requires : goal.proceed-requires
proceed-requires c = record {
  stands = λ running.
      let inv = c.loop-end.invariant in
      let what = given (pairs_of c.args.image.now) c.args.plan.now.events c.args.limit c.args.sets in
      under_way what inv.0 c.loop-end.machine c.loop-end.plan inv.1 inv.2;
}

pub loop-end-preserved : goal.loop-end-preserved
loop-end-preserved c =
    let inv = c.loop-end.invariant in
    let what = given (pairs_of c.args.image.now) c.args.plan.now.events c.args.limit c.args.sets in
    let step = rw c.clear.ensures.items at (c.in-Issued.ensures.next what (steps inv.0) inv.1 inv.2).comes in
    (step.done ∷ inv.0, step.stands, step.follows)

pub loop-end-preserved-in-On : goal.loop-end-preserved-in-On
loop-end-preserved-in-On c =
    let inv = c.loop-end.invariant in
    let what = given (pairs_of c.args.image.now) c.args.plan.now.events c.args.limit c.args.sets in
    let step = (c.in-On.ensures.next what (steps inv.0) inv.1 inv.2).comes in
    (step.done ∷ inv.0, step.stands, step.follows)

pub returns-in-End : goal.returns-in-End
returns-in-End c =
    let inv = c.loop-end.invariant in
    let what = given (pairs_of c.args.image.now) c.args.plan.now.events c.args.limit c.args.sets in
    let step = rw c.clear.ensures.items at (c.in-End.ensures.next what (steps inv.0) inv.1 inv.2).comes in
    record {
      records = inv.0;
      finish = step.finish;
      run = record { past = inv.1.past; ends = step.is_end };
      end = sym step.answers;
      count =
          ap (λ (v : View). v.count) (c.view-count.ensures.shown what (steps inv.0) (Some step.finish) step.stands)
          ∙ ap (λ (rs : List Record). (state_after what rs).count) (records_of-steps inv.0);
      events =
          c.place-events.ensures.place ∙ step.follows.place
          ∙ ap (λ (rs : List Record). length (reached_in what rs step.finish)) (records_of-steps inv.0);
    }
