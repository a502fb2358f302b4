use Rattle.std.proofs.Common.{sym, ap, ◌∙◌, subst}
use Rattle.i9_model.specs.Run.{Interrupted, next_by_choice, next_by_interrupt}
use Rattle.i9_model.specs.Before.{interrupting}
use Rattle.i9_processor.specs.Effect.{IsEffect}
use Rattle.i9_machine.specs.Contents.{situation}
use Rattle.i9_machine.specs.Step.{event_for}
use Rattle.i9_machine.proofs.Opening.{no_request_in}
use Rattle.i9_machine.proofs.Stepping.{goes_on, no_event, tells_on}
use Rattle.i9_machine.proofs.machine.Machine.interrupt.Goals as goal

pub returns-in-Ok-clause-next : goal.returns-in-Ok-clause-next
returns-in-Ok-clause-next c =
    let at = situation c.args.self.now in
    let s = at.state in
    let choice = c.args.choice.now in
    let plan = c.in-Ok.ensures in
    let step = c.entered.ensures in
    let need = c.need_entered-need.ensures in
    record {
      need = c.need_entered-need.result;
      fenced = c.keep.ensures.need;
      is = record {
        kind = Interrupted choice plan.0;
        is_next =
            goes_on at (event_for at c.args.plan.now) c.requires.free c.requires.below
            ∙ ap (next_by_choice (event_for at c.args.plan.now) s) c.requires.chosen
            ∙ ap (next_by_interrupt s choice) plan.1;
        effect = subst (IsEffect s (interrupting choice plan.0 s)) (sym c.keep.ensures.effect) plan.2;
        point = step.point;
        counts = step.counts;
        due = step.due;
        reaches = step.reaches;
        event = no_event c.args.plan.now c.entered.result step.reaches;
        tells = tells_on (Interrupted choice plan.0) s c.entered.result.answer step.answer tt;
        is_need = need.interrupt choice plan.0 plan.2;
        cost = need.cost;
        row = no_request_in (Interrupted choice plan.0) at c.need_entered-need.result
            (need.interrupt choice plan.0 plan.2) tt;
      };
    }

pub returns-in-Err-clause-next : goal.returns-in-Err-clause-next
returns-in-Err-clause-next c =
    let at = situation c.args.self.now in
    let s = at.state in
    goes_on at (event_for at c.args.plan.now) c.requires.free c.requires.below
    ∙ ap (next_by_choice (event_for at c.args.plan.now) s) c.requires.chosen
    ∙ ap (next_by_interrupt s c.args.choice.now) c.in-Err.ensures
