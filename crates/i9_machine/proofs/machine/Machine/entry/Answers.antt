use Rattle.std.proofs.Common.{sym, ap, ◌∙◌, subst}
use Rattle.i9_model.specs.declared.run.Due.{Due}
use Rattle.i9_model.specs.Run.{Entered, next_in, next_by_entry}
use Rattle.i9_model.specs.Step.{entering}
use Rattle.i9_processor.specs.Effect.{IsEffect}
use Rattle.i9_machine.specs.Contents.{situation}
use Rattle.i9_machine.specs.Step.{event_for}
use Rattle.i9_machine.proofs.Opening.{no_request_in}
use Rattle.i9_machine.proofs.Stepping.{no_event, tells_on}
use Rattle.i9_machine.proofs.machine.Machine.entry.Goals as goal

pub returns-in-Ok-clause-next : goal.returns-in-Ok-clause-next
returns-in-Ok-clause-next c =
    let at = situation c.args.self.now in
    let s = at.state in
    let plan = c.in-Ok.ensures in
    let step = c.entered.ensures in
    let need = c.need_entered-need.ensures in
    record {
      need = c.need_entered-need.result;
      fenced = c.keep.ensures.need;
      is = record {
        kind = Entered plan.0;
        is_next = ap (λ (d : Due). next_in at.length d (event_for at c.args.plan.now) s) c.requires.due ∙ ap
            (next_by_entry s) plan.1;
        effect = subst (IsEffect s (entering plan.0 s)) (sym c.keep.ensures.effect) plan.2;
        point = step.point;
        counts = step.counts;
        due = step.due;
        reaches = step.reaches;
        event = no_event c.args.plan.now c.entered.result step.reaches;
        tells = tells_on (Entered plan.0) s c.entered.result.answer step.answer tt;
        is_need = need.fault plan.0 plan.2;
        cost = need.cost;
        row = no_request_in (Entered plan.0) at c.need_entered-need.result (need.fault plan.0 plan.2) tt;
      };
    }
