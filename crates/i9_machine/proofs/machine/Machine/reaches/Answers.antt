use Rattle.std.proofs.Common.{Option, Result, ℕ, sym, ap, ◌∙◌, subst}
use Rattle.i9_model.specs.declared.event.Event.{Event}
use Rattle.i9_model.specs.Before.{Received, receiving}
use Rattle.i9_model.specs.Run.{Reached, Ends, next_by_event, next_by_received}
use Rattle.i9_processor.specs.Effect.{IsEffect}
use Rattle.i9_machine.specs.Contents.{situation}
use Rattle.i9_machine.specs.Step.{event_for}
use Rattle.i9_machine.proofs.Opening.{no_request_in}
use Rattle.i9_machine.proofs.Stepping.{goes_by_event, one_event, next_stands, tells_on}
use Rattle.i9_machine.proofs.machine.Machine.reaches.Goals as goal
use Rattle.i9_model.specs.declared.run.End.TheVariants.{Hazard}

pub returns-in-Ok-clause-next : goal.returns-in-Ok-clause-next
returns-in-Ok-clause-next c =
    let at = situation c.args.self.now in
    let s = at.state in
    let event = c.args.event.now in
    let plan = c.in-Ok.ensures in
    let step = c.reached.ensures in
    let need = c.need_reached.ensures.reached at.size at.cache s plan.0 in
    record {
      need = c.need_reached.result;
      fenced = c.keep.ensures.need;
      is = record {
        kind = Reached event plan.0;
        is_next =
            goes_by_event at (event_for at c.args.plan.now)
            (record { due = c.requires.free; below = c.requires.below; chosen = c.requires.chosen })
            ∙ ap (λ (o : Option Event). next_by_event o s) c.requires.stands
            ∙ ap (λ (p : Result Received ℕ). next_by_received s event p) plan.1;
        effect = subst (IsEffect s (receiving plan.0 s)) (sym c.keep.ensures.effect) plan.2;
        point = step.point;
        counts = step.counts;
        due = step.due;
        reaches = step.reaches;
        event = one_event at c.args.plan.now c.reached.result event step.reaches c.requires.stands;
        tells = tells_on (Reached event plan.0) s c.reached.result.answer step.answer tt;
        is_need = need;
        cost = c.need_reached.ensures.cost;
        row = no_request_in (Reached event plan.0) at c.need_reached.result need tt;
      };
    }

pub returns-in-Err-clause-next : goal.returns-in-Err-clause-next
returns-in-Err-clause-next c =
    let at = situation c.args.self.now in
    let s = at.state in
    let event = c.args.event.now in
    goes_by_event at (event_for at c.args.plan.now)
    (record { due = c.requires.free; below = c.requires.below; chosen = c.requires.chosen })
    ∙ ap (λ (o : Option Event). next_by_event o s) c.requires.stands
    ∙ ap (λ (p : Result Received ℕ). next_by_received s event p) c.in-Err.ensures
    ∙ ap (λ (o : Option Event). Ends (record { event = o; end = Hazard c.in-Err.a }))
    (sym (next_stands at c.args.plan.now event c.requires.stands))
