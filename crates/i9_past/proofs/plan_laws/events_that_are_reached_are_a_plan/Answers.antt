use Rattle.i9_past.proofs.PlannedRuns.{past_of_reached, past_with_end, end_of_reached}
use Rattle.i9_past.proofs.plan_laws.events_that_are_reached_are_a_plan.Goals as goal

pub returns : goal.returns
returns c = record {
  past = past_of_reached;
  end = end_of_reached;
  before = past_with_end;
}
