use Rattle.i9_past.proofs.PlannedRuns.{reached_front, reached_to_end, run_of_reached}
use Rattle.i9_past.proofs.plan_laws.runs_reach_the_front_of_their_plan.Goals as goal

pub returns : goal.returns
returns c = record {
  front = reached_front;
  again = run_of_reached;
  whole = reached_to_end;
}
