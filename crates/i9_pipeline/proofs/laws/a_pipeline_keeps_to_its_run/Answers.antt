use Rattle.i9_pipeline.proofs.InRun.{flow_moves, flow_fenced, flow_issued, flow_quiet}
use Rattle.i9_pipeline.proofs.laws.a_pipeline_keeps_to_its_run.Goals as goal

pub returns : goal.returns
returns c = record {
  moves = flow_moves;
  fenced = flow_fenced;
  issues = flow_issued;
  quiet = flow_quiet;
}
