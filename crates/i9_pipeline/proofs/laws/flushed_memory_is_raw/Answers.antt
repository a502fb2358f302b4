use Rattle.i9_pipeline.proofs.Landed.{flushed_raw}
use Rattle.i9_pipeline.proofs.laws.flushed_memory_is_raw.Goals as goal

pub returns : goal.returns
returns c = flushed_raw
