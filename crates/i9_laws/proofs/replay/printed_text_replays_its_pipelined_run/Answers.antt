use Rattle.i9_course.proofs.PipelinedSame.{in_counted}
use Rattle.i9_laws.proofs.PipelinedReplay.{late_text, late_cut, late_again}
use Rattle.i9_laws.proofs.replay.printed_text_replays_its_pipelined_run.Goals as goal

pub returns : goal.returns
returns c = record {
  counted = in_counted;
  text = late_text;
  cut = late_cut;
  again = late_again;
}
