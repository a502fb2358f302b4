use Rattle.i9_laws.proofs.RunsAgain.{reaches_front, reaches_whole, text_is_schedule, cut_is_schedule, text_with, run_again}
use Rattle.i9_laws.proofs.Passed.{none_passed}
use Rattle.i9_laws.proofs.replay.printed_text_replays_its_run.Goals as goal

pub returns : goal.returns
returns c = record {
  reached = reaches_front;
  passed = none_passed;
  text = text_is_schedule;
  whole = reaches_whole;
  cut = cut_is_schedule;
  shown = text_with;
  again = run_again;
}
