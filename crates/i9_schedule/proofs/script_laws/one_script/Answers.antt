use Rattle.i9_text.specs.Text.{lines_of}
use Rattle.i9_schedule.proofs.OneScript.{some_answer, never_both_answers, one_script, one_fault}
use Rattle.i9_schedule.proofs.script_laws.one_script.Goals as goal

pub returns : goal.returns
returns c = record {
  some = λ text. some_answer (lines_of text);
  apart = λ text. never_both_answers (lines_of text);
  one_script = λ text. one_script (lines_of text);
  one_fault = λ text. one_fault (lines_of text);
}
