use Rattle.i9_schedule.proofs.OneAnswer.{some_answer, answers_apart, one_schedule, one_fault}
use Rattle.i9_schedule.proofs.laws.one_answer.Goals as goal

pub returns : goal.returns
returns c = record {
  some = some_answer;
  apart = answers_apart;
  one_schedule = one_schedule;
  one_fault = one_fault;
}
