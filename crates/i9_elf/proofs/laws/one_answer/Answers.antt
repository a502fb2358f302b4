use Rattle.i9_elf.proofs.Answers.{some_answer, image_apart, one_image, one_fault}
use Rattle.i9_elf.proofs.laws.one_answer.Goals as goal

pub returns : goal.returns
returns c = record {
  some = some_answer;
  apart = image_apart;
  one_image = one_image;
  one_fault = one_fault;
}
