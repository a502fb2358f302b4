use Rattle.i9_elf.proofs.ImageAnswers.{some_answer, image_apart, one_image, one_fault}
use Rattle.i9_elf.proofs.image_laws.one_image.Goals as goal

pub returns : goal.returns
returns c = record {
  some = some_answer;
  apart = image_apart;
  one_image = one_image;
  one_fault = one_fault;
}
