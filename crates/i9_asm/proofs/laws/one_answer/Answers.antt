use Rattle.i9_asm.proofs.Once.{assembly_once, refusal_once, never_both_answers}
use Rattle.i9_asm.proofs.SomeAnswer.{some_answer}
use Rattle.i9_asm.proofs.laws.one_answer.Goals as goal

pub returns : goal.returns
returns c = record { some = some_answer; segments = assembly_once; fault = refusal_once; both = never_both_answers }
