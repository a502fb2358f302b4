use Rattle.i9_isa.proofs.Decoding.{second_free, refusal_free}
use Rattle.i9_isa.proofs.laws.second_word_is_free.Goals as goal

pub returns-clause-one : goal.returns-clause-one
returns-clause-one c = second_free

pub returns-clause-refused : goal.returns-clause-refused
returns-clause-refused c = refusal_free
