use Rattle.i9_statement.proofs.SomeWords.{some_words}
use Rattle.i9_statement.proofs.StatementWords.{stands_once}
use Rattle.i9_statement.proofs.laws.words_are_one.Goals as goal

pub returns : goal.returns
returns c = record { some = some_words; one = stands_once }
