use Rattle.i9_tune.proofs.Worded.{stand_by_words, printed_words}
use Rattle.i9_tune.proofs.laws.instructions_stand_by_their_words.Goals as goal

pub returns : goal.returns
returns c = record { stand = stand_by_words; printed = printed_words }
