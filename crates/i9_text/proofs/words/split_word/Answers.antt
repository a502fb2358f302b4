use Rattle.std.proofs.Common.{arith}
use Rattle.std.proofs.lemmas.Grind.{common_steps}
use Rattle.i9_text.proofs.WordCuts.{words_of-cut, words_of-whole}
use Rattle.i9_text.proofs.words.split_word.Goals as goal

pub split_at-requires : goal.split_at-requires
split_at-requires c = grind arith

pub returns-in-Some : goal.returns-in-Some
returns-in-Some c = grind (arith, common_steps, words_of-cut)

pub returns-in-None : goal.returns-in-None
returns-in-None c = grind (arith, common_steps, words_of-whole)
