use Rattle.std.proofs.Common.{arith}
use Rattle.i9_text.proofs.WordCuts.{words_of-from, words_of-none}
use Rattle.i9_text.proofs.words.skip_blanks.Goals as goal

pub split_at-requires : goal.split_at-requires
split_at-requires c = grind arith

pub returns-in-Some : goal.returns-in-Some
returns-in-Some c =
    let f = words_of-from c.args.line.now c.in-Some.start 0 c.in-Some.ensures in
    record {
      words = rw c.split_at.ensures.back f.0;
      first = λ _. rw c.split_at.ensures.back f.1;
      none = λ z. absurd (omega (arith, c.split_at.ensures.back_len, f));
    }

pub returns-in-None : goal.returns-in-None
returns-in-None c = grind (arith, words_of-none)
