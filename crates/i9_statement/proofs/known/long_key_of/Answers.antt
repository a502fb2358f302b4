use Rattle.std.proofs.Common.{ℕ, ◌≤◌, List, length, take, drop, arith}
use Rattle.std.proofs.Math.Nat.{min-le_left}
use Rattle.std.proofs.lemmas.List.{length-take, length-drop}
use Rattle.i9_statement.specs.Known.{key_of}
use Rattle.i9_statement.proofs.NameKeys.{short_name}
use Rattle.i9_statement.proofs.known.long_key_of.Goals as goal

short_front : (s : List ℕ) → length (take 16 s) ≤ 16
short_front s = rw (length-take 16 s) (min-le_left 16 (length s))

pub word_of-first-requires : goal.word_of-first-requires
word_of-first-requires c = rw c.cut_word.ensures.front (short_front c.args.name.now)

pub word_of-last-requires : goal.word_of-last-requires
word_of-last-requires c =
    let s = c.args.name.now in
    let short = short_name s c.requires in
    let left : length (drop 16 (drop 16 (drop 16 s))) ≤ 16 =
    rw (length-drop 16 (drop 16 (drop 16 s)), length-drop 16 (drop 16 s), length-drop 16 s) (omega (arith, short)) in
    rw (c.cut_word-3.ensures.back, c.cut_word-2.ensures.back, c.cut_word.ensures.back) left

pub returns : goal.returns
unfolding key_of
returns c = grind arith
