use Rattle.std.proofs.Common.{◌≡◌, ◌+◌, ◌*◌, ap, arith, rules}
use Rattle.i9_model.specs.Writes.{wrapped}
use Rattle.i9_model.specs.Stale.{word_mark}
use Rattle.i9_watch.specs.Marks.{is_marked}
use Rattle.i9_watch.proofs.SetBits.{none_below}
use Rattle.i9_watch.proofs.Watching.{words_clear}
use Rattle.i9_watch.proofs.watch.Watch.word_marks.Goals as goal

pub returns-then-not-has_any : goal.returns-then-not-has_any
returns-then-not-has_any c = λ k.
    let marked = is_marked c.args.mark c.args.self.now.marks in
    none_below k 16 (λ j. word_mark marked (wrapped (c.args.a + 4 * j))) (λ j lt. words_clear marked c.args.a j (c.has_any.ensures c.if-not-has_any.true) lt)

pub returns : goal.returns
returns c =
    let marked = is_marked c.args.mark c.args.self.now.marks in
    c.bits_where.ensures (λ j. word_mark marked (wrapped (c.args.a + 4 * j))) (λ x r h.
    let at : wrapped (c.args.a + wrapped (x * 4)) ≡ wrapped (c.args.a + 4 * x) = omega arith in
    let same = ap (word_mark marked) at in
    search (rules, same))
