use Rattle.std.proofs.Common.{ℕ, ◌+◌, ◌*◌, Bool, sym, ap, ◌∙◌, arith}
use Rattle.i9_model.specs.Writes.{wrapped}
use Rattle.i9_model.specs.Needs.{set_below}
use Rattle.i9_model.specs.Stale.{word_mark}
use Rattle.i9_model.specs.Calls.{return_marks}
use Rattle.i9_watch.specs.declared.page.Mark.TheVariants.{Soft, Lost}
use Rattle.i9_watch.specs.Marks.{is_marked}
use Rattle.i9_watch.specs.Watch.{frames_of}
use Rattle.i9_watch.proofs.SetBits.{set-from_bits}
use Rattle.i9_watch.proofs.Watching.{none_live, some_live}
use Rattle.i9_watch.proofs.watch.Watch.return_marks.Goals as goal

-- the marks of the words of a frame, by those of its bytes
abbrev words : ℕ → (ℕ → Bool) → ℕ
words a marked = set_below 16 (λ k. word_mark marked (wrapped (a + 4 * k)))

pub returns-in-None : goal.returns-in-None
unfolding frames_of return_marks
returns-in-None c =
    let f = frames_of c.args.self.now in
    set-from_bits 16 c.word_marks.result (λ k. word_mark (is_marked Soft c.args.self.now.marks) (wrapped (c.args.a + 4 * k))) (omega arith) c.word_marks.ensures
    ∙ ap (words c.args.a) (sym (none_live f.live f (sym c.first_live.ensures ∙ c.in-None.is)))

pub returns-in-Some : goal.returns-in-Some
unfolding frames_of return_marks
returns-in-Some c =
    let f = frames_of c.args.self.now in
    set-from_bits 16 c.lost_marks.result (λ k. word_mark (is_marked Lost c.args.self.now.marks) (wrapped (c.args.a + 4 * k))) (omega arith) c.lost_marks.ensures
    ∙ ap (words c.args.a) (sym (some_live f.live _ f (sym c.first_live.ensures ∙ c.in-Some.is)))
