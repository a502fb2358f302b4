use Rattle.std.proofs.Common.{sym, ◌∙◌}
use Rattle.i9_watch.specs.declared.page.Mark.TheVariants.{Soft, Lost}
use Rattle.i9_watch.specs.Marks.{is_marked}
use Rattle.i9_watch.proofs.Watching.{store_other, where_false}
use Rattle.i9_watch.proofs.marks.Marks.harden_byte.Goals as goal

pub returns-then-not-is_marked-clause-soft : goal.returns-then-not-is_marked-clause-soft
returns-then-not-is_marked-clause-soft c = c.store.ensures.marks Soft ∙ where_false (is_marked Lost c.args.self.now c.args.a) _ _ (sym c.is_marked.ensures ∙ c.if-not-is_marked.true)

pub returns-then-not-is_marked-clause-others : goal.returns-then-not-is_marked-clause-others
returns-then-not-is_marked-clause-others c = λ m h. store_other m h c.args.a 1 (is_marked m c.args.self.now) (is_marked m c.store.new.self) (c.store.ensures.marks m)
