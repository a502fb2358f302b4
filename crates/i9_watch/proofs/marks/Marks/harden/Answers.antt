use Rattle.std.proofs.Common.{◌≡◌, ℕ, ◌+◌, Bool, ap, ◌∙◌, arith}
use Rattle.std.specs.Prelude.{if◌then◌else◌}
use Rattle.i9_model.specs.declared.layout.TheConstants.{FRAME_SIZE}
use Rattle.i9_model.specs.Writes.{wrapped}
use Rattle.i9_watch.specs.declared.page.Mark.TheVariants.{Soft, Lost}
use Rattle.i9_watch.specs.declared.page.Change.TheVariants.{Store}
use Rattle.i9_watch.specs.Marks.{is_marked, changed_run}
use Rattle.i9_watch.proofs.Watching.{harden_none, harden_step, harden_whole, store_other}
use Rattle.i9_watch.proofs.marks.Marks.harden.Goals as goal

pub loop-k-init : goal.loop-k-init
loop-k-init c = record { soft = harden_none c.args.frame (is_marked Soft c.args.self.now) (is_marked Lost c.args.self.now); others = λ m h i. is_marked m c.args.self.now; keeps = λ p h. h; no_more = λ p h. h }

pub loop-k-preserved : goal.loop-k-preserved
loop-k-preserved c =
    let before = is_marked Soft c.loop-k.self in
    let x = wrapped (c.args.frame + c.loop-k.k) in
    let byte = c.harden_byte.ensures.soft ∙ ap (λ (f : ℕ → Bool). if f x then before else changed_run Store Soft x 1 before) (c.loop-k.invariant.others Lost (λ e. cc e)) in
    record {
      soft = harden_step c.args.frame c.loop-k.k (is_marked Soft c.args.self.now) (is_marked Lost c.args.self.now) _ _ c.loop-k.invariant.soft byte;
      others = λ m h. c.harden_byte.ensures.others m h ∙ c.loop-k.invariant.others m h;
      keeps = λ p h. c.harden_byte.ensures.keeps p (c.loop-k.invariant.keeps p h);
      no_more = λ p h. c.loop-k.invariant.no_more p (c.harden_byte.ensures.no_more p h);
    }

pub returns-clause-soft : goal.returns-clause-soft
returns-clause-soft c = let all : c.loop-k.k ≡ FRAME_SIZE = omega arith in rw all at c.loop-k.invariant.soft

pub returns-then-not-has_any-clause-soft : goal.returns-then-not-has_any-clause-soft
returns-then-not-has_any-clause-soft c =
    harden_whole c.args.frame FRAME_SIZE (is_marked Soft c.args.self.now) (is_marked Lost c.args.self.now) _ (c.has_any.ensures c.if-not-has_any.true) (c.store.ensures.marks Soft)

pub returns-then-not-has_any-clause-others : goal.returns-then-not-has_any-clause-others
returns-then-not-has_any-clause-others c = λ m h. store_other m h c.args.frame FRAME_SIZE _ _ (c.store.ensures.marks m)
