use Rattle.std.proofs.Common.{◌/◌, ◌∙◌, rules}
use Rattle.i9_watch.specs.Marks.{is_marked, HasPage}
use Rattle.i9_watch.proofs.Marking.{without_page}
use Rattle.i9_watch.proofs.marks.Marks.reserve.Goals as goal

pub returns-clause-same : goal.returns-clause-same
returns-clause-same c = λ m. c.reserve_page-3.ensures.same m ∙ c.reserve_page-2.ensures.same m

pub returns-else-not-is_there-clause-same : goal.returns-else-not-is_there-clause-same
returns-else-not-is_there-clause-same c = λ m. c.reserve_page-3.ensures.same m ∙ c.reserve_page-2.ensures.same m

pub returns-then-not-is_there-clause-same : goal.returns-then-not-is_there-clause-same
returns-then-not-is_there-clause-same c = λ m.
    let lacks : HasPage c.args.self.now (c.args.a / 256) → ⊥ = search rules in
    without_page m c.args.self.now (is_marked m c.remove_page.new.self) (is_marked m c.reserve_page-3.new.self) (c.args.a / 256) lacks
    (c.reserve_page-3.ensures.same m ∙ c.reserve_page-2.ensures.same m) (c.remove_page.ensures.marks m)
