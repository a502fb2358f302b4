-- Pages that are new in a machine's processor: none, or one of what comes next.
use Rattle.std.proofs.Common.{rules, ◌≡◌, List, [], ◌∷◌, None, refl, sym, subst}
use Rattle.i9_model.specs.Run.{Record, Next, Does, Ends, action_done, Given}
use Rattle.i9_model.specs.Step.{Action}
use Rattle.i9_model.specs.Alike.{AreNextAlike}
use Rattle.i9_agree.proofs.AlikeSteps.{done_alike}
use Rattle.i9_schedule.specs.Plan.{Plan}
use Rattle.i9_course.specs.Course.{Item, comes_next}
use Rattle.i9_processor.specs.Pages.{AddsActionOnly, AddsNoPage}
use Rattle.i9_processor.specs.declared.processor.Processor.{Processor}
use Rattle.i9_machine.specs.Contents.{situation_in, Contents}
use Rattle.i9_machine.specs.NewPages.{AddsNextOnly, AddsRecordsOnly, with_next}
use Rattle.i9_machine.specs.StandsFor.{Stand, Follows}
use Rattle.i9_machine.specs.Step.{next_for}
use Rattle.i9_machine.proofs.Overtaking.{beside}

same_pages : (p q : Processor) → p ≡ q → AddsNoPage p q
same_pages p q same = subst (AddsNoPage p) same (record { bytes = λ x has. has; marks = λ x has. has })

pub none_then : (old mid new : Processor) (a : Action) → AddsActionOnly old mid a → AddsNoPage mid new
    → AddsActionOnly old new a
none_then old mid new a only none = record {
  bytes = λ x writes move has. only.bytes x writes move (none.bytes x has);
  marks = λ x marked move has. only.marks x marked move (none.marks x has);
}

-- what comes next adds a page of it at most
pub none_next : (old new : Processor) (n : Next) → AddsNoPage old new → AddsNextOnly old new n
none_next old new (Does r) none = search rules
none_next old new (Ends f) none = none

pub next_behind : (old mid new : Processor) (n : Next) → AddsNoPage old mid → AddsNextOnly mid new n
    → AddsNextOnly old new n
next_behind old mid new (Does r) none only = record {
  bytes = λ x writes move has. none.bytes x (only.bytes x writes move has);
  marks = λ x marked move has. none.marks x (only.marks x marked move has);
}
next_behind old mid new (Ends f) none only = search rules

pub same_next : (old new : Processor) (n : Next) → new ≡ old → AddsNextOnly old new n
same_next old new n same = none_next old new n (same_pages old new (sym same))

-- what comes next in the run stores and saves as what comes next for contents
pub run_only : (g : Given) (h : List Item) (k : Contents) (plan : Plan) (old new : Processor) → Stand g h None k
    → Follows g h plan → AddsNextOnly old new (next_for (situation_in k) plan) → AddsNextOnly old new (comes_next g h)
run_only g h k plan old new stands follows only =
    by_next (comes_next g h) (next_for (situation_in k) plan) (beside g h k plan stands follows) only
  where
    by_next : (o p : Next) → AreNextAlike o p → AddsNextOnly old new p → AddsNextOnly old new o
    by_next (Does r) (Does q) alike only = subst (AddsActionOnly old new) (done_alike r q alike) only
    by_next (Does r) (Ends e) alike only = absurd alike
    by_next (Ends f) (Does q) alike only = absurd alike
    by_next (Ends f) (Ends e) alike only = only

-- ---- records

pub no_records : (p : Processor) → AddsRecordsOnly p p []
no_records p = same_pages p p refl

pub more_pages : (old mid new : Processor) (rs : List Record) (n : Next) → AddsRecordsOnly old mid rs
    → AddsNextOnly mid new n → AddsRecordsOnly old new (with_next n rs)
more_pages old mid new rs (Does r) pages only = (mid, (pages, only))
more_pages old mid new [] (Ends f) pages none = next_behind old mid new (Ends f) pages none
more_pages old mid new (r ∷ rs) (Ends f) pages none =
    (pages.0, (pages.1.0, none_then pages.0 mid new (action_done r) pages.1.1 none))
