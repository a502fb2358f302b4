use Rattle.std.proofs.Common.{◌≡◌, ◌≢◌, ◌/◌, ◌%◌, Some, refl, sym, subst, ap, ◌∙◌, arith}
use Rattle.std.specs.Prelude.{IsSome}
use Rattle.std.proofs.lemmas.Grind.{common_steps}
use Rattle.i9_memory.specs.Table.{page_at, Updates}
use Rattle.i9_memory.proofs.Updated.{at_some, updated_here, updated_elsewhere, updated_keeps, updated_adds_none}
use Rattle.i9_watch.specs.declared.marks.Marks.{Marks}
use Rattle.i9_watch.specs.Page.{changed}
use Rattle.i9_watch.specs.Marks.{is_marked, HasPage}
use Rattle.i9_watch.proofs.Marking.{same_marks, set_place, marked_at, same_page_marks, lacking_page}
use Rattle.i9_watch.proofs.marks.Marks.change_in_page.Goals as goal

pub returns-in-Some-clause-marks : goal.returns-in-Some-clause-marks
returns-in-Some-clause-marks c = λ m. same_marks _ _ (λ x.
    let n = c.args.a / 256 in
    let old = c.args.self.now in
    let before = c.in-Some.page.now in
    let after = c.change.new.self in
    let new : Marks = record { alloc = old.alloc; pages = c.get_mut.follows.lender after } in
    let updates : Updates old.pages n (Some after) new.pages = at_some c.get_mut.result c.in-Some.page c.in-Some.is (c.get_mut.follows.holds after) in
    let here : x / 256 ≡ n → page_at new.pages (x / 256) ≡ Some after = updated_here old.pages new.pages n (Some after) updates (x / 256) in
    let was : x / 256 ≡ n → page_at old.pages (x / 256) ≡ Some before = λ e. ap (page_at old.pages) e ∙ sym c.in-Some.ensures.value in
    let others : x / 256 ≢ n → page_at new.pages (x / 256) ≡ page_at old.pages (x / 256) = updated_elsewhere old.pages new.pages n (Some after) updates (x / 256) in
    set_place c.args.a c.args.n x (omega arith) (omega arith) (changed c.args.change m (is_marked m old x)) (is_marked m old x) (is_marked m new x)
    (λ e low high. marked_at m new x after (here e) ∙ c.change.ensures.within m (x % 256) low high ∙ ap (changed c.args.change m) (sym (marked_at m old x before (was e))))
    (λ e out. marked_at m new x after (here e) ∙ c.change.ensures.outside m (x % 256) out ∙ sym (marked_at m old x before (was e)))
    (λ ne. same_page_marks m new old x (others ne)))

pub returns-in_default-clause-marks : goal.returns-in_default-clause-marks
returns-in_default-clause-marks c = λ m.
    let old = c.args.self.now in
    let new : Marks = record { alloc = old.alloc; pages = c.get_mut.follows.lender-at-none } in
    let lacks : HasPage old (c.args.a / 256) → ⊥ = grind (arith, common_steps) in
    let same = same_marks (is_marked m new) (is_marked m old) (λ x. same_page_marks m new old x (c.get_mut.follows.holds-at-none (x / 256))) in
    same ∙ lacking_page c.args.change m old c.args.a c.args.n (omega arith) (omega arith) lacks c.requires.room

pub returns-in-Some-clause-keeps : goal.returns-in-Some-clause-keeps
returns-in-Some-clause-keeps c =
    let after = c.change.new.self in
    updated_keeps c.args.self.now.pages (c.get_mut.follows.lender after) (c.args.a / 256) after
    (at_some c.get_mut.result c.in-Some.page c.in-Some.is (c.get_mut.follows.holds after))

pub returns-in-Some-clause-no_more : goal.returns-in-Some-clause-no_more
returns-in-Some-clause-no_more c =
    let after = c.change.new.self in
    updated_adds_none c.args.self.now.pages (c.get_mut.follows.lender after) (c.args.a / 256) (Some after)
    (at_some c.get_mut.result c.in-Some.page c.in-Some.is (c.get_mut.follows.holds after))
    (subst IsSome c.in-Some.ensures.value refl)
