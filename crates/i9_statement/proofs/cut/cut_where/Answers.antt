use Rattle.std.proofs.Common.{ℕ, take, drop, get_or, inl, inr, sym, ap, ◌∙◌, arith}
use Rattle.std.proofs.lemmas.Bool.{cases_eq}
use Rattle.std.proofs.lemmas.List.{take_all, drop_all}
use Rattle.std.proofs.lemmas.List.Sums.{position_or_len_is}
use Rattle.i9_statement.proofs.cut.cut_where.Goals as goal

pub loop-place-init : goal.loop-place-init
loop-place-init g c = λ p h j lt. absurd (omega arith)

pub loop-place-preserved : goal.loop-place-preserved
loop-place-preserved g c = λ p h j lt.
    let s = c.args.text.now in
    let i = c.loop-place.place in
    elim (cases_eq j i) [
      | inl here ↦ rw here (sym (h (get_or s i 0) c.passes.result c.passes.ensures) ∙ c.if-passes.false)
      | inr before ↦ c.loop-place.invariant p h j (omega arith)
    ]

pub returns-then-passes : goal.returns-then-passes
returns-then-passes g c = λ p h.
    let s = c.args.text.now in
    let i = c.loop-place.place in
    let passes = sym (h (get_or s i 0) c.passes.result c.passes.ensures) ∙ c.if-passes.true in
    let first = position_or_len_is p s i 0 (omega arith) (c.loop-place.invariant p h) (λ _. passes) in
    (c.split_at.ensures.front ∙ ap (λ (n : ℕ). take n s) (sym first), c.split_at.ensures.back ∙ ap (λ (n : ℕ). drop n s) (sym first))

pub returns : goal.returns
returns g c = λ p h.
    let s = c.args.text.now in
    let i = c.loop-place.place in
    let none = position_or_len_is p s i 0 (omega arith) (c.loop-place.invariant p h) (λ lt. absurd (omega arith)) in
    (sym (ap (λ (n : ℕ). take n s) none ∙ take_all i s c.loop-place-test.false), sym (ap (λ (n : ℕ). drop n s) none ∙ drop_all i s c.loop-place-test.false))
