-- Each number of instructions of a run has one earlier state.
use Rattle.std.proofs.Common.{◌≡◌, ℕ, ◌+◌, ◌<◌, ◌≤◌, List, [], ◌∷◌, ◌++◌, Some, sym, ap, ◌∙◌, subst, ◌⊎◌, inl, inr, arith}
use Rattle.i9_past.proofs.Ends.{boot_count}
use Rattle.i9_model.specs.Run.{Given, Kind, Record, counts_of, state_after, Finish}
use Rattle.i9_past.proofs.Left.{counts_after}
use Rattle.i9_course.specs.Course.{event_ahead}
use Rattle.i9_course.specs.PipelinedRun.{steps, IsPipelinedPast, finish_after}
use Rattle.i9_course.proofs.PipelinedRuns.{late_next, next_of_steps, pipelined_goes_on, pipelined_records}
use Rattle.i9_course.proofs.Orderly.{comes_after}
use Rattle.i9_back.specs.Earlier.{EndsAt, IsEarlier, HasInstructions}

-- ---- counts

-- a record is what it does in the state after those before it
pub record_after : (g : Given) (rs : List Record) (r : Record) → IsPipelinedPast g (r ∷ rs)
    → (r.before ≡ state_after g rs) × (r.after.count ≡ (state_after g rs).count + counts_of r.kind)
record_after g rs r late =
    let is = comes_after g (event_ahead g (steps rs)) rs r (sym (next_of_steps g rs) ∙ late_next g rs r late) in
    (ap (λ (q : Record). q.before) is, ap (λ (q : Record). q.after.count) is ∙ counts_after r.kind (state_after g rs))

-- a record counts one or none
pub one_or_none : (k : Kind) → (counts_of k ≡ 1) ⊎ (counts_of k ≡ 0)
one_or_none k = grind arith

-- no records count none
pub none_done : (g : Given) → (state_after g []).count ≡ 0
none_done g = boot_count g.image

-- counts do not fall
pub rises : (g : Given) (zs rs : List Record) → IsPipelinedPast g (zs ++ rs) → (state_after g rs).count ≤ (state_after g (zs ++ rs)).count
rises g [] rs late = omega arith
rises g (z ∷ zs) rs late =
    let before : (state_after g rs).count ≤ (state_after g (zs ++ rs)).count = rises g zs rs late.0 in
    let count = (record_after g (zs ++ rs) z late).1 in
    omega (arith, before, count)

-- the count of an earlier state
pub earlier_count : (g : Given) (c : ℕ) (rs : List Record) → EndsAt c rs → (state_after g rs).count ≡ c
earlier_count g c rs last = grind (arith, none_done)

-- ---- there is one

abbrev Extends : List Record → List Record → Type 0
Extends rs qs = (zs : List Record) × (zs ++ rs ≡ qs)

-- of two ends of one list one is an end of the other
one_extends : (xs rs ys qs : List Record) → xs ++ rs ≡ ys ++ qs → Extends rs qs ⊎ Extends qs rs
one_extends [] rs ys qs e = inr (ys, sym e)
one_extends (x ∷ xs) rs [] qs e = inl (x ∷ xs, e)
one_extends (x ∷ xs) rs (y ∷ ys) qs e = one_extends xs rs ys qs (cc)

-- what was done so far is part of what is done later, of the same run
pub past_extends : (g : Given) (rs qs : List Record) → IsPipelinedPast g rs → IsPipelinedPast g qs → Extends rs qs ⊎ Extends qs rs
past_extends g rs qs a b =
    let x = pipelined_goes_on g rs a in
    let y = pipelined_goes_on g qs b in
    one_extends x.0 rs y.0 qs (pipelined_records g (x.0 ++ rs) (y.0 ++ qs) x.1 y.1 x.2 y.2)

-- behind an earlier state there is none with as many instructions
none_longer : (g : Given) (c : ℕ) (rs qs : List Record) → EndsAt c rs → IsEarlier g c qs → Extends rs qs → rs ≡ qs
none_longer g c rs qs last is ([], same) = same
none_longer g c rs qs last is (z ∷ zs, same) =
    let late : IsPipelinedPast g (z ∷ zs ++ rs) = subst (IsPipelinedPast g) (sym same) is.past in
    let ends : EndsAt c (z ∷ zs ++ rs) = subst (EndsAt c) (sym same) is.last in
    let below = rises g zs rs late.0 in
    let count = (record_after g (zs ++ rs) z late).1 in
    let start = earlier_count g c rs last in
    let one = ends.0 in
    let there = ends.1 in
    absurd (omega (arith, below, count, start, one, there))

pub one_earlier : (g : Given) (c : ℕ) (rs qs : List Record) → IsEarlier g c rs → IsEarlier g c qs → rs ≡ qs
one_earlier g c rs qs a b = elim (past_extends g rs qs a.past b.past) [
  | inl on ↦ none_longer g c rs qs a.last b on
  | inr on ↦ sym (none_longer g c qs rs b.last a on)
]

-- ---- where the run has as many instructions, there is one

pub at_or_below : (c n : ℕ) → (c ≤ n) ⊎ (n < c)
at_or_below c n = grind arith

pub some_earlier : (g : Given) (c : ℕ) (rs : List Record) → IsPipelinedPast g rs → c ≤ (state_after g rs).count → (qs : List Record) × IsEarlier g c qs
some_earlier g c [] late le =
    let none = none_done g in
    ([], record { past = tt; last = omega (arith, le, none) })
some_earlier g c (r ∷ rs) late le = elim (at_or_below c (state_after g rs).count) [
  | inl before ↦ some_earlier g c rs late.0 before
  | inr above ↦
      let count = (record_after g rs r late).1 in
      elim (one_or_none r.kind) [
        | inl one ↦ (r ∷ rs, record { past = late; last = (one, omega (arith, above, count, one, le)) })
        | inr none ↦ absurd (omega (arith, above, count, none, le))
      ]
]

pub has_earlier : (g : Given) (c : ℕ) → HasInstructions g c → (rs : List Record) × IsEarlier g c rs
has_earlier g c has = some_earlier g c has.records has.past has.reaches

-- ---- the state after fewer is part of that after more

pub earlier_part : (g : Given) (c d : ℕ) (rs qs : List Record) → c ≤ d → IsEarlier g c rs → IsEarlier g d qs → (more : List Record) × (more ++ rs ≡ qs)
earlier_part g c d rs qs le a b = elim (past_extends g rs qs a.past b.past) [
  | inl on ↦ on
  | inr on ↦
      let up : (state_after g qs).count ≤ (state_after g (on.0 ++ qs)).count = rises g on.0 qs (subst (IsPipelinedPast g) (sym on.1) a.past) in
      let end : (state_after g (on.0 ++ qs)).count ≡ c = ap (λ (xs : List Record). (state_after g xs).count) on.1 ∙ earlier_count g c rs a.last in
      let start = earlier_count g d qs b.last in
      let same : d ≡ c = omega (arith, le, up, end, start) in
      ([], one_earlier g c rs qs a (subst (λ (n : ℕ). IsEarlier g n qs) same b))
]

-- ---- where a run has ended, it has no more instructions

pub ended_whole : (g : Given) (rs : List Record) (f : Finish) (c : ℕ) → IsPipelinedPast g rs → finish_after g rs ≡ Some f → HasInstructions g c
    → c ≤ (state_after g rs).count
ended_whole g rs f c late ends has =
    let x = pipelined_goes_on g has.records has.past in
    let same = pipelined_records g rs (x.0 ++ has.records) f x.1 (record { past = late; ends = ends }) x.2 in
    let up : (state_after g has.records).count ≤ (state_after g (x.0 ++ has.records)).count = rises g x.0 has.records x.2.past in
    let end : (state_after g rs).count ≡ (state_after g (x.0 ++ has.records)).count = ap (λ (xs : List Record). (state_after g xs).count) same in
    let reaches = has.reaches in
    omega (arith, up, end, reaches)
