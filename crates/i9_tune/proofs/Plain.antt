-- What instructions of a block need.
use Rattle.std.proofs.Common.{◌≡◌, ℕ, ◌+◌, ◌*◌, ◌<◌, ◌≤◌, ◌^◌, List, [], ◌∷◌, length, take, reverse, slice_index_or, sym, ap, ◌∙◌, subst, arith}
use Rattle.std.proofs.lemmas.List.{take_more, reverse-append}
use Rattle.i9_isa.specs.declared.inst.Inst.{Inst}
use Rattle.i9_model.specs.declared.need.Need.{Need}
use Rattle.i9_model.specs.Turns.{HasCost, Pending, IsAllDone, StandsFor, with_need}
use Rattle.i9_turns.proofs.NeedLaws.{inst_cost}
use Rattle.i9_issue.specs.Room.{IsEarly}
use Rattle.i9_issue.proofs.Early.{each-done}
use Rattle.i9_issue.proofs.Seven.{each-weaker}
use Rattle.i9_tune.specs.Greedy.{plain_facts, plain_need, turns_of}

pub plain_cost : (i : Inst) → HasCost (plain_need i)
plain_cost i = inst_cost i (plain_facts i)

-- where all is done early, a need may still be placed
pub early_by : (p : Pending) (n : Need) (m : ℕ) → IsAllDone p m → m < 2 ^ 62 → n.not_before ≡ 0 → n.cost ≤ 248 → IsEarly p n
early_by p n m done lt waited cost =
    let last = done.in_order in
    record {
      last = omega (arith, last, lt);
      done = each-weaker (λ r. r.done ≤ m) (λ r. r.done < 2 ^ 62) (λ r d. omega (arith, d, lt)) p.records done.done;
      waited = omega (arith, waited);
      cost = omega (arith, cost);
    }

-- ---- one more instruction of a block

pub done_more : (p : Pending) (k cost : ℕ) → cost ≤ 248 → IsAllDone p (1 + 248 * k + cost) → IsAllDone p (1 + 248 * (k + 1))
done_more p k cost few done =
    let last = done.in_order in
    record { in_order = omega (arith, last, few); done = each-done (1 + 248 * k + cost) (1 + 248 * (k + 1)) p.records (omega (arith, few)) done.done }

pub stands_next : (taken more : List Inst) (i : Inst) (p : Pending) (n : Need) → more ≡ i ∷ taken → n ≡ plain_need i → StandsFor p (with_need (turns_of taken) n) → StandsFor p (turns_of more)
stands_next taken more i p n e is stands =
    subst (λ (is : List Inst). StandsFor p (turns_of is)) (sym e) (subst (λ (m : Need). StandsFor p (with_need (turns_of taken) m)) is stands)

pub reverse_more : (xs : List Inst) (k : ℕ) (d : Inst) → k < length xs → reverse (take (k + 1) xs) ≡ slice_index_or xs k d ∷ reverse (take k xs)
reverse_more xs k d h = ap reverse (take_more xs k d h) ∙ reverse-append (take k xs) (slice_index_or xs k d ∷ [])
