-- One more instruction of the greedy order.
use Rattle.std.proofs.Common.{◌≡◌, ℕ, ◌+◌, ◌-◌, ◌<◌, List, [], ◌∷◌, ◌++◌, length, reverse, slice_index_or, refl, sym, ap, ◌∙◌, subst, arith}
use Rattle.std.specs.List.{remove}
use Rattle.std.proofs.lemmas.List.{append_assoc, append-nil, reverse-append, get_or_at}
use Rattle.std.proofs.lemmas.List.Edits.{length-remove, remove-append_right}
use Rattle.i9_isa.specs.declared.inst.Inst.{Inst}
use Rattle.i9_tune.specs.Greedy.{IsChosenAt, IsGreedy, AreTunable}
use Rattle.i9_tune.proofs.Depend.{IsTunable}
use Rattle.i9_tune.proofs.Orders.{parts_of}

removed : (before : List Inst) (x : Inst) (behind : List Inst) (k : ℕ) → length before ≡ k → remove (before ++ x ∷ behind) k ≡ before ++ behind
removed before x behind k place =
    let none : k - k ≡ 0 = omega arith in
    remove-append_right before (x ∷ behind) k k place (omega arith) ∙ ap (λ (n : ℕ). before ++ remove (x ∷ behind) n) none

-- what is taken, and what is left
pub record IsTaken (left : List Inst) (next : Inst) (rest : List Inst) (taken : List Inst) : Type 0 where
  pub greedy : (order : List Inst) → IsGreedy (next ∷ taken) rest order → IsGreedy taken left (next ∷ order)
  pub tunable : AreTunable left → AreTunable rest

pub is_taken : (taken left : List Inst) (k : ℕ) (next : Inst) (rest : List Inst) → IsChosenAt taken left k → next ≡ slice_index_or left k next → rest ≡ remove left k → IsTaken left next rest taken
is_taken taken left k next rest at value is =
    let before = at.0 in
    let x = at.1 in
    let behind = at.2 in
    let same : next ≡ x = value ∙ ap (λ (is : List Inst). slice_index_or is k next) at.3 ∙ get_or_at before x behind next k at.4 in
    let others : rest ≡ before ++ behind = is ∙ ap (λ (is : List Inst). remove is k) at.3 ∙ removed before x behind k at.4 in
    record {
      greedy = λ order g. subst (λ (y : Inst). IsGreedy taken left (y ∷ order)) (sym same)
          (before, behind, at.3, at.5, subst (λ (is : List Inst). IsGreedy (x ∷ taken) is order) others (subst (λ (y : Inst). IsGreedy (y ∷ taken) rest order) same g));
      tunable = λ ok. subst AreTunable (sym others) (parts_of IsTunable before x behind (subst AreTunable at.3 ok)).2;
    }

-- the greedy orders behind what is taken give those of the block
abbrev pub Continues : List Inst → List Inst → List Inst → Type 0
Continues block order left = (rest : List Inst) → IsGreedy (reverse order) left rest → IsGreedy [] block (order ++ rest)

pub continues : (block order left rest : List Inst) (next : Inst) → IsTaken left next rest (reverse order) → Continues block order left → Continues block (order ++ next ∷ []) rest
continues block order left rest next t c more g =
    subst (IsGreedy [] block) (sym (append_assoc order (next ∷ []) more))
    (c (next ∷ more) (t.greedy more (subst (λ (taken : List Inst). IsGreedy taken rest more) (reverse-append order (next ∷ [])) g)))

pub ends : (block order left : List Inst) → Continues block order left → length left ≡ 0 → IsGreedy [] block order
ends block order [] c e = subst (IsGreedy [] block) (append-nil order) (c [] refl)
ends block order (x ∷ left) c e = absurd (omega (arith, e))

pub fewer_left : (left rest : List Inst) (k counter n : ℕ) → k < length left → rest ≡ remove left k → length left + counter ≡ n → length rest + (counter + 1) ≡ n
fewer_left left rest k counter n h e long =
    let one : length rest + 1 ≡ length left = ap (λ (is : List Inst). length is + 1) e ∙ length-remove left k h in
    omega (arith, one, long)
