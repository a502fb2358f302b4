-- A block has a greedy order, and one alone.
use Rattle.std.proofs.Common.{◌≡◌, ℕ, zero, suc, true, List, [], ◌∷◌, ◌++◌, length, refl, sym, ap, ◌∙◌, subst, inl, inr, arith, ◌<◌, ◌≤◌, ◌&&◌}
use Rattle.std.specs.Prelude.{nat_lt}
use Rattle.std.proofs.lemmas.Bool.{cases_Bool, and_parts, ltb-true}
use Rattle.std.proofs.lemmas.Bool.Decides.{nat_tests}
use Rattle.std.proofs.lemmas.List.{append-nil, append_assoc, length-append}
use Rattle.i9_isa.specs.declared.inst.Inst.{Inst}
use Rattle.i9_tune.specs.Greedy.{is_free, next_issue, IsGreedy, IsTuned, better, AllFree, IsChosen}
use Rattle.i9_tune.proofs.Chosen.{IsBest, first_best, best_stays, best_changes}

-- ---- some order

-- the one that is to be taken, wherever it stands
record SomeBest (taken xs : List Inst) : Type 0 where
  place : ℕ
  turn : ℕ
  best : IsBest taken xs place turn

-- one more is looked at
one_more : (taken xs : List Inst) (y : Inst) → SomeBest taken xs → SomeBest taken (xs ++ y ∷ [])
one_more taken xs y b = elim (cases_Bool (is_free xs y && nat_lt (next_issue taken y) b.turn)) [
  | inl sooner ↦
      let parts = and_parts (is_free xs y) (nat_lt (next_issue taken y) b.turn) sooner in
      let best = best_changes taken xs b.place b.turn y (next_issue taken y) b.best parts.0 refl (ltb-true _ _ parts.1) in
      record { place = length xs; turn = next_issue taken y; best = best }
  | inr later ↦
      record { place = b.place; turn = b.turn; best = best_stays taken xs b.place b.turn y b.best (λ free. grind (arith, nat_tests, later, free)) }
]

some_best : (taken xs ys : List Inst) → SomeBest taken xs → SomeBest taken (xs ++ ys)
some_best taken xs [] b = subst (SomeBest taken) (sym (append-nil xs)) b
some_best taken xs (y ∷ ys) b = subst (SomeBest taken) (append_assoc xs (y ∷ []) ys) (some_best taken (xs ++ y ∷ []) ys (one_more taken xs y b))

pub some_greedy : (n : ℕ) (taken left : List Inst) → length left ≡ n → (order : List Inst) × IsGreedy taken left order
some_greedy n taken [] long = ([], refl)
some_greedy zero taken (x ∷ left) long = absurd (cc long)
some_greedy (suc n) taken (x ∷ left) long =
    let b = (some_best taken (x ∷ []) left (record { place = 0; turn = next_issue taken x; best = first_best taken x (next_issue taken x) refl })).best in
    let same : length (b.before ++ b.x ∷ b.behind) ≡ suc n = ap length (sym b.split) ∙ long in
    let rest = some_greedy n (b.x ∷ taken) (b.before ++ b.behind) (simp length-append (omega (arith, simp length-append at same))) in
    (b.x ∷ rest.0, (b.before, b.behind, b.split, b.chosen, rest.1))

pub some_tuned : (block : List Inst) → (tuned : List Inst) × IsTuned block tuned
some_tuned block = let order = some_greedy (length block) [] block refl in (better block order.0, (order.0, order.1, refl))

-- ---- one alone

-- one list, split at two places: the places are the same, or one is before the other
data AreSplits (b : List Inst) (x : Inst) (a c : List Inst) (y : Inst) (d : List Inst) : Type 0 where
  same : b ≡ c → x ≡ y → a ≡ d → AreSplits b x a c y d
  first : (e : List Inst) → c ≡ b ++ x ∷ e → a ≡ e ++ y ∷ d → AreSplits b x a c y d
  second : (e : List Inst) → b ≡ c ++ y ∷ e → d ≡ e ++ x ∷ a → AreSplits b x a c y d

under : (i j : Inst) (b : List Inst) (x : Inst) (a c : List Inst) (y : Inst) (d : List Inst) → i ≡ j → AreSplits b x a c y d → AreSplits (i ∷ b) x a (j ∷ c) y d
under i j b x a c y d e (same p q r) = same (cc) q r
under i j b x a c y d e (first f p q) = first f (cc) q
under i j b x a c y d e (second f p q) = second f (cc) q

splits : (b : List Inst) (x : Inst) (a c : List Inst) (y : Inst) (d : List Inst) → b ++ x ∷ a ≡ c ++ y ∷ d → AreSplits b x a c y d
splits [] x a [] y d e = same refl (cc) (cc)
splits [] x a (j ∷ c) y d e = first c (cc) (cc)
splits (i ∷ b) x a [] y d e = second b (cc) (cc)
splits (i ∷ b) x a (j ∷ c) y d e = under i j b x a c y d (cc) (splits b x a c y d (cc))

free_at : (P : Inst → Type 0) (before is : List Inst) (y : Inst) (js : List Inst) → AllFree P before (is ++ y ∷ js) → is_free (before ++ is) y ≡ true → P y
free_at P before [] y js h e = h.0 (subst (λ (b : List Inst). is_free b y ≡ true) (append-nil before) e)
free_at P before (i ∷ is) y js h e = free_at P (before ++ i ∷ []) is y js h.1 (subst (λ (b : List Inst). is_free b y ≡ true) (sym (append_assoc before (i ∷ []) is)) e)

-- of two that are chosen neither is before the other
none_first : (taken b : List Inst) (x : Inst) (a c : List Inst) (y : Inst) (d e : List Inst) → c ≡ b ++ x ∷ e → a ≡ e ++ y ∷ d → IsChosen taken b x a → IsChosen taken c y d → ⊥
none_first taken b x a c y d e p q one two =
    let less : next_issue taken y < next_issue taken x =
    free_at (λ i. next_issue taken y < next_issue taken i) [] b x e (subst (AllFree (λ i. next_issue taken y < next_issue taken i) []) p two.earlier) one.free in
    let more : next_issue taken x ≤ next_issue taken y =
    free_at (λ i. next_issue taken x ≤ next_issue taken i) (b ++ x ∷ []) e y d (subst (AllFree (λ i. next_issue taken x ≤ next_issue taken i) (b ++ x ∷ [])) q one.later)
    (subst (λ (z : List Inst). is_free z y ≡ true) (p ∙ sym (append_assoc b (x ∷ []) e)) two.free) in
    omega (arith, less, more)

none_left : (c : List Inst) (z : Inst) (d : List Inst) → c ++ z ∷ d ≡ [] → ⊥
none_left [] z d e = cc e
none_left (i ∷ c) z d e = cc e

-- the first ones are the same, and the others, where that is known
same_orders : (taken left : List Inst) (x y : Inst) (p q : List Inst) (g : IsGreedy taken left (x ∷ p)) (h : IsGreedy taken left (y ∷ q))
    → ((t is : List Inst) → IsGreedy t is p → IsGreedy t is q → p ≡ q) → AreSplits g.0 x g.1 h.0 y h.1 → x ∷ p ≡ y ∷ q
same_orders taken left x y p q g h later (same e f k) =
    let there = subst (λ (z : Inst). IsGreedy (z ∷ taken) (g.0 ++ g.1) p) f g.4 in
    let left_same : g.0 ++ g.1 ≡ h.0 ++ h.1 = cc in
    let rest = later (y ∷ taken) (h.0 ++ h.1) (subst (λ (is : List Inst). IsGreedy (y ∷ taken) is p) left_same there) h.4 in
    cc
same_orders taken left x y p q g h later (first e f k) = absurd (none_first taken g.0 x g.1 h.0 y h.1 e f k g.3 h.3)
same_orders taken left x y p q g h later (second e f k) = absurd (none_first taken h.0 y h.1 g.0 x g.1 e f k h.3 g.3)

pub one_greedy : (taken left p q : List Inst) → IsGreedy taken left p → IsGreedy taken left q → p ≡ q
one_greedy taken left [] [] g h = refl
one_greedy taken left [] (y ∷ q) g h = absurd (none_left h.0 y h.1 (sym h.2 ∙ g))
one_greedy taken left (x ∷ p) [] g h = absurd (none_left g.0 x g.1 (sym g.2 ∙ h))
one_greedy taken left (x ∷ p) (y ∷ q) g h = same_orders taken left x y p q g h (λ t is u v. one_greedy t is p q u v) (splits g.0 x g.1 h.0 y h.1 (sym g.2 ∙ h.2))

pub one_tuned : (block p q : List Inst) → IsTuned block p → IsTuned block q → p ≡ q
one_tuned block p q g h = g.2 ∙ ap (better block) (one_greedy [] block g.0 h.0 g.1 h.1) ∙ sym h.2
