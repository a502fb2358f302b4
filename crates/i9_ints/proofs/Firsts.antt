-- The first element of a list that passes, where the list is made of parts.
use Rattle.std.proofs.Common.{◌≡◌, ℕ, zero, suc, ◌+◌, ◌-◌, ◌<◌, ◌≤◌, Bool, true, false, cond, List, [], ◌∷◌, ◌++◌, map, Some, None, refl, sym, ap, ◌∙◌, subst, inl, inr, arith}
use Rattle.std.specs.Prelude.{find, filter, flat_map}
use Rattle.std.specs.List.{range_with_len}
use Rattle.std.specs.Option.{option_or}
use Rattle.std.proofs.lemmas.List.Folds.{find-append}
use Rattle.std.proofs.lemmas.List.Concat.{flat_map_single}
use Rattle.std.proofs.lemmas.Bool.{cases_lt}
use Rattle.i9_model.specs.Interrupts.{below}

pub first_some : {X : Type 0} (P : X → Bool) (xs ys : List X) (x : X) → find P xs ≡ Some x → find P (xs ++ ys) ≡ Some x
first_some P xs ys x e = find-append P xs ys ∙ ap (λ o. option_or o (find P ys)) e

pub first_none : {X : Type 0} (P : X → Bool) (xs ys : List X) → find P xs ≡ None → find P (xs ++ ys) ≡ find P ys
first_none P xs ys e = find-append P xs ys ∙ ap (λ o. option_or o (find P ys)) e

-- ---- one element

pub one_some : {X : Type 0} (P : X → Bool) (x : X) → P x ≡ true → find P (x ∷ []) ≡ Some x
one_some P x e = ap (λ (b : Bool). cond b (Some x) None) e

pub one_none : {X : Type 0} (P : X → Bool) (x : X) → P x ≡ false → find P (x ∷ []) ≡ None
one_none P x e = ap (λ (b : Bool). cond b (Some x) None) e

-- an element that is there under a test
pub tested_some : {X : Type 0} (P : X → Bool) (b : Bool) (x : X) → b ≡ true → P x ≡ true → find P (cond b (x ∷ []) []) ≡ Some x
tested_some P b x t e = ap (λ (c : Bool). find P (cond c (x ∷ []) [])) t ∙ one_some P x e

pub tested_none : {X : Type 0} (P : X → Bool) (b : Bool) (x : X) → (b ≡ true → P x ≡ false) → find P (cond b (x ∷ []) []) ≡ None
tested_none P b x e = grind arith

-- ---- a part for each number

pub parts_none : {X : Type 0} (P : X → Bool) (f : ℕ → List X) (a n : ℕ) → ((j : ℕ) → a ≤ j → j < a + n → find P (f j) ≡ None) → find P (flat_map f (range_with_len a n)) ≡ None
parts_none P f a zero h = refl
parts_none P f a (suc n) h =
    first_none P (f a) (flat_map f (range_with_len (a + 1) n)) (h a (omega arith) (omega arith))
    ∙ parts_none P f (a + 1) n (λ j low high. h j (omega arith) (omega arith))

pub parts_some : {X : Type 0} (P : X → Bool) (f : ℕ → List X) (a n i : ℕ) (x : X) → a ≤ i → i < a + n → find P (f i) ≡ Some x → ((j : ℕ) → a ≤ j → j < i → find P (f j) ≡ None)
    → find P (flat_map f (range_with_len a n)) ≡ Some x
parts_some P f a zero i x low high here before = absurd (omega arith)
parts_some P f a (suc n) i x low high here before = elim (cases_lt a i) [
  | inl h ↦
      first_none P (f a) (flat_map f (range_with_len (a + 1) n)) (before a (omega arith) h)
      ∙ parts_some P f (a + 1) n i x (omega arith) (omega arith) here (λ j l u. before j (omega arith) u)
  | inr h ↦
      let same : i ≡ a = omega arith in
      first_some P (f a) (flat_map f (range_with_len (a + 1) n)) x (subst (λ (k : ℕ). find P (f k) ≡ Some x) same here)
]

flat_map-map : {X : Type 0} (f : ℕ → List X) (g : ℕ → ℕ) (xs : List ℕ) → flat_map f (map g xs) ≡ flat_map (λ j. f (g j)) xs
flat_map-map f g [] = refl
flat_map-map f g (j ∷ xs) = ap (λ ys. f (g j) ++ ys) (flat_map-map f g xs)

-- ---- a part for each of so many numbers below another, the greatest first

pub below_none : {X : Type 0} (P : X → Bool) (f : ℕ → List X) (top n : ℕ) → n ≤ top → ((q : ℕ) → q < top → top ≤ q + n → find P (f q) ≡ None) → find P (flat_map f (below top n)) ≡ None
below_none P f top n fits h =
    ap (find P) (flat_map-map f (λ j. top - 1 - j) (range_with_len 0 n))
    ∙ parts_none P (λ j. f (top - 1 - j)) 0 n (λ j low high. h (top - 1 - j) (omega arith) (omega arith))

pub below_some : {X : Type 0} (P : X → Bool) (f : ℕ → List X) (top n p : ℕ) (x : X) → p < top → top ≤ p + n → find P (f p) ≡ Some x → ((q : ℕ) → p < q → q < top → find P (f q) ≡ None)
    → find P (flat_map f (below top n)) ≡ Some x
below_some P f top n p x low high here before =
    let at : p ≡ top - 1 - (top - 1 - p) = omega arith in
    ap (find P) (flat_map-map f (λ j. top - 1 - j) (range_with_len 0 n))
    ∙ parts_some P (λ j. f (top - 1 - j)) 0 n (top - 1 - p) x (omega arith) (omega arith) (subst (λ (q : ℕ). find P (f q) ≡ Some x) at here)
    (λ j l u. before (top - 1 - j) (omega arith) (omega arith))

-- one element for each
pub each_none : {X : Type 0} (P : X → Bool) (h : ℕ → X) (top n : ℕ) → n ≤ top → ((q : ℕ) → q < top → top ≤ q + n → P (h q) ≡ false) → find P (map h (below top n)) ≡ None
each_none P h top n fits none =
    ap (find P) (sym (flat_map_single h (below top n))) ∙ below_none P (λ q. h q ∷ []) top n fits (λ q low high. one_none P (h q) (none q low high))

pub each_some : {X : Type 0} (P : X → Bool) (h : ℕ → X) (top n p : ℕ) → p < top → top ≤ p + n → P (h p) ≡ true → ((q : ℕ) → p < q → q < top → P (h q) ≡ false) → find P (map h (below top n)) ≡ Some (h p)
each_some P h top n p low high here before =
    ap (find P) (sym (flat_map_single h (below top n)))
    ∙ below_some P (λ q. h q ∷ []) top n p (h p) low high (one_some P (h p) here) (λ q l u. one_none P (h q) (before q l u))

-- ---- an element for each number that passes another test

filtered_by : {X : Type 0} (c : ℕ → X) (b : Bool) (k : ℕ) (rest : List ℕ) (done : List X) → map c rest ≡ done → map c (cond b (k ∷ rest) rest) ≡ cond b (c k ∷ []) [] ++ done
filtered_by c b k rest done e = grind arith

pub filtered : {X : Type 0} (c : ℕ → X) (t : ℕ → Bool) (xs : List ℕ) → map c (filter t xs) ≡ flat_map (λ k. cond (t k) (c k ∷ []) []) xs
filtered c t [] = refl
filtered c t (k ∷ ks) = filtered_by c (t k) k (filter t ks) (flat_map (λ j. cond (t j) (c j ∷ []) []) ks) (filtered c t ks)
