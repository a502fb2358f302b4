-- A choice of interrupts looks at what software asks for at vectors below 256 alone.
use Rattle.std.proofs.Common.{◌≡◌, ℕ, zero, suc, ◌+◌, ◌-◌, ◌*◌, ◌<◌, Bool, cond, List, [], ◌∷◌, ◌++◌, map, find, Option, Some, refl, sym, ap, ◌∙◌, arith}
use Rattle.std.specs.Prelude.{◌&&◌, ◌==◌, filter, flat_map}
use Rattle.std.specs.List.{range_with_len}
use Rattle.std.proofs.lemmas.List.Folds.{find-append, flat_map-map}
use Rattle.i9_model.specs.declared.interrupts.TheConstants.{LINES, NMI_VECTOR, HIGHEST_PRIORITY}
use Rattle.i9_model.specs.declared.interrupts.Cause.TheVariants.{Nmi, Line, Soft}
use Rattle.i9_model.specs.declared.interrupts.Chosen.{Chosen}
use Rattle.i9_model.specs.State.{Interrupts}
use Rattle.i9_model.specs.Interrupts.{vector_priority, passes, line_vector, below, vectors_of, choice, lines_with, choices_at, is_asked, chosen_of}

-- two tests find the same
abbrev FindSame : (Chosen → Bool) → (Chosen → Bool) → List Chosen → Type 0
FindSame t u xs = find t xs ≡ find u xs

append_same : (t u : Chosen → Bool) (xs ys : List Chosen) → FindSame t u xs → FindSame t u ys → FindSame t u (xs ++ ys)
append_same t u xs ys one two = grind (arith, find-append)

parts_same : (t u : Chosen → Bool) (f : ℕ → List Chosen) (a n : ℕ) → ((j : ℕ) → j < a + n → FindSame t u (f j)) → FindSame t u (flat_map f (range_with_len a n))
parts_same t u f a zero same = refl
parts_same t u f a (suc n) same =
    append_same t u (f a) (flat_map f (range_with_len (a + 1) n)) (same a (omega arith)) (parts_same t u f (a + 1) n (λ j less. same j (omega arith)))

below_same : (t u : Chosen → Bool) (f : ℕ → List Chosen) (top n : ℕ) → 0 < top → ((v : ℕ) → v < top → FindSame t u (f v)) → FindSame t u (flat_map f (below top n))
below_same t u f top n some same = grind (arith, flat_map-map, parts_same)

one_same : (t u : Chosen → Bool) (x : Chosen) (o p : Option Chosen) → t x ≡ u x → o ≡ p → cond (t x) (Some x) o ≡ cond (u x) (Some x) p
one_same t u x o p same later = cc

map_same : (t u : Chosen → Bool) (h : ℕ → Chosen) (a n : ℕ) → ((j : ℕ) → j < a + n → t (h j) ≡ u (h j)) → FindSame t u (map h (range_with_len a n))
map_same t u h a zero same = refl
map_same t u h a (suc n) same = one_same t u (h a) _ _ (same a (omega arith)) (map_same t u h (a + 1) n (λ j less. same j (omega arith)))

module _ (i : Interrupts) (pc : ℕ) (soft other : ℕ → Bool) (same : (v : ℕ) → v < 256 → soft v ≡ other v) where
  abbrev test : (ℕ → Bool) → Chosen → Bool
  test f c = is_asked i f c.cause c.vector && passes pc (vector_priority c.vector)

  lines_same : (v : ℕ) (ks : List ℕ) → FindSame (test soft) (test other) (map (λ k. choice (Line k) v) ks)
  lines_same v [] = refl
  lines_same v (k ∷ ks) = one_same (test soft) (test other) (choice (Line k) v) _ _ refl (lines_same v ks)

  soft_same : (v : ℕ) → v < 256 → test soft (choice Soft v) ≡ test other (choice Soft v)
  soft_same v h = ap (λ (b : Bool). b && passes pc (vector_priority v)) (same v h)

  vectors_same : (p : ℕ) → p < 32 → FindSame (test soft) (test other) (map (choice Soft) (vectors_of p))
  vectors_same p h = let e = map-map (range_with_len 0 8) in ap (find (test soft)) e ∙ (map_same (test soft) (test other) (λ j. choice Soft (8 * p + 8 - 1 - j)) 0 8 (λ j less. soft_same (8 * p + 8 - 1 - j) (omega arith))) ∙ sym (ap (find (test other)) e)
    where
      map-map : (js : List ℕ) → map (choice Soft) (map (λ j. 8 * p + 8 - 1 - j) js) ≡ map (λ j. choice Soft (8 * p + 8 - 1 - j)) js
      map-map [] = refl
      map-map (j ∷ js) = ap (λ cs. choice Soft (8 * p + 8 - 1 - j) ∷ cs) (map-map js)

  priority_same : (p : ℕ) → p < 32 → FindSame (test soft) (test other) (choices_at i.maps p)
  priority_same p h =
      append_same (test soft) (test other) (flat_map (lines_with i.maps) (vectors_of p)) (map (choice Soft) (vectors_of p))
      (below_same (test soft) (test other) (lines_with i.maps) (8 * p + 8) 8 (omega arith) (λ v less. lines_same v (filter (λ k. line_vector i.maps k == v) (range_with_len 0 LINES))))
      (vectors_same p h)

  pub chosen_of_same : chosen_of i soft pc ≡ chosen_of i other pc
  unfolding chosen_of
  chosen_of_same =
      ap (λ (o : Option Chosen). cond i.nmi (Some (choice Nmi NMI_VECTOR)) o)
      (below_same (test soft) (test other) (choices_at i.maps) (HIGHEST_PRIORITY + 1) HIGHEST_PRIORITY (omega arith) priority_same)
