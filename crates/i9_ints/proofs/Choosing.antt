-- The choice of an interrupt: the best line and the greatest vector that software asks for give the first choice that is
-- asked for and let in.
use Rattle.std.proofs.Common.{◌≡◌, ℕ, ◌+◌, ◌*◌, ◌<◌, ◌≤◌, Bool, true, false, cond, List, [], ◌∷◌, map, Option, Some, None, min, refl, sym, ap, ◌∙◌, arith}
use Rattle.std.specs.Prelude.{find, flat_map, nat_le, nat_lt, bit_and, ◌==◌, ◌&&◌, if◌then◌else◌}
use Rattle.std.specs.Int.{bit_at}
use Rattle.std.specs.List.{range_with_len}
use Rattle.std.proofs.lemmas.Bool.{eqb-true, eq-eqb, le-leb, leb-true, ltb-true, ltb-false, and_parts, both_ways, false_from_ne_true}
use Rattle.std.proofs.lemmas.Bool.Decides.{nat_tests}
use Rattle.std.proofs.lemmas.Nat.Bits.{bit_at_and, bit_at-zero}
use Rattle.i9_isa.specs.Words.{bit}
use Rattle.i9_model.specs.declared.interrupts.TheConstants.{LINES, NMI_VECTOR, HIGHEST_PRIORITY}
use Rattle.i9_model.specs.declared.interrupts.Cause.TheVariants.{Nmi, Line, Soft}
use Rattle.i9_model.specs.declared.interrupts.Chosen.{Chosen}
use Rattle.i9_model.specs.State.{Interrupts}
use Rattle.i9_model.specs.Interrupts.{pending_word, vector_priority, line_vector, passes, is_open, choice, lines_with, vectors_of, choices_at, choices, is_asked, chosen_of}
use Rattle.i9_ints.specs.Best.{is_let_in, is_ready, IsBest, IsBestLine, IsTop, IsGreatest, is_wanted, preferred}
use Rattle.i9_ints.proofs.Firsts.{first_some, first_none, tested_some, tested_none, parts_none, parts_some, below_none, below_some, each_none, each_some, filtered}

-- a choice that is asked for and let in
abbrev counts : Interrupts → (ℕ → Bool) → ℕ → Chosen → Bool
counts s soft pc c = is_asked s soft c.cause c.vector && passes pc (vector_priority c.vector)

vector_small : (maps : List ℕ) (k : ℕ) → line_vector maps k < 256
vector_small maps k = omega arith

let_in_big : (pc v : ℕ) → is_let_in pc v ≡ true → 8 ≤ v
let_in_big pc v e = leb-true 8 v (and_parts (nat_le 8 v) (passes pc (vector_priority v)) e).0

module _ (s : Interrupts) (soft : ℕ → Bool) (pc : ℕ) where
  ready_big : (k : ℕ) → is_ready s pc k ≡ true → 8 ≤ line_vector s.maps k
  ready_big k e = let_in_big pc (line_vector s.maps k) (and_parts (is_open s k) (is_let_in pc (line_vector s.maps k)) e).1

  -- a line that has a vector
  line_counts : (k v : ℕ) → 8 ≤ v → line_vector s.maps k ≡ v → is_ready s pc k ≡ counts s soft pc (choice (Line k) v)
  line_counts k v big e = grind arith

  soft_counts : (v : ℕ) → 8 ≤ v → is_wanted soft pc v ≡ counts s soft pc (choice Soft v)
  soft_counts v big = ap (λ (b : Bool). soft v && (b && passes pc (vector_priority v))) (le-leb 8 v big)

  -- ---- the lines of one vector

  lines_none : (v : ℕ) → 8 ≤ v → ((k : ℕ) → k < LINES → line_vector s.maps k ≡ v → is_ready s pc k ≡ false) → find (counts s soft pc) (lines_with s.maps v) ≡ None
  lines_none v big none =
      ap (find (counts s soft pc)) (filtered (λ k. choice (Line k) v) (λ k. line_vector s.maps k == v) (range_with_len 0 LINES))
      ∙ parts_none (counts s soft pc) (λ k. cond (line_vector s.maps k == v) (choice (Line k) v ∷ []) []) 0 LINES
      (λ k low high. tested_none (counts s soft pc) (line_vector s.maps k == v) (choice (Line k) v)
      (λ t. let e = eqb-true (line_vector s.maps k) v t in sym (line_counts k v big e) ∙ none k high e))

  lines_some : (k v : ℕ) → 8 ≤ v → k < LINES → line_vector s.maps k ≡ v → is_ready s pc k ≡ true → ((j : ℕ) → j < k → line_vector s.maps j ≡ v → is_ready s pc j ≡ false)
      → find (counts s soft pc) (lines_with s.maps v) ≡ Some (choice (Line k) v)
  lines_some k v big few e ready none =
      ap (find (counts s soft pc)) (filtered (λ j. choice (Line j) v) (λ j. line_vector s.maps j == v) (range_with_len 0 LINES))
      ∙ parts_some (counts s soft pc) (λ j. cond (line_vector s.maps j == v) (choice (Line j) v ∷ []) []) 0 LINES k (choice (Line k) v) (omega arith) few
      (tested_some (counts s soft pc) (line_vector s.maps k == v) (choice (Line k) v) (eq-eqb (line_vector s.maps k) v e) (sym (line_counts k v big e) ∙ ready))
      (λ j low high. tested_none (counts s soft pc) (line_vector s.maps j == v) (choice (Line j) v)
      (λ t. let same = eqb-true (line_vector s.maps j) v t in sym (line_counts j v big same) ∙ none j high same))

  -- ---- the lines and the requests of one priority

  hard_none : (p : ℕ) → 1 ≤ p → ((k : ℕ) → k < LINES → vector_priority (line_vector s.maps k) ≡ p → is_ready s pc k ≡ false) → find (counts s soft pc) (flat_map (lines_with s.maps) (vectors_of p)) ≡ None
  hard_none p first none =
      below_none (counts s soft pc) (lines_with s.maps) (8 * p + 8) 8 (omega arith)
      (λ v low high. lines_none v (omega arith) (λ k few e. none k few (let at : vector_priority v ≡ p = omega arith in ap vector_priority e ∙ at)))

  hard_some : (k : ℕ) → IsBest s pc LINES k → find (counts s soft pc) (flat_map (lines_with s.maps) (vectors_of (vector_priority (line_vector s.maps k)))) ≡ Some (choice (Line k) (line_vector s.maps k))
  hard_some k best =
      let v = line_vector s.maps k in
      let big : 8 ≤ v = ready_big k best.ready in
      below_some (counts s soft pc) (lines_with s.maps) (8 * vector_priority v + 8) 8 v (choice (Line k) v) (omega arith) (omega arith)
      (lines_some k v big best.within refl best.ready (λ j low e. false_from_ne_true (is_ready s pc j) (λ t. let less = best.none_lower j low t in omega arith)))
      (λ u low high. lines_none u (omega arith) (λ j few e. false_from_ne_true (is_ready s pc j) (λ t. let least = best.none_greater j few t in omega arith)))

  soft_none : (p : ℕ) → 1 ≤ p → ((v : ℕ) → 8 * p ≤ v → v < 8 * p + 8 → is_wanted soft pc v ≡ false) → find (counts s soft pc) (map (choice Soft) (vectors_of p)) ≡ None
  soft_none p first none =
      each_none (counts s soft pc) (choice Soft) (8 * p + 8) 8 (omega arith) (λ v low high. sym (soft_counts v (omega arith)) ∙ none v (omega arith) low)

  soft_some : (v : ℕ) → IsTop (is_wanted soft pc) 8 256 v → find (counts s soft pc) (map (choice Soft) (vectors_of (vector_priority v))) ≡ Some (choice Soft v)
  soft_some v top =
      let low = top.from in
      let high = top.below in
      each_some (counts s soft pc) (choice Soft) (8 * vector_priority v + 8) 8 v (omega arith) (omega arith)
      (sym (soft_counts v low) ∙ top.passes)
      (λ u l h. sym (soft_counts u (omega arith)) ∙ top.none_greater u l (omega arith))

  both_none : (p : ℕ) → 1 ≤ p → ((k : ℕ) → k < LINES → vector_priority (line_vector s.maps k) ≡ p → is_ready s pc k ≡ false) → ((v : ℕ) → 8 * p ≤ v → v < 8 * p + 8 → is_wanted soft pc v ≡ false)
      → find (counts s soft pc) (choices_at s.maps p) ≡ None
  both_none p first hard none =
      first_none (counts s soft pc) (flat_map (lines_with s.maps) (vectors_of p)) (map (choice Soft) (vectors_of p)) (hard_none p first hard) ∙ soft_none p first none

  -- ---- all priorities

  none_chosen : ((k : ℕ) → k < LINES → is_ready s pc k ≡ false) → ((v : ℕ) → 8 ≤ v → v < 256 → is_wanted soft pc v ≡ false) → find (counts s soft pc) (choices s.maps) ≡ None
  none_chosen hard none =
      below_none (counts s soft pc) (choices_at s.maps) (HIGHEST_PRIORITY + 1) HIGHEST_PRIORITY (omega arith)
      (λ p low high. both_none p (omega arith) (λ k few e. hard k few) (λ v l h. none v (omega arith) (omega arith)))

  line_chosen : (k : ℕ) → IsBest s pc LINES k → ((v : ℕ) → vector_priority (line_vector s.maps k) < vector_priority v → v < 256 → is_wanted soft pc v ≡ false)
      → find (counts s soft pc) (choices s.maps) ≡ Some (choice (Line k) (line_vector s.maps k))
  line_chosen k best none =
      let v = line_vector s.maps k in
      let big : 8 ≤ v = ready_big k best.ready in
      let small : v < 256 = vector_small s.maps k in
      below_some (counts s soft pc) (choices_at s.maps) (HIGHEST_PRIORITY + 1) HIGHEST_PRIORITY (vector_priority v) (choice (Line k) v) (omega arith) (omega arith)
      (first_some (counts s soft pc) (flat_map (lines_with s.maps) (vectors_of (vector_priority v))) (map (choice Soft) (vectors_of (vector_priority v))) (choice (Line k) v) (hard_some k best))
      (λ p low high. both_none p (omega arith)
      (λ j few e. false_from_ne_true (is_ready s pc j) (λ t. let least = best.none_greater j few t in omega arith))
      (λ u l h. none u (omega arith) (omega arith)))

  soft_chosen : (v : ℕ) → IsTop (is_wanted soft pc) 8 256 v → ((k : ℕ) → k < LINES → is_ready s pc k ≡ true → vector_priority (line_vector s.maps k) < vector_priority v)
      → find (counts s soft pc) (choices s.maps) ≡ Some (choice Soft v)
  soft_chosen v top lower =
      let low = top.from in
      let high = top.below in
      let p = vector_priority v in
      below_some (counts s soft pc) (choices_at s.maps) (HIGHEST_PRIORITY + 1) HIGHEST_PRIORITY p (choice Soft v) (omega arith) (omega arith)
      (first_none (counts s soft pc) (flat_map (lines_with s.maps) (vectors_of p)) (map (choice Soft) (vectors_of p))
      (hard_none p (omega arith) (λ k few e. false_from_ne_true (is_ready s pc k) (λ t. let less = lower k few t in omega arith)))
      ∙ soft_some v top)
      (λ q l h. both_none q (omega arith)
      (λ k few e. false_from_ne_true (is_ready s pc k) (λ t. let less = lower k few t in omega arith))
      (λ u m n. top.none_greater u (omega arith) (omega arith)))

  -- ---- the two bests

  preferred_by : (b : Bool) (k v : ℕ) → nat_lt (vector_priority (line_vector s.maps k)) (vector_priority v) ≡ b → IsBest s pc LINES k → IsTop (is_wanted soft pc) 8 256 v
      → Some (if b then choice Soft v else choice (Line k) (line_vector s.maps k)) ≡ find (counts s soft pc) (choices s.maps)
  preferred_by true k v e best top =
      let lt = ltb-true (vector_priority (line_vector s.maps k)) (vector_priority v) e in
      sym (soft_chosen v top (λ j few t. let least = best.none_greater j few t in omega arith))
  preferred_by false k v e best top =
      let le = ltb-false (vector_priority (line_vector s.maps k)) (vector_priority v) e in
      sym (line_chosen k best (λ u greater small. top.none_greater u (omega arith) small))

  preferred_is : (line vector : Option ℕ) → IsBestLine s pc LINES line → IsGreatest (is_wanted soft pc) 8 256 vector → preferred s.maps line vector ≡ find (counts s soft pc) (choices s.maps)
  preferred_is None None hard none = sym (none_chosen hard none)
  preferred_is None (Some v) hard top = sym (soft_chosen v top (λ k few t. absurd (both_ways (is_ready s pc k) (hard k few) t)))
  preferred_is (Some k) None best none = sym (line_chosen k best (λ v greater small. none v (omega arith) small))
  preferred_is (Some k) (Some v) best top = preferred_by (nat_lt (vector_priority (line_vector s.maps k)) (vector_priority v)) k v refl best top

  -- where the interrupt that is never masked is not posted
  pub chosen_by_bests : (line vector : Option ℕ) → s.nmi ≡ false → IsBestLine s pc LINES line → IsGreatest (is_wanted soft pc) 8 256 vector → preferred s.maps line vector ≡ chosen_of s soft pc
  unfolding chosen_of
  chosen_by_bests line vector posted best top =
      preferred_is line vector best top
      ∙ sym (ap (λ (b : Bool). if b then Some (choice Nmi NMI_VECTOR) else find (counts s soft pc) (choices s.maps)) posted)

  -- where it is
  pub chosen_nmi : s.nmi ≡ true → Some (choice Nmi NMI_VECTOR) ≡ chosen_of s soft pc
  unfolding chosen_of
  chosen_nmi posted = sym (ap (λ (b : Bool). if b then Some (choice Nmi NMI_VECTOR) else find (counts s soft pc) (choices s.maps)) posted)

-- without software
pub chosen_by_line : (s : Interrupts) (pc : ℕ) (line : Option ℕ) → s.nmi ≡ false → IsBestLine s pc LINES line → preferred s.maps line None ≡ chosen_of s (λ v. false) pc
chosen_by_line s pc line posted best = chosen_by_bests s (λ v. false) pc line None posted best (λ v low high. refl)

-- ---- nothing is posted that is not masked

closed : (a b k : ℕ) → bit_and a b ≡ 0 → (bit a k && bit b k) ≡ false
closed a b k e =
    let none : min (bit_at a k) (bit_at b k) ≡ 0 = sym (bit_at_and a b k) ∙ ap (λ (n : ℕ). bit_at n k) e ∙ bit_at-zero k in
    both_set (bit_at a k) (bit_at b k) none
  where
    both_set : (x y : ℕ) → min x y ≡ 0 → (x == 1 && y == 1) ≡ false
    both_set x y e = grind (arith, nat_tests)

pub chosen_closed : (s : Interrupts) (pc : ℕ) → s.nmi ≡ false → bit_and (pending_word s) s.mask ≡ 0 → None ≡ chosen_of s (λ v. false) pc
chosen_closed s pc posted e = chosen_by_line s pc None posted (λ k few. ap (λ (b : Bool). b && is_let_in pc (line_vector s.maps k)) (closed (pending_word s) s.mask k e))

pub ruleset choice_rules = (chosen_by_bests, chosen_nmi, chosen_by_line, chosen_closed)
