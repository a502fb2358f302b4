-- An interrupt that is chosen has a vector below 256, and so a priority below 32.
use Rattle.std.proofs.Common.{◌≡◌, ℕ, ◌+◌, ◌-◌, ◌*◌, ◌/◌, ◌%◌, ◌^◌, ◌<◌, Bool, true, false, cond, List, [], ◌∷◌, map, find, Some, Ok, subst, ap, ◌∙◌, arith, bit_and}
use Rattle.std.specs.Prelude.{◌&&◌, ◌==◌, filter, flat_map}
use Rattle.std.specs.List.{AllByRecursion, range_with_len}
use Rattle.std.proofs.lemmas.Nat.{and_mod, and_mask, and_shr}
use Rattle.i9_model.specs.declared.layout.TheConstants.{PC_MASK}
use Rattle.i9_model.specs.declared.interrupts.TheConstants.{LINES, NMI_VECTOR, HIGHEST_PRIORITY, PENDING_SIZE}
use Rattle.i9_model.specs.declared.interrupts.Cause.TheVariants.{Nmi, Line, Soft}
use Rattle.i9_model.specs.declared.interrupts.Chosen.{Chosen}
use Rattle.i9_model.specs.Hazards.{read_hazard}
use Rattle.i9_model.specs.State.{State, Interrupts}
use Rattle.i9_model.specs.Interrupts.{vector_priority, passes, line_vector, below, vectors_of, choice, lines_with, choices_at, choices, is_asked, is_requested, chosen_of, chosen, chosen_soft, interrupt_pc}
use Rattle.i9_model.specs.Before.{choice_in}
use Rattle.i9_model.proofs.CallLaws.{unless_ok}
use Rattle.i9_laws.specs.Kept.{IsWithin}
use Rattle.i9_laws.proofs.StoredWords.{all_append, all_map}

-- ---- lists

abbrev AreSmall : List Chosen → Type 0
AreSmall cs = AllByRecursion (λ c. c.vector < 256) cs

-- numbers below a limit
abbrev AreUnder : ℕ → List ℕ → Type 0
AreUnder n vs = AllByRecursion (λ v. v < n) vs

small_parts : (f : ℕ → List Chosen) (n : ℕ) (vs : List ℕ) → ((v : ℕ) → v < n → AreSmall (f v)) → AreUnder n vs → AreSmall (flat_map f vs)
small_parts f n [] each under = tt
small_parts f n (v ∷ vs) each under =
    all_append (λ c. c.vector < 256) (f v) (flat_map f vs) (each v under.0) (small_parts f n vs each under.1)

vectors_under : (p : ℕ) → p < 32 → AreUnder 256 (vectors_of p)
vectors_under p h = all_map (λ v. v < 256) (λ j. 8 * p + 8 - 1 - j) (range_with_len 0 8) (λ j. omega (arith, h))

-- ---- what may be chosen

soft_small : (vs : List ℕ) → AreUnder 256 vs → AreSmall (map (choice Soft) vs)
soft_small [] under = tt
soft_small (v ∷ vs) under = (under.0, soft_small vs under.1)

priority_small : (maps : List ℕ) (p : ℕ) → p < 32 → AreSmall (choices_at maps p)
priority_small maps p h =
    let vs = vectors_under p h in
    all_append (λ c. c.vector < 256) (flat_map (lines_with maps) (vectors_of p)) (map (choice Soft) (vectors_of p))
    (small_parts (lines_with maps) 256 (vectors_of p) (λ v less.
    let lines = filter (λ k. line_vector maps k == v) (range_with_len 0 LINES) in
    all_map (λ c. c.vector < 256) (λ k. choice (Line k) v) lines (λ k. less)) vs)
    (soft_small (vectors_of p) vs)

choices_small : (maps : List ℕ) → AreSmall (choices maps)
choices_small maps =
    small_parts (choices_at maps) 32 (below (HIGHEST_PRIORITY + 1) HIGHEST_PRIORITY) (priority_small maps)
    (all_map (λ p. p < 32) (λ j. HIGHEST_PRIORITY + 1 - 1 - j) (range_with_len 0 HIGHEST_PRIORITY) (λ j. omega arith))

-- ---- what is chosen

found_small : (test : Chosen → Bool) (xs : List Chosen) (c : Chosen) → AreSmall xs → find test xs ≡ Some c → c.vector < 256
found_small test [] c all is = absurd cc
found_small test (x ∷ xs) c all is = by_test (test x) is (found_small test xs c all.1)
  where
    by_test : (b : Bool) → cond b (Some x) (find test xs) ≡ Some c → (find test xs ≡ Some c → c.vector < 256) → c.vector < 256
    by_test true e later = let same : x ≡ c = cc in subst (λ (y : Chosen). y.vector < 256) same all.0
    by_test false e later = later e

chosen_small : (i : Interrupts) (soft : ℕ → Bool) (pc : ℕ) (c : Chosen) → chosen_of i soft pc ≡ Some c → c.vector < 256
unfolding chosen_of
chosen_small i soft pc c is = by_nmi i.nmi is
  where
    by_nmi : (b : Bool)
        → cond b (Some (choice Nmi NMI_VECTOR)) (find (λ x. is_asked i soft x.cause x.vector && passes pc (vector_priority x.vector)) (choices i.maps)) ≡ Some c
        → c.vector < 256
    by_nmi true e = let same : choice Nmi NMI_VECTOR ≡ c = cc in subst (λ (x : Chosen). x.vector < 256) same (omega arith)
    by_nmi false e =
        found_small (λ (x : Chosen). is_asked i soft x.cause x.vector && passes pc (vector_priority x.vector)) (choices i.maps) c (choices_small i.maps) e

pub vector_small : (s : State) (c : Chosen) → choice_in s ≡ Ok (Some c) → c.vector < 256
unfolding choice_in
vector_small s c is = by_check s.check is
  where
    soft : ℕ → Bool
    soft v = is_requested s.memory s.tables.interrupt_table v

    by_check : (b : Bool)
        → cond b (chosen_soft s.interrupts s.memory s.frames s.tables.interrupt_table s.pc) (Ok (chosen s.interrupts s.pc)) ≡ Ok (Some c)
        → c.vector < 256
    by_check true e =
        let asked = is_requested s.memory s.tables.interrupt_table in
        let found = unless_ok (read_hazard s.frames s.tables.interrupt_table PENDING_SIZE) (chosen_of s.interrupts asked s.pc) (Some c) e in
        chosen_small s.interrupts asked s.pc c found.1
    by_check false e = let found : chosen s.interrupts s.pc ≡ Some c = cc in chosen_small s.interrupts (λ v. false) s.pc c found

-- ---- the process controls of its handler

pub interrupt_kept : (v : ℕ) → v < 256 → IsWithin PC_MASK (interrupt_pc v)
interrupt_kept v h =
    let w = interrupt_pc v in
    let top : w / 2 ^ 16 ≡ v / 8 = omega (arith, h) in
    let rest : w % 2 ^ 16 ≡ 8194 = omega (arith, h) in
    let high : bit_and w PC_MASK / 2 ^ 16 ≡ v / 8 =
    and_shr w PC_MASK 16 ∙ and_mask (w / 2 ^ 16) 5 ∙ omega (arith, top, h) in
    let low : bit_and w PC_MASK % 2 ^ 16 ≡ 8194 =
    and_mod w PC_MASK 16 ∙ ap (λ (n : ℕ). bit_and n (PC_MASK % 2 ^ 16)) rest in
    omega (arith, high, low, top, rest)
