-- All that a record plans in the resources of a set.
use Rattle.std.proofs.Common.{Some, ◌⊎◌, ◌≡◌, ℕ, zero, suc, ◌+◌, ◌-◌, ◌*◌, ◌/◌, ◌%◌, ◌^◌, ◌<◌, ◌≤◌, Bool, true, false, cond, eqb, List, [], ◌∷◌, length, refl, sym, ap, ◌∙◌, inl, inr, arith}
use Rattle.std.specs.Prelude.{bit_and, slice_index}
use Rattle.std.specs.Int.{bit_at, IsBitSet, w64}
use Rattle.std.proofs.lemmas.Bool.{cases_Bool, cases_lt}
use Rattle.std.proofs.lemmas.Bool.Decides.{nat_tests}
use Rattle.std.proofs.lemmas.Nat.Bits.{shr_and_one, bit_at-lt, bit_at-zero, bit_at_cat_low, bit_at_or, bit_at_set_other}
use Rattle.i9_model.specs.declared.need.Cell.{Cell}
use Rattle.i9_model.specs.Late.{resources, cell, latest, issued_cell}
use Rattle.i9_model.specs.Writes.{put, written, pairs_at}
use Rattle.i9_model.proofs.SetLaws.{set-one}
use Rattle.i9_regs.specs.declared.file.File.{File}
use Rattle.i9_regs.specs.File.{cell_in, in_group, with_plan, planned_cell, rest_bit, latest_of, issued_over, issued_value}
use Rattle.i9_regs.proofs.Groups.{planned_in, planned_out, rest_in, rest_out}

-- ---- by the bit of a resource

pub issued_one : (writes done r v : ℕ) (c : Cell) → bit_at writes r ≡ 1
    → issued_over writes done r v c ≡ with_plan v done c
issued_one writes done r v c = ap (λ (n : ℕ). cond (eqb n 1) (with_plan v done c) c)

pub issued_none : (writes done r v : ℕ) (c : Cell) → bit_at writes r ≡ 0 → issued_over writes done r v c ≡ c
issued_none writes done r v c = ap (λ (n : ℕ). cond (eqb n 1) (with_plan v done c) c)

pub issued_same : (left writes done r v : ℕ) (c : Cell) → bit_at left r ≡ bit_at writes r
    → issued_over left done r v c ≡ issued_over writes done r v c
issued_same left writes done r v c = ap (λ (n : ℕ). cond (eqb n 1) (with_plan v done c) c)

pub amended_one : (writes done r v : ℕ) (c : Cell) → bit_at writes r ≡ 1
    → issued_cell writes done r v c ≡ cell c.value (Some (v, done))
amended_one writes done r v c = ap (λ (n : ℕ). cond (eqb n 1) (cell c.value (Some (v, done))) c)

pub amended_none : (writes done r v : ℕ) (c : Cell) → bit_at writes r ≡ 0 → issued_cell writes done r v c ≡ c
amended_none writes done r v c = ap (λ (n : ℕ). cond (eqb n 1) (cell c.value (Some (v, done))) c)

-- a bit that is not set is 0
pub cases_bit : (n k : ℕ) → (bit_at n k ≡ 1) ⊎ (bit_at n k ≡ 0)
cases_bit n k = grind (arith, cases_lt, bit_at-lt)

-- where each has the value before that it had, what is planned is planned over what was
module _ (olds mids news : File) (writes done : ℕ) (value : ℕ → ℕ)
    (all : (r : ℕ) → r < resources → cell_in mids r ≡ issued_over writes done r (value r) (cell_in olds r))
    (keeps : (r : ℕ) → (cell_in news r).value ≡ (cell_in olds r).value)
    (plans : (r : ℕ) → (cell_in news r).plan ≡ (cell_in mids r).plan) where
  pub amended : (r : ℕ) → r < resources → cell_in news r ≡ issued_cell writes done r (value r) (cell_in olds r)
  amended r few = grind (arith, cases_bit, issued_one, amended_one, issued_none, amended_none)

-- no register is left
low_clear : (n r : ℕ) → n % 2 ^ 32 ≡ 0 → r < 32 → bit_at n r ≡ 0
low_clear n r none low =
    let split : n ≡ n / 2 ^ 32 * 2 ^ 32 + 0 = omega (arith, none) in
    ap (λ (m : ℕ). bit_at m r) split ∙ bit_at_cat_low (n / 2 ^ 32) 32 0 r low ∙ bit_at-zero r

pub none_issued : (left done r v : ℕ) (c : Cell) → left % 2 ^ 32 ≡ 0 → r < 32 → c ≡ issued_over left done r v c
none_issued left done r v c none low = sym (issued_none left done r v c (low_clear left r none low))

pub ruleset low_rules = (none_issued)

-- a bit, as the code asks for it
pub set_bit : (n r : ℕ) → bit_and (n / 2 ^ r) 1 ≡ 1 → bit_at n r ≡ 1
set_bit n r one = sym (shr_and_one n r) ∙ one

pub clear_bit : (n r : ℕ) → (bit_and (n / 2 ^ r) 1 ≡ 1 → ⊥) → bit_at n r ≡ 0
clear_bit n r none = grind (arith, bit_at-lt, shr_and_one)

-- one resource more keeps its latest value, where it is in the set
module _ (olds ones news : File) (left done r : ℕ)
    (below : (k : ℕ) → k < r → cell_in ones k ≡ issued_over left done k (latest_of olds k) (cell_in olds k))
    (above : (k : ℕ) → r ≤ k → cell_in ones k ≡ cell_in olds k)
    (here : cell_in news r ≡ issued_over left done r (latest_of ones r) (cell_in ones r))
    (others : (k : ℕ) → (k ≡ r → ⊥) → cell_in news k ≡ cell_in ones k) where
  below_at : (k : ℕ) (b : Bool) → eqb k r ≡ b → k < r + 1
      → cell_in news k ≡ issued_over left done k (latest_of olds k) (cell_in olds k)
  below_at k b is low = grind (arith, nat_tests)

  pub below_more : (k : ℕ) → k < r + 1
      → cell_in news k ≡ issued_over left done k (latest_of olds k) (cell_in olds k)
  below_more k low = below_at k (eqb k r) refl low

  pub above_more : (k : ℕ) → r + 1 ≤ k → cell_in news k ≡ cell_in olds k
  above_more k high = others k (λ same. omega (arith, high, same)) ∙ above k (omega (arith, high))

-- ---- the values of a group

abbrev group_of : ℕ → List ℕ → List (ℕ × ℕ)
group_of register values = pairs_at (λ k. k) register values

pub written_out : (f : ℕ → ℕ) (n : ℕ) (xs : List ℕ) (r : ℕ) → in_group n (length xs) r ≡ false
    → written f (group_of n xs) r ≡ f r
unfolding written
written_out f n [] r out = refl
written_out f n (x ∷ xs) r out =
    let other : eqb r n ≡ false = grind (arith, nat_tests, out) in
    let later : in_group (n + 1) (length xs) r ≡ false = grind (arith, nat_tests, out) in
    written_out (put f n x) (n + 1) xs r later ∙ ap (λ (b : Bool). cond b x (f r)) other

pub written_in : (f : ℕ → ℕ) (n : ℕ) (xs : List ℕ) (k : ℕ) → k < length xs
    → written f (group_of n xs) (n + k) ≡ slice_index xs k
unfolding written
written_in f n [] k h = absurd (omega (arith, h))
written_in f n (x ∷ xs) zero h =
    let here : n + 0 ≡ n = omega arith in
    let same : eqb n n ≡ true = grind (arith, nat_tests) in
    let later : in_group (n + 1) (length xs) n ≡ false = grind (arith, nat_tests) in
    ap (written (put f n x) (group_of (n + 1) xs)) here
    ∙ written_out (put f n x) (n + 1) xs n later
    ∙ ap (λ (b : Bool). cond b x (f n)) same
written_in f n (x ∷ xs) (suc k) h =
    let place : n + suc k ≡ n + 1 + k = omega arith in
    ap (written (put f n x) (group_of (n + 1) xs)) place
    ∙ written_in (put f n x) (n + 1) xs k (omega (arith, h))

-- ---- the group, what is left, and the condition code

module _ (olds ones twos news : File) (writes left done register : ℕ) (values : List ℕ) (code : ℕ)
    (range : register + length values ≤ 32)
    (set : (k : ℕ) → k < length values → IsBitSet writes (register + k))
    (group : (r : ℕ) → cell_in ones r ≡ planned_cell register (length values) values done r (cell_in olds r))
    (bits : (r : ℕ) → r < 64 → bit_at left r ≡ rest_bit register (length values) writes r)
    (rest : (r : ℕ) → r < 32
    → cell_in twos r ≡ issued_over left done r (latest (cell_in ones r)) (cell_in ones r))
    (rest_code : cell_in twos 32 ≡ cell_in ones 32)
    (last_code : cell_in news 32 ≡ issued_over writes done 32 code (cell_in twos 32))
    (last : (r : ℕ) → r < 32 → cell_in news r ≡ cell_in twos r) where
  abbrev new_value : ℕ → ℕ
  new_value = written (latest_of olds) (group_of register values)

  -- the condition code is in no group
  code_issued : cell_in news 32 ≡ issued_over writes done 32 code (cell_in olds 32)
  code_issued = grind (arith, nat_tests, planned_out)

  in_issued : (r : ℕ) → r < 32 → in_group register (length values) r ≡ true
      → cell_in news r ≡ issued_over writes done r (new_value r) (cell_in olds r)
  in_issued r low here =
      let k = r - register in
      let old = cell_in olds r in
      let place : r ≡ register + k = grind (arith, nat_tests, here) in
      let within : k < length values = grind (arith, nat_tests, here) in
      let one = ap (bit_at writes) place ∙ set-one writes (register + k) (set k within) in
      let none = bits r (omega (arith, low)) ∙ rest_in register (length values) writes r here in
      let value = ap (written (latest_of olds) (group_of register values)) place
      ∙ written_in (latest_of olds) register values k within in
      last r low
      ∙ rest r low
      ∙ issued_none left done r (latest (cell_in ones r)) (cell_in ones r) none
      ∙ group r
      ∙ planned_in register (length values) values done r old here
      ∙ ap (λ (v : ℕ). with_plan v done old) (sym value)
      ∙ sym (issued_one writes done r (written (latest_of olds) (group_of register values) r) old one)

  out_issued : (r : ℕ) → r < 32 → in_group register (length values) r ≡ false
      → cell_in news r ≡ issued_over writes done r (new_value r) (cell_in olds r)
  out_issued r low out = grind (arith, rest_out, planned_out, written_out, issued_same)

  register_issued : (r : ℕ) → r < 32
      → cell_in news r ≡ issued_over writes done r (new_value r) (cell_in olds r)
  register_issued r low = elim (cases_Bool (in_group register (length values) r)) [
    | inl here ↦ in_issued r low here
    | inr out ↦ out_issued r low out
  ]

  by_code : (r : ℕ) (b : Bool) → r < 33 → eqb r 32 ≡ b
      → cell_in news r ≡ issued_over writes done r (cond b code (new_value r)) (cell_in olds r)
  by_code r b few is = grind (arith, nat_tests, code_issued, register_issued)

  pub all_issued : (r : ℕ) → r < resources
      → cell_in news r ≡ issued_over writes done r (issued_value olds register values code r) (cell_in olds r)
  all_issued r few = by_code r (eqb r 32) few refl

-- ---- one register alone

other_bit : (register r : ℕ) → register < 64 → r < 64 → (r ≡ register → ⊥) → bit_at (1 * 2 ^ register % 2 ^ 64) r ≡ 0
other_bit register r low few apart =
    let other = bit_at_set_other w64 0 register low r apart in
    let either = bit_at_or 0 (1 * 2 ^ register % 2 ^ 64) r in
    let none = bit_at-zero r in
    omega (arith, other, either, none)

module _ (olds news : File) (writes left done register : ℕ) (values : List ℕ) (code : ℕ)
    (range : register + length values ≤ 32)
    (one : length values ≡ 1)
    (lone : writes ≡ 1 * 2 ^ register % 2 ^ 64)
    (set : (k : ℕ) → k < length values → IsBitSet writes (register + k))
    (group : (r : ℕ) → cell_in news r ≡ planned_cell register (length values) values done r (cell_in olds r))
    (bits : (r : ℕ) → r < 64 → bit_at left r ≡ rest_bit register (length values) writes r) where
  beside : (r : ℕ) → r < 64 → (r ≡ register → ⊥) → bit_at writes r ≡ 0
  beside r few apart = grind (arith, other_bit)

  none_left : (r : ℕ) → r < 32 → bit_at left r ≡ 0
  none_left r low =
      bits r (omega (arith, low))
      ∙ elim (cases_Bool (in_group register (length values) r)) [
        | inl here ↦ rest_in register (length values) writes r here
        | inr out ↦
            let apart : r ≡ register → ⊥ = λ same. grind (arith, nat_tests, out, one, same) in
            rest_out register (length values) writes r out ∙ beside r (omega (arith, low)) apart
      ]

  pub lone_issued : (r : ℕ) → r < resources
      → cell_in news r ≡ issued_over writes done r (issued_value olds register values code r) (cell_in olds r)
  lone_issued =
      let no_code : bit_at writes 32 ≡ 0 = beside 32 (omega arith) (λ same. omega (arith, range, one, same)) in
      all_issued olds news news news writes left done register values code range set group bits
      (λ r low. sym (issued_none left done r (latest (cell_in news r)) (cell_in news r) (none_left r low)))
      refl
      (sym (issued_none writes done 32 code (cell_in news 32) no_code))
      (λ r low. refl)

-- ---- no register

module _ (olds news : File) (writes done register : ℕ) (values : List ℕ) (code : ℕ)
    (none : length values ≡ 0)
    (low : register ≤ 32)
    (clear : writes % 2 ^ 32 ≡ 0)
    (last_code : cell_in news 32 ≡ issued_over writes done 32 code (cell_in olds 32))
    (last : (r : ℕ) → r < 32 → cell_in news r ≡ cell_in olds r) where
  out : (r : ℕ) → in_group register (length values) r ≡ false
  out r = grind (arith, nat_tests, none)

  pub code_issued_alone : (r : ℕ) → r < resources
      → cell_in news r ≡ issued_over writes done r (issued_value olds register values code r) (cell_in olds r)
  code_issued_alone =
      all_issued olds olds olds news writes writes done register values code (omega (arith, none, low))
      (λ k h. absurd (omega (arith, none, h)))
      (λ r. sym (planned_out register (length values) values done r (cell_in olds r) (out r)))
      (λ r h. sym (rest_out register (length values) writes r (out r)))
      (λ r h. none_issued writes done r (latest (cell_in olds r)) (cell_in olds r) clear h)
      refl last_code last
