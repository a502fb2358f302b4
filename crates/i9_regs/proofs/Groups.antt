-- A group of values that are planned from a register up, one by one, and the resources that are left.
use Rattle.std.proofs.Common.{◌≡◌, ℕ, ◌+◌, ◌-◌, ◌*◌, ◌%◌, ◌^◌, ◌<◌, Bool, true, false, cond, eqb, List, refl, sym, ap, ◌∙◌, arith}
use Rattle.std.specs.Prelude.{bit_and, slice_index}
use Rattle.std.specs.Int.{bit_at, bit_not, w64}
use Rattle.std.proofs.lemmas.Bool.Decides.{nat_tests}
use Rattle.std.proofs.lemmas.Nat.Bits.{bit_at_clear_same, bit_at_clear_other}
use Rattle.i9_model.specs.declared.need.Cell.{Cell}
use Rattle.i9_regs.specs.declared.file.File.{File}
use Rattle.i9_regs.specs.File.{cell_in, in_group, with_plan, planned_cell, rest_bit}

-- ---- in a group or not

pub planned_in : (register n : ℕ) (values : List ℕ) (done r : ℕ) (c : Cell) → in_group register n r ≡ true
    → planned_cell register n values done r c ≡ with_plan (slice_index values (r - register)) done c
planned_in register n values done r c = grind arith

pub planned_out : (register n : ℕ) (values : List ℕ) (done r : ℕ) (c : Cell) → in_group register n r ≡ false
    → planned_cell register n values done r c ≡ c
planned_out register n values done r c = grind arith

pub rest_in : (register n writes r : ℕ) → in_group register n r ≡ true → rest_bit register n writes r ≡ 0
rest_in register n writes r = ap (λ (b : Bool). cond b 0 (bit_at writes r))

pub rest_out : (register n writes r : ℕ) → in_group register n r ≡ false
    → rest_bit register n writes r ≡ bit_at writes r
rest_out register n writes r = ap (λ (b : Bool). cond b 0 (bit_at writes r))

-- ---- no value yet

none_in : (register r : ℕ) → in_group register 0 r ≡ false
none_in register r = grind (arith, nat_tests)

pub none_planned : (register : ℕ) (values : List ℕ) (done r : ℕ) (c : Cell)
    → c ≡ planned_cell register 0 values done r c
none_planned register values done r c = sym (planned_out register 0 values done r c (none_in register r))

pub none_left : (register writes r : ℕ) → bit_at writes r ≡ rest_bit register 0 writes r
none_left register writes r = sym (rest_out register 0 writes r (none_in register r))

-- ---- one value more

here_more : (register k : ℕ) → in_group register (k + 1) (register + k) ≡ true
here_more register k = grind (arith, nat_tests)

here_not : (register k : ℕ) → in_group register k (register + k) ≡ false
here_not register k = grind (arith, nat_tests)

other_more : (register k r : ℕ) → (r ≡ register + k → ⊥) → in_group register (k + 1) r ≡ in_group register k r
other_more register k r apart = grind (arith, nat_tests, apart)

module _ (olds ones news : File) (register k : ℕ) (values : List ℕ) (done : ℕ)
    (are : (r : ℕ) → cell_in ones r ≡ planned_cell register k values done r (cell_in olds r))
    (here : cell_in news (register + k) ≡ with_plan (slice_index values k) done (cell_in ones (register + k)))
    (others : (r : ℕ) → (r ≡ register + k → ⊥) → cell_in news r ≡ cell_in ones r) where
  planned_here : cell_in news (register + k)
      ≡ planned_cell register (k + 1) values done (register + k) (cell_in olds (register + k))
  planned_here = grind (arith, planned_out, here_not, planned_in, here_more)

  planned_there : (r : ℕ) → (r ≡ register + k → ⊥) → cell_in news r
      ≡ planned_cell register (k + 1) values done r (cell_in olds r)
  planned_there r apart = grind (arith, other_more)

  planned_at : (r : ℕ) (b : Bool) → eqb r (register + k) ≡ b → cell_in news r
      ≡ planned_cell register (k + 1) values done r (cell_in olds r)
  planned_at r b t = grind (arith, nat_tests, planned_here, planned_there)

  pub one_planned : (r : ℕ) → cell_in news r ≡ planned_cell register (k + 1) values done r (cell_in olds r)
  one_planned r = planned_at r (eqb r (register + k)) refl

-- the set without a resource
abbrev pub cleared : ℕ → ℕ → ℕ
cleared n r = bit_and n (bit_not w64 (1 * 2 ^ r % 2 ^ 64))

module _ (left writes register k : ℕ) (fits : register + k < 64)
    (are : (r : ℕ) → r < 64 → bit_at left r ≡ rest_bit register k writes r) where
  left_at : (r : ℕ) → r < 64 → (b : Bool) → eqb r (register + k) ≡ b
      → bit_at (cleared left (register + k)) r ≡ rest_bit register (k + 1) writes r
  left_at r low true t =
      let at = register + k in
      let same : r ≡ at = grind (arith, nat_tests, t) in
      ap (bit_at (cleared left at)) same
      ∙ bit_at_clear_same w64 left at fits
      ∙ sym (rest_in register (k + 1) writes at (here_more register k))
      ∙ ap (rest_bit register (k + 1) writes) (sym same)
  left_at r low false t =
      let apart : r ≡ register + k → ⊥ = λ same. grind (arith, nat_tests, t, same) in
      bit_at_clear_other w64 left (register + k) fits r low apart
      ∙ are r low
      ∙ sym (ap (λ (b : Bool). cond b 0 (bit_at writes r)) (other_more register k r apart))

  pub one_left : (r : ℕ) → r < 64 → bit_at (cleared left (register + k)) r ≡ rest_bit register (k + 1) writes r
  one_left r low = left_at r low (eqb r (register + k)) refl
