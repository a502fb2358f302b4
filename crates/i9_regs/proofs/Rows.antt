-- The locals, which are planned all at once: each of the three lists has 16 items in place of its first.
use Rattle.std.proofs.Common.{◌≡◌, ℕ, zero, suc, ◌+◌, ◌-◌, ◌*◌, ◌/◌, ◌%◌, ◌^◌, ◌<◌, ◌≤◌, ◌++◌, List, length, take, drop, replicate, Some, refl, sym, ap, ◌∙◌, inl, inr, arith}
use Rattle.std.specs.Prelude.{slice_index}
use Rattle.std.specs.Int.{bit_at}
use Rattle.std.proofs.lemmas.List.{get_or_append_left, get_or-append_right, get_or-take, get_or-drop, get_or-replicate}
use Rattle.std.proofs.lemmas.Bool.{cases_lt}
use Rattle.std.proofs.lemmas.Bool.Decides.{nat_tests}
use Rattle.std.proofs.lemmas.Nat.Bits.{bit_at-zero, bit_at_cat_low, bit_at_cat_high}
use Rattle.i9_model.specs.Late.{cell}
use Rattle.i9_regs.specs.declared.file.File.{File}
use Rattle.i9_regs.specs.File.{cell_in, with_plan, planned_cell, rest_bit}
use Rattle.i9_regs.proofs.Groups.{planned_in, planned_out, rest_in, rest_out}

-- a list with a row in place of its first items
row_in : (row rest : List ℕ) (n r : ℕ) → length row ≡ n → r < n → slice_index (row ++ rest) r ≡ slice_index row r
row_in row rest n r size low = get_or_append_left row rest 0 r (omega (arith, size, low))

row_out : (row xs : List ℕ) (n r : ℕ) → length row ≡ n → n ≤ r → slice_index (row ++ drop n xs) r ≡ slice_index xs r
row_out row xs n r size high = grind (arith, get_or-append_right, get_or-drop)

module _ (old new : File) (locals : List ℕ) (done : ℕ)
    (size : length locals ≡ 16)
    (whole : length old.latest ≡ 33)
    (before : new.before ≡ take 16 old.latest ++ drop 16 old.before)
    (latest_row : new.latest ≡ locals ++ drop 16 old.latest)
    (due : new.due ≡ replicate 16 done ++ drop 16 old.due) where
  taken : length (take 16 old.latest) ≡ 16
  taken = search arith

  filled : length (replicate 16 done) ≡ 16
  filled = refl

  row_low : (r : ℕ) → r < 16 → cell_in new r ≡ with_plan (slice_index locals (r - 0)) done (cell_in old r)
  row_low r low =
      let was : slice_index new.before r ≡ slice_index old.latest r =
      ap (λ (xs : List ℕ). slice_index xs r) before
      ∙ row_in (take 16 old.latest) (drop 16 old.before) 16 r taken low
      ∙ get_or-take 16 old.latest r 0 low in
      let is : slice_index new.latest r ≡ slice_index locals r =
      ap (λ (xs : List ℕ). slice_index xs r) latest_row ∙ row_in locals (drop 16 old.latest) 16 r size low in
      let then : slice_index new.due r ≡ done =
      ap (λ (xs : List ℕ). slice_index xs r) due
      ∙ row_in (replicate 16 done) (drop 16 old.due) 16 r filled low
      ∙ get_or-replicate 16 r done 0 low in
      let place : r ≡ r - 0 = omega arith in
      ap (λ (v : ℕ). cell v (Some (slice_index new.latest r, slice_index new.due r))) was
      ∙ ap (λ (v : ℕ). cell (slice_index old.latest r) (Some (v, slice_index new.due r))) is
      ∙ ap (λ (t : ℕ). cell (slice_index old.latest r) (Some (slice_index locals r, t))) then
      ∙ ap (λ (k : ℕ). with_plan (slice_index locals k) done (cell_in old r)) place

  row_high : (r : ℕ) → 16 ≤ r → cell_in new r ≡ cell_in old r
  row_high r high =
      let was : slice_index new.before r ≡ slice_index old.before r =
      ap (λ (xs : List ℕ). slice_index xs r) before ∙ row_out (take 16 old.latest) old.before 16 r taken high in
      let is : slice_index new.latest r ≡ slice_index old.latest r =
      ap (λ (xs : List ℕ). slice_index xs r) latest_row ∙ row_out locals old.latest 16 r size high in
      let then : slice_index new.due r ≡ slice_index old.due r =
      ap (λ (xs : List ℕ). slice_index xs r) due ∙ row_out (replicate 16 done) old.due 16 r filled high in
      ap (λ (v : ℕ). cell v (Some (slice_index new.latest r, slice_index new.due r))) was
      ∙ ap (λ (v : ℕ). cell (slice_index old.before r) (Some (v, slice_index new.due r))) is
      ∙ ap (λ (t : ℕ). cell (slice_index old.before r) (Some (slice_index old.latest r, t))) then

  sixteen_planned : (r : ℕ) → cell_in new r ≡ planned_cell 0 16 locals done r (cell_in old r)
  sixteen_planned r = grind (arith, cases_lt, row_low, planned_in, nat_tests, row_high, planned_out)

  pub row_planned : (r : ℕ) → cell_in new r ≡ planned_cell 0 (length locals) locals done r (cell_in old r)
  row_planned r = grind (arith, sixteen_planned)

-- no value yet
pub zero_at : (n r : ℕ) → slice_index (replicate n 0) r ≡ 0
zero_at zero r = refl
zero_at (suc n) zero = refl
zero_at (suc n) (suc r) = zero_at n r

-- the set without the locals
row_bit : (writes r : ℕ) → bit_at (writes / 2 ^ 16 * 2 ^ 16 + 0) r ≡ rest_bit 0 16 writes r
row_bit writes r = elim (cases_lt r 16) [
  | inl low ↦
      bit_at_cat_low (writes / 2 ^ 16) 16 0 r low
      ∙ bit_at-zero r
      ∙ sym (rest_in 0 16 writes r (grind (arith, nat_tests, low)))
  | inr high ↦
      let split : writes ≡ writes / 2 ^ 16 * 2 ^ 16 + writes % 2 ^ 16 = omega arith in
      bit_at_cat_high (writes / 2 ^ 16) 16 0 r (omega arith) high
      ∙ sym (bit_at_cat_high (writes / 2 ^ 16) 16 (writes % 2 ^ 16) r (omega arith) high)
      ∙ sym (ap (λ (n : ℕ). bit_at n r) split)
      ∙ sym (rest_out 0 16 writes r (grind (arith, nat_tests, high)))
]

pub row_left : (writes n r : ℕ) → n ≡ 16 → bit_at (writes / 2 ^ 16 * 2 ^ 16) r ≡ rest_bit 0 n writes r
row_left writes n r size =
    let none : writes / 2 ^ 16 * 2 ^ 16 ≡ writes / 2 ^ 16 * 2 ^ 16 + 0 = omega arith in
    ap (λ (m : ℕ). bit_at m r) none ∙ row_bit writes r ∙ ap (λ (k : ℕ). rest_bit 0 k writes r) (sym size)
