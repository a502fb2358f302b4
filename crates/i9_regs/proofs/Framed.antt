-- All that a record plans that enters a frame: the frame pointer, and then the locals and what is left.
use Rattle.std.proofs.Common.{◌≡◌, ℕ, ◌+◌, ◌<◌, ◌≤◌, Bool, false, cond, eqb, List, [], ◌∷◌, refl, sym, ap, ◌∙◌, arith}
use Rattle.std.specs.Prelude.{unwrap_or}
use Rattle.std.specs.Int.{bit_at, IsBitSet}
use Rattle.std.proofs.lemmas.Bool.Decides.{nat_tests}
use Rattle.i9_isa.specs.declared.resources.TheConstants.{CONDITION_CODE, FRAME_POINTER}
use Rattle.i9_model.specs.Late.{resources}
use Rattle.i9_model.specs.Writes.{written, pairs_at, last_put}
use Rattle.i9_model.specs.State.{frame_sets}
use Rattle.i9_model.proofs.SetLaws.{set-one, one-set}
use Rattle.i9_model.proofs.Stored.{written-append, written-last}
use Rattle.i9_regs.specs.declared.file.File.{File}
use Rattle.i9_regs.specs.File.{cell_in, in_group, planned_cell, rest_bit, latest_of, issued_over, issued_value, framed_value}
use Rattle.i9_regs.proofs.Groups.{planned_out, rest_in, rest_out}
use Rattle.i9_regs.proofs.Issued.{issued_one, issued_none, issued_same}

abbrev locals_of : List ℕ → List (ℕ × ℕ)
locals_of locals = pairs_at (λ k. k) 0 locals

-- the frame pointer is set behind the locals
frame_last : (f : ℕ → ℕ) (locals : List ℕ) (frame r : ℕ) → written f (frame_sets locals frame) r
    ≡ cond (eqb r FRAME_POINTER) frame (written f (locals_of locals) r)
unfolding written
frame_last f locals frame r = λ i. written-append f (locals_of locals) ((FRAME_POINTER, frame) ∷ []) i r

-- what is not set is as it was
same_at : (f g : ℕ → ℕ) (ps : List (ℕ × ℕ)) (r : ℕ) → f r ≡ g r → written f ps r ≡ written g ps r
same_at f g ps r same = written-last f ps r ∙ ap (unwrap_or (last_put ps r)) same ∙ sym (written-last g ps r)

out_frame : (r : ℕ) → (r ≡ 31 → ⊥) → in_group 31 1 r ≡ false
out_frame r apart = grind (arith, nat_tests, apart)

-- the locals are left
pub left_locals : (left writes n : ℕ) → n ≤ 16 → ((r : ℕ) → r < 64 → bit_at left r ≡ rest_bit 31 1 writes r)
    → ((k : ℕ) → k < 16 → IsBitSet writes k) → (k : ℕ) → k < n → IsBitSet left (0 + k)
left_locals left writes n most bits locals k within = grind (arith, out_frame, rest_out, one-set, set-one)

module _ (olds ones news : File) (writes left done : ℕ) (locals : List ℕ) (frame code : ℕ)
    (frames : IsBitSet writes FRAME_POINTER)
    (group : (r : ℕ) → cell_in ones r ≡ planned_cell 31 1 (frame ∷ []) done r (cell_in olds r))
    (bits : (r : ℕ) → r < 64 → bit_at left r ≡ rest_bit 31 1 writes r)
    (all : (r : ℕ) → r < resources
    → cell_in news r ≡ issued_over left done r (issued_value ones 0 locals code r) (cell_in ones r)) where
  pointer_issued : cell_in news 31 ≡ issued_over writes done 31 frame (cell_in olds 31)
  pointer_issued =
      let none = bits 31 (omega arith) ∙ rest_in 31 1 writes 31 refl in
      all 31 (omega arith)
      ∙ issued_none left done 31 (issued_value ones 0 locals code 31) (cell_in ones 31) none
      ∙ group 31
      ∙ sym (issued_one writes done 31 frame (cell_in olds 31) (set-one writes 31 frames))

  other_issued : (r : ℕ) → r < resources → (r ≡ 31 → ⊥)
      → cell_in news r ≡ issued_over writes done r (issued_value olds 0 locals code r) (cell_in olds r)
  other_issued r few apart = grind (arith, out_frame, planned_out, rest_out, same_at, issued_same)

  abbrev value_by : ℕ → Bool → ℕ
  value_by r b = cond (eqb r CONDITION_CODE) code (cond b frame (written (latest_of olds) (locals_of locals) r))

  by_pointer : (r : ℕ) (b : Bool) → r < resources → eqb r FRAME_POINTER ≡ b
      → cell_in news r ≡ issued_over writes done r (value_by r b) (cell_in olds r)
  by_pointer r b few is = grind (arith, nat_tests, pointer_issued, other_issued)

  pub frame_issued : (r : ℕ) → r < resources
      → cell_in news r ≡ issued_over writes done r (framed_value olds locals frame code r) (cell_in olds r)
  frame_issued r few = grind (arith, frame_last, by_pointer)
