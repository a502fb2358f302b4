-- Registers and the condition code behind an issue, and cells in which nothing is planned.
use Rattle.std.proofs.Common.{◌≡◌, ℕ, ◌+◌, ◌-◌, ◌%◌, ◌<◌, ◌≤◌, Bool, true, false, cond, eqb, List, ◌∷◌, [], length, Some, None, refl, sym, ap, ◌∙◌, inl, inr, arith}
use Rattle.std.specs.Prelude.{unwrap_or, slice_index}
use Rattle.std.specs.Int.{IsBitSet}
use Rattle.std.proofs.lemmas.Bool.{cases_Bool, cases_lt}
use Rattle.std.proofs.lemmas.Bool.Decides.{nat_tests}
use Rattle.i9_isa.specs.declared.resources.TheConstants.{CONDITION_CODE}
use Rattle.i9_model.specs.declared.need.Cell.{Cell}
use Rattle.i9_model.specs.Late.{resources, cell, latest, issued_cell}
use Rattle.i9_model.specs.Writes.{written, pairs_at, last_put}
use Rattle.i9_model.specs.State.{frame_sets}
use Rattle.i9_model.proofs.LastPuts.{frame_beside}
use Rattle.i9_model.proofs.Stored.{written-last}
use Rattle.i9_model.proofs.SetLaws.{set-one, one-set}
use Rattle.i9_regs.specs.declared.file.File.{File}
use Rattle.i9_regs.specs.File.{cell_in, still, latest_of, issued_over}
use Rattle.i9_regs.proofs.Issued.{issued_one, issued_none, amended_one, amended_none, cases_bit, written_in}
use Rattle.i9_processor.specs.State.{registers_of, arithmetic_of}
use Rattle.i9_processor.specs.Issued.{AreCovered, IsCodeCovered, IsStartCovered, resource_of, IsIssued, AreStill}
use Rattle.i9_processor.proofs.RegisterList.{registers_at, registers_past, frame_written}

-- ---- what is set is in the set of resources

-- a resource that is set whatever it was before
put_set : (writes r v : ℕ) (sets : List (ℕ × ℕ)) → AreCovered writes sets → r < resources
    → ((f : ℕ → ℕ) → written f sets r ≡ v) → IsBitSet writes r
put_set writes r v sets covered few is = elim (cases_bit writes r) [
  | inl one ↦ one-set writes r one
  | inr clear ↦
      let f : ℕ → ℕ = λ x. v + 1 in
      let before = ap (λ o. unwrap_or o (v + 1)) (covered r few clear) in
      let kept : written f sets r ≡ v + 1 = written-last f sets r ∙ before in
      absurd (omega (arith, kept, is f))
]

pub group_set : (writes register : ℕ) (values : List ℕ) → register + length values ≤ 32
    → AreCovered writes (pairs_at (λ k. k) register values) → (k : ℕ) → k < length values
    → IsBitSet writes (register + k)
group_set writes register values range covered k within =
    put_set writes (register + k) (slice_index values k) (pairs_at (λ k. k) register values) covered
    (omega (arith, range, within)) (λ f. written_in f register values k within)

pub locals_set : (writes frame : ℕ) (locals : List ℕ) → length locals ≡ 16
    → AreCovered writes (frame_sets locals frame) → (k : ℕ) → k < 16 → IsBitSet writes k
locals_set writes frame locals whole covered k within =
    let low : k < length locals = omega (arith, whole, within) in
    let here : 0 + k ≡ k = omega arith in
    let other : eqb k 31 ≡ false = grind (arith, nat_tests, within) in
    let is : (f : ℕ → ℕ) → written f (frame_sets locals frame) k ≡ slice_index locals k = λ f.
    (λ i. frame_written f locals frame i k)
    ∙ ap (λ (b : Bool). cond b frame (written f (pairs_at (λ k. k) 0 locals) k)) other
    ∙ ap (written f (pairs_at (λ k. k) 0 locals)) (sym here)
    ∙ written_in f 0 locals k low in
    put_set writes k (slice_index locals k) (frame_sets locals frame) covered (omega (arith, within)) is

pub pointer_set : (writes frame : ℕ) (locals : List ℕ) → AreCovered writes (frame_sets locals frame)
    → IsBitSet writes 31
pointer_set writes frame locals covered =
    put_set writes 31 frame (frame_sets locals frame) covered (omega arith)
    (λ f i. frame_written f locals frame i 31)

-- ---- sets are of registers

pub group_past : (register r : ℕ) (values : List ℕ) → register + length values ≤ r
    → last_put (pairs_at (λ k. k) register values) r ≡ None
unfolding last_put
group_past register r [] past = refl
group_past register r (v ∷ vs) past = grind (arith, nat_tests, group_past (register + 1) r vs (omega (arith, past)))

pub frame_past : (locals : List ℕ) (frame r : ℕ) → length locals ≡ 16 → 32 ≤ r
    → last_put (frame_sets locals frame) r ≡ None
frame_past locals frame r whole past = frame_beside locals frame r whole (grind (arith, nat_tests, past))

-- ---- registers, condition code and cells behind an issue

module _ (olds news : File) (writes done flags ac : ℕ) (sets : List (ℕ × ℕ))
    (past : (r : ℕ) → 32 ≤ r → last_put sets r ≡ None)
    (covered : AreCovered writes sets)
    (kept : IsCodeCovered writes (arithmetic_of flags olds) ac)
    (all : (r : ℕ) → r < resources
    → latest_of news r ≡ latest (issued_over writes done r
    (cond (eqb r CONDITION_CODE) (ac % 8) (written (latest_of olds) sets r)) (cell_in olds r))) where
  abbrev value_of : ℕ → ℕ
  value_of r = cond (eqb r CONDITION_CODE) (ac % 8) (written (latest_of olds) sets r)

  register_latest : (r : ℕ) → r < 32 → latest (cell_in news r) ≡ written (latest_of olds) sets r
  register_latest r low =
      let few : r < resources = omega (arith, low) in
      let register : eqb r 32 ≡ false = grind (arith, nat_tests, low) in
      let value : value_of r ≡ written (latest_of olds) sets r =
      ap (λ (b : Bool). cond b (ac % 8) (written (latest_of olds) sets r)) register in
      elim (cases_bit writes r) [
        | inl one ↦ all r few ∙ ap latest (issued_one writes done r (value_of r) (cell_in olds r) one) ∙ value
        | inr clear ↦
            all r few ∙ ap latest (issued_none writes done r (value_of r) (cell_in olds r) clear)
            ∙ ap (λ o. unwrap_or o (latest_of olds r)) (sym (covered r few clear))
            ∙ sym (written-last (latest_of olds) sets r)
      ]

  code_latest : latest (cell_in news 32) % 8 ≡ ac % 8
  unfolding arithmetic_of
  code_latest =
      let few : 32 < resources = omega arith in
      elim (cases_bit writes 32) [
        | inl one ↦
            let is = all 32 few ∙ ap latest (issued_one writes done 32 (ac % 8) (cell_in olds 32) one) in
            omega (arith, is)
        | inr clear ↦
            let is = all 32 few ∙ ap latest (issued_none writes done 32 (ac % 8) (cell_in olds 32) clear) in
            omega (arith, is, kept clear)
      ]

  register_issued : (r : ℕ) → registers_of news r ≡ written (registers_of olds) sets r
  register_issued r = elim (cases_lt r 32) [
    | inl low ↦
        registers_at news r low
        ∙ register_latest r low
        ∙ written-last (latest_of olds) sets r
        ∙ ap (unwrap_or (last_put sets r)) (sym (registers_at olds r low))
        ∙ sym (written-last (registers_of olds) sets r)
    | inr high ↦
        registers_past news r high
        ∙ sym (registers_past olds r high)
        ∙ ap (λ o. unwrap_or o (registers_of olds r)) (sym (past r high))
        ∙ sym (written-last (registers_of olds) sets r)
  ]

  registers_issued : registers_of news ≡ written (registers_of olds) sets
  registers_issued = λ i r. register_issued r i

  arithmetic_issued : arithmetic_of (ac - ac % 8) news ≡ ac
  unfolding arithmetic_of
  arithmetic_issued = let code = code_latest in omega (arith, code)

  value_is : (r : ℕ) (b : Bool) → r < resources → eqb r CONDITION_CODE ≡ b
      → cond b (ac % 8) (written (latest_of olds) sets r)
      ≡ cond b (arithmetic_of (ac - ac % 8) news % 8) (registers_of news r)
  value_is r true few is = ap (λ (n : ℕ). n % 8) (sym arithmetic_issued)
  value_is r false few is =
      let low : r < 32 = grind (arith, nat_tests, few, is) in
      sym (registers_at news r low ∙ register_latest r low)

  cells_issued : ((r : ℕ) → r < resources → cell_in news r ≡ issued_over writes done r (value_of r) (cell_in olds r))
      → IsIssued writes done (ac - ac % 8) olds news
  cells_issued cells = record {
    each = λ r few.
        cells r few
        ∙ ap (λ (v : ℕ). issued_over writes done r v (cell_in olds r)) (value_is r (eqb r CONDITION_CODE) few refl);
  }

  -- over what the same record has planned
  amended_each : (firsts : File) (flags0 r : ℕ) → IsIssued writes done flags0 firsts olds → r < resources
      → cell_in news r ≡ issued_cell writes done r (value_of r) (cell_in olds r)
      → cell_in news r ≡ issued_over writes done r (value_of r) (cell_in firsts r)
  amended_each firsts flags0 r first few is =
      let v0 = resource_of flags0 olds r in
      elim (cases_bit writes r) [
        | inl one ↦
            is
            ∙ amended_one writes done r (value_of r) (cell_in olds r) one
            ∙ ap (λ (c : Cell). cell c.value (Some (value_of r, done)))
            (first.each r few ∙ issued_one writes done r v0 (cell_in firsts r) one)
            ∙ sym (issued_one writes done r (value_of r) (cell_in firsts r) one)
        | inr none ↦
            is
            ∙ amended_none writes done r (value_of r) (cell_in olds r) none
            ∙ first.each r few
            ∙ issued_none writes done r v0 (cell_in firsts r) none
            ∙ sym (issued_none writes done r (value_of r) (cell_in firsts r) none)
      ]

  cells_amended : (firsts : File) (flags0 : ℕ) → IsIssued writes done flags0 firsts olds
      → ((r : ℕ) → r < resources → cell_in news r ≡ issued_cell writes done r (value_of r) (cell_in olds r))
      → IsIssued writes done (ac - ac % 8) firsts news
  cells_amended firsts flags0 first cells = record {
    each = λ r few.
        amended_each firsts flags0 r first few (cells r few)
        ∙ ap (λ (v : ℕ). issued_over writes done r v (cell_in firsts r)) (value_is r (eqb r CONDITION_CODE) few refl);
  }

-- the latest values are the same over what was planned before
latest_amended : (writes done r v : ℕ) (c d : Cell) → d ≡ issued_cell writes done r v c
    → latest d ≡ latest (issued_over writes done r v c)
latest_amended writes done r v c d is = grind arith

-- what is left behind cells that were planned, anew or over what the same record had planned
pub record Leaves (olds news : File) (ac : ℕ) (sets : List (ℕ × ℕ)) (Issued : Type 0) : Type 0 where
  pub registers : registers_of news ≡ written (registers_of olds) sets
  pub controls : arithmetic_of (ac - ac % 8) news ≡ ac
  pub issued : Issued

module _ (olds news : File) (writes done flags ac : ℕ) (sets : List (ℕ × ℕ))
    (past : (r : ℕ) → 32 ≤ r → last_put sets r ≡ None)
    (covered : AreCovered writes sets)
    (kept : IsCodeCovered writes (arithmetic_of flags olds) ac) where
  abbrev planned : ℕ → ℕ
  planned r = cond (eqb r CONDITION_CODE) (ac % 8) (written (latest_of olds) sets r)

  pub issued_by : ((r : ℕ) → r < resources → cell_in news r ≡ issued_over writes done r (planned r) (cell_in olds r))
      → Leaves olds news ac sets (IsIssued writes done (ac - ac % 8) olds news)
  issued_by cells =
      let all = λ (r : ℕ) (few : r < resources). ap latest (cells r few) in
      record {
        registers = registers_issued olds news writes done flags ac sets past covered kept all;
        controls = arithmetic_issued olds news writes done flags ac sets past covered kept all;
        issued = cells_issued olds news writes done flags ac sets past covered kept all cells;
      }

  pub amended_by : (flags0 : ℕ)
      → ((r : ℕ) → r < resources → cell_in news r ≡ issued_cell writes done r (planned r) (cell_in olds r))
      → Leaves olds news ac sets ((firsts : File) → IsIssued writes done flags0 firsts olds
      → IsIssued writes done (ac - ac % 8) firsts news)
  amended_by flags0 cells =
      let all = λ (r : ℕ) (few : r < resources). latest_amended writes done r (planned r) (cell_in olds r) (cell_in news r) (cells r few) in
      record {
        registers = registers_issued olds news writes done flags ac sets past covered kept all;
        controls = arithmetic_issued olds news writes done flags ac sets past covered kept all;
        issued = λ firsts first. cells_amended olds news writes done flags ac sets past covered kept all firsts flags0 first cells;
      }

-- ---- the first frame

pub start_covered : (writes frame : ℕ) (locals : List ℕ) → length locals ≡ 16 → IsStartCovered writes
    → AreCovered writes (frame_sets locals frame)
start_covered writes frame locals whole covered r few clear =
    grind (arith, cases_Bool, set-one, nat_tests, frame_beside)

pub code_covered : (writes old new : ℕ) → IsStartCovered writes → IsCodeCovered writes old new
code_covered writes old new covered clear =
    let one = set-one writes 32 (covered 32 (omega arith) refl) in
    absurd (omega (arith, one, clear))

-- ---- each cell shows its value at every turn

pub new_still : (cells : File) → ((r : ℕ) → cell_in cells r ≡ still 0) → AreStill cells
new_still cells is r few = is r ∙ ap still (sym (ap latest (is r)))

-- each cell then has its resource, where the condition code has three bits
pub cell_resource : (flags ac : ℕ) (cells : File) → AreStill cells
    → cell_in cells CONDITION_CODE ≡ still (ac % 8) → arithmetic_of flags cells ≡ ac
    → (r : ℕ) → r < resources → cell_in cells r ≡ still (resource_of flags cells r)
cell_resource flags ac cells are code is r few = grind (arith, nat_tests, registers_at)
