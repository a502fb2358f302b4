-- The latest values of the register file as a function.
use Rattle.std.proofs.Common.{◌≡◌, ℕ, zero, suc, ◌+◌, ◌<◌, ◌≤◌, Bool, true, false, cond, List, [], ◌∷◌, ◌++◌, ◌%◌, ◌-◌, nat_lt, slice_index, length, get_or, take, map, add-one, add-zero, zero-add, refl, sym, ap, ◌∙◌, arith}
use Rattle.std.proofs.lemmas.List.{take_all}
use Rattle.std.proofs.lemmas.Bool.{cond-true, cond-false}
use Rattle.std.proofs.lemmas.Bool.Decides.{nat_tests}
use Rattle.i9_isa.specs.declared.resources.TheConstants.{CONDITION_CODE}
use Rattle.i9_model.specs.declared.layout.TheConstants.{FP}
use Rattle.i9_model.specs.declared.need.Cell.{Cell}
use Rattle.i9_model.specs.Late.{latest}
use Rattle.i9_model.specs.Writes.{put, pairs_at, written}
use Rattle.i9_model.specs.State.{frame_sets}
use Rattle.i9_model.proofs.Stored.{written-append}
use Rattle.std.specs.List.{range_with_len}
use Rattle.i9_model.specs.PrintedText.{register_list}
use Rattle.i9_regs.specs.declared.file.File.{File}
use Rattle.i9_regs.specs.File.{cell_in, still}
use Rattle.i9_processor.specs.State.{registers_of, arithmetic_of}

-- ---- cells that are read and set

pub registers_at : (cs : File) (r : ℕ) → r < 32 → registers_of cs r ≡ latest (cell_in cs r)
unfolding registers_of
registers_at cs r low = cond-true (nat_lt r 32) (latest (cell_in cs r)) 0 (grind (arith, nat_tests, low))

-- there are no others
pub registers_past : (cs : File) (r : ℕ) → 32 ≤ r → registers_of cs r ≡ 0
unfolding registers_of
registers_past cs r high = cond-false (nat_lt r 32) (latest (cell_in cs r)) 0 (grind (arith, nat_tests, high))

-- no other cell is set
abbrev Beside : File → File → ℕ → Type 0
Beside olds news r = (k : ℕ) → (k ≡ r → ⊥) → cell_in news k ≡ cell_in olds k

pub registers_of-set : (olds news : File) (r v : ℕ) → r < 32 → cell_in news r ≡ still v
    → ((k : ℕ) → (k ≡ r → ⊥) → cell_in news k ≡ cell_in olds k) → registers_of news ≡ put (registers_of olds) r v
unfolding registers_of
registers_of-set olds news r v h here others = grind arith

pub code_of-set : (olds news : File) (r : ℕ) → r < 32
    → ((k : ℕ) → (k ≡ r → ⊥) → cell_in news k ≡ cell_in olds k)
    → cell_in news CONDITION_CODE ≡ cell_in olds CONDITION_CODE
code_of-set olds news r h others = others CONDITION_CODE (λ same. omega (arith, h, same))

pub registers_beside : (olds news : File) → ((k : ℕ) → (k ≡ CONDITION_CODE → ⊥) → cell_in news k ≡ cell_in olds k)
    → registers_of news ≡ registers_of olds
unfolding registers_of
registers_beside olds news others = grind arith

pub arithmetic_of-set : (news : File) (a : ℕ) → cell_in news CONDITION_CODE ≡ still (a % 8)
    → arithmetic_of (a - a % 8) news ≡ a
unfolding arithmetic_of
arithmetic_of-set news a code = grind arith

no_value : (b : Bool) → ◌≡◌ {A = ℕ} (cond b 0 0) 0
no_value true = refl
no_value false = refl

pub registers_of-zeros : (f : File) → ((r : ℕ) → cell_in f r ≡ still 0)
    → ◌≡◌ {A = ℕ → ℕ} (registers_of f) (λ x. 0)
unfolding registers_of
registers_of-zeros f zeros = λ i x.
    (ap (λ (c : Cell). cond (nat_lt x 32) (latest c) 0) (zeros x) ∙ no_value (nat_lt x 32)) i

-- one more register, and all
pairs_next : (n : ℕ) (xs : List ℕ) (k : ℕ) → k < length xs → pairs_at (λ r. r) n (take (suc k) xs) ≡ pairs_at (λ r. r) n (take k xs) ++ (n + k, get_or xs k 0) ∷ []
pairs_next n [] k h = absurd (omega arith)
pairs_next n (x ∷ xs) zero h = let here : n ≡ n + 0 = omega arith in ap (λ (m : ℕ). (m, x) ∷ []) here
pairs_next n (x ∷ xs) (suc k) h = grind (arith, pairs_next (n + 1) xs k (omega arith))

pub written_more : (f : ℕ → ℕ) (n : ℕ) (xs : List ℕ) (k : ℕ) → k < length xs → written f (pairs_at (λ r. r) n (take (k + 1) xs)) ≡ put (written f (pairs_at (λ r. r) n (take k xs))) (n + k) (get_or xs k 0)
unfolding written
written_more f n xs k h = grind (arith, add-one, pairs_next, written-append)

pub written_all : (f : ℕ → ℕ) (n : ℕ) (xs : List ℕ) (k : ℕ) → length xs ≤ k → written f (pairs_at (λ r. r) n (take k xs)) ≡ written f (pairs_at (λ r. r) n xs)
written_all f n xs k h = ap (λ (ys : List ℕ). written f (pairs_at (λ r. r) n ys)) (take_all k xs h)

-- the locals, and then fp
pub frame_written : (f : ℕ → ℕ) (ws : List ℕ) (fp : ℕ) → written f (frame_sets ws fp) ≡ put (written f (pairs_at (λ r. r) 0 ws)) FP fp
unfolding written
frame_written f ws fp = written-append f (pairs_at (λ r. r) 0 ws) ((FP, fp) ∷ [])

pub ruleset group_rules = (written_more, written_all)

listed : (f : ℕ → ℕ) (a n : ℕ) (xs : List ℕ) → length xs ≡ n → ((k : ℕ) → k < n → f (a + k) ≡ get_or xs k 0) → map f (range_with_len a n) ≡ xs
listed f a zero [] len same = refl
listed f a zero (x ∷ xs) len same = absurd (omega arith)
listed f a (suc n) [] len same = absurd (omega arith)
listed f a (suc n) (x ∷ xs) len same =
    let first : f a ≡ x = ap f (sym (add-zero a)) ∙ same 0 (omega arith) in
    let rest : map f (range_with_len (a + 1) n) ≡ xs = listed f (a + 1) n xs (omega arith) (λ k h.
    let one : a + 1 + k ≡ a + suc k = omega arith in ap f one ∙ same (suc k) (omega arith)) in
    ap (λ (y : ℕ). y ∷ map f (range_with_len (a + 1) n)) first ∙ ap (λ (ys : List ℕ). x ∷ ys) rest

-- 32 registers in order, by any function
pub registers_in_order : (f : ℕ → ℕ) (regs : List ℕ) → length regs ≡ 32 → ((r : ℕ) → r < 32 → slice_index regs r ≡ f r)
    → register_list f ≡ regs
unfolding register_list
registers_in_order f regs len are = listed f 0 32 regs len (λ k h. ap f (zero-add k) ∙ sym (are k h))

-- and by the latest values
pub register_list-of : (cs : File) (regs : List ℕ) → length regs ≡ 32
    → ((r : ℕ) → r < 32 → slice_index regs r ≡ latest (cell_in cs r)) → register_list (registers_of cs) ≡ regs
register_list-of cs regs len are = grind (arith, registers_in_order, registers_at)

pub ruleset register_rules = (registers_at, registers_past)
