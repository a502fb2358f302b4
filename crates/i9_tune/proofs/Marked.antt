-- Marks in two states that mark the same of what is read, and where marks are.
use Rattle.std.proofs.Common.{◌≡◌, ℕ, zero, suc, ◌+◌, ◌*◌, ◌<◌, ◌≤◌, Bool, true, false, cond, List, [], ◌∷◌, length, map, refl, sym, ap, ◌∙◌, arith}
use Rattle.std.specs.Prelude.{◌==◌, replicate}
use Rattle.std.specs.List.{list_any, range_with_len}
use Rattle.std.proofs.lemmas.Bool.{cond_both, or_from}
use Rattle.std.proofs.lemmas.Bool.Decides.{nat_tests}
use Rattle.std.proofs.lemmas.List.{length-replicate}
use Rattle.std.proofs.lemmas.List.FromFn.{length-map-range_with_len, get_or-map-range_with_len, fill_by_all}
use Rattle.i9_isa.specs.declared.size.Size.{Size}
use Rattle.i9_isa.specs.declared.size.Size.TheVariants.{Byte, Half, Words}
use Rattle.i9_isa.specs.declared.inst.Operand.{Operand}
use Rattle.i9_isa.specs.declared.inst.Operand.TheVariants.{Reg, Lit, Sfr}
use Rattle.i9_isa.specs.declared.inst.Inst.{Inst}
use Rattle.i9_isa.specs.Resources.{is_in_group, is_in_operand}
use Rattle.i9_isa.specs.Transfers.{byte_count, register_count}
use Rattle.i9_model.specs.Writes.{wrapped}
use Rattle.i9_model.specs.Frames.{has}
use Rattle.i9_model.specs.State.{State}
use Rattle.i9_model.specs.Results.{destination_words}
use Rattle.i9_model.specs.Stale.{picked, marks_for, byte_marks, mark_of, marks_of, word_mark, loaded_marks, stored_marks, registers_of, sources, is_marked, moves_words, result_marks}
use Rattle.i9_tune.specs.Deeds.{AreSameSoft}

-- ---- two functions that are the same where it counts

map_below : {A : Type 0} (f g : ℕ → A) (n : ℕ) → ((k : ℕ) → k < n → f k ≡ g k) → map f (range_with_len 0 n) ≡ map g (range_with_len 0 n)
map_below f g n same =
    fill_by_all g (map f (range_with_len 0 n)) n (f 0) (length-map-range_with_len f 0 n)
    (λ k h. get_or-map-range_with_len f 0 n k k (f 0) h (omega arith) ∙ same k h)

-- one of a group of registers
pub same_in_group : {A : Type 0} (f g : ℕ → A) (r n k : ℕ) → ((j : ℕ) → is_in_group r n j ≡ true → f j ≡ g j) → k < n → cond (k == 0) (f r) (f (r + k)) ≡ cond (k == 0) (g r) (g (r + k))
same_in_group f g r n k same h = rw (same r (grind (arith, nat_tests, h)), same (r + k) (grind (arith, nat_tests, h))) refl

-- the first of bytes from an address on
pub first_same : {A : Type 0} (f g : ℕ → A) (x c : ℕ) → ((k : ℕ) → k < c → f (wrapped (wrapped x + k)) ≡ g (wrapped (wrapped x + k))) → 0 < c → f (wrapped x) ≡ g (wrapped x)
first_same f g x c same h =
    let e : wrapped (wrapped x + 0) ≡ wrapped x = omega arith in
    ap f (sym e) ∙ same 0 h ∙ ap g e

-- ---- the same marks

group_marked : (f g : ℕ → Bool) (r n : ℕ) → ((k : ℕ) → is_in_group r n k ≡ true → f k ≡ g k) → list_any f (range_with_len r n) ≡ list_any g (range_with_len r n)
group_marked f g r zero same = refl
group_marked f g r (suc n) same =
    rw (same r (grind (arith, nat_tests)), group_marked f g (r + 1) n (λ k h. same k (grind (arith, nat_tests, h)))) refl

pub operand_marked : (s t : State) (o : Operand) (n : ℕ) → ((k : ℕ) → is_in_operand o n k ≡ true → s.marks k ≡ t.marks k) → is_marked s (registers_of o n) ≡ is_marked t (registers_of o n)
operand_marked s t (Reg r) n same = group_marked s.marks t.marks r n same
operand_marked s t (Lit l) n same = refl
operand_marked s t (Sfr j) n same = refl

pub operand_marks : (s t : State) (o : Operand) (n : ℕ) → ((k : ℕ) → is_in_operand o n k ≡ true → s.marks k ≡ t.marks k) → (k : ℕ) → k < n → mark_of s o k ≡ mark_of t o k
operand_marks s t (Reg r) n same k h = same_in_group s.marks t.marks r n k same h
operand_marks s t (Lit l) n same k h = refl
operand_marks s t (Sfr j) n same k h = refl

pub marks_same : (s t : State) (o : Operand) (n : ℕ) → ((k : ℕ) → k < n → mark_of s o k ≡ mark_of t o k) → marks_of s o n ≡ marks_of t o n
marks_same s t o n same = map_below (mark_of s o) (mark_of t o) n same

pub stored_same : (size : Size) (s t : State) (o : Operand) → ((k : ℕ) → k < register_count size → mark_of s o k ≡ mark_of t o k) → stored_marks size s o ≡ stored_marks size t o
stored_same Byte s t o same = ap (λ (b : Bool). b ∷ []) (same 0 (omega arith))
stored_same Half s t o same = ap (λ (b : Bool). b ∷ b ∷ []) (same 0 (omega arith))
stored_same (Words n) s t o same = ap byte_marks (marks_same s t o n same)

-- of words and smaller loads, by their soft bytes
word_same : (f g : ℕ → Bool) (a c k : ℕ) → AreSameSoft f g a c → k + 4 ≤ c → word_mark f (wrapped (a + k)) ≡ word_mark g (wrapped (a + k))
word_same f g a c k same few = rw (same k (omega (arith, few)), at 1 (omega arith), at 2 (omega arith), at 3 (omega arith)) refl
  where
    at : (j : ℕ) → j < 4 → f (wrapped (wrapped (a + k) + j)) ≡ g (wrapped (wrapped (a + k) + j))
    at j l =
        let place : wrapped (wrapped (a + k) + j) ≡ wrapped (a + (k + j)) = omega arith in
        ap f place ∙ same (k + j) (omega (arith, few, l)) ∙ ap g (sym place)

pub loaded_same : (size : Size) (f g : ℕ → Bool) (x : ℕ) → AreSameSoft f g (wrapped x) (byte_count size) → loaded_marks size f (wrapped x) ≡ loaded_marks size g (wrapped x)
loaded_same Byte f g x same = rw (first_same f g x 1 same (omega arith)) refl
loaded_same Half f g x same = rw (first_same f g x 2 same (omega arith), same 1 (omega arith)) refl
loaded_same (Words n) f g x same =
    map_below (λ (k : ℕ). word_mark f (wrapped (wrapped x + 4 * k))) (λ (k : ℕ). word_mark g (wrapped (wrapped x + 4 * k))) n
    (λ k h. word_same f g (wrapped x) (4 * n) (4 * k) same (omega (arith, h)))

-- ---- how many they are

pub result_long : (i : Inst) (s : State) → length (result_marks i s) ≡ destination_words i.op
result_long i s =
    cond_both (moves_words i.op) (marks_of s i.a (destination_words i.op)) (replicate (destination_words i.op) (is_marked s (sources i))) (λ bs. length bs ≡ destination_words i.op)
    (λ e. length-map-range_with_len (mark_of s i.a) 0 (destination_words i.op)) (λ e. length-replicate (destination_words i.op) (is_marked s (sources i)))

pub loaded_long : (size : Size) (soft : ℕ → Bool) (a : ℕ) → length (loaded_marks size soft a) ≡ register_count size
loaded_long Byte soft a = refl
loaded_long Half soft a = refl
loaded_long (Words n) soft a = length-map-range_with_len (λ (k : ℕ). word_mark soft (wrapped (a + 4 * k))) 0 n

-- ---- what is beside them

group_unmarked : (r k : ℕ) (bs : List Bool) → is_in_group r (length bs) k ≡ false → has (picked (λ n. n) r bs) k ≡ false
group_unmarked r k [] h = refl
group_unmarked r k (b ∷ bs) h =
    let later = group_unmarked (r + 1) k bs (grind (arith, nat_tests, h)) in
    cond_both b (r ∷ picked (λ n. n) (r + 1) bs) (picked (λ n. n) (r + 1) bs) (λ rs. has rs k ≡ false)
    (λ e. or_from (k == r) (has (picked (λ n. n) (r + 1) bs) k) (grind (arith, nat_tests, h)) later) (λ e. later)

-- a register beside a destination gets no mark
pub marks_beside : (o : Operand) (n k : ℕ) (bs : List Bool) → length bs ≤ n → is_in_operand o n k ≡ false → has (marks_for o bs) k ≡ false
marks_beside (Reg r) n k bs few h = group_unmarked r k bs (grind (arith, nat_tests, few, h))
marks_beside (Lit l) n k bs few h = refl
marks_beside (Sfr j) n k bs few h = refl
