-- Marks in a row as bits of a number.
use Rattle.std.proofs.Common.{◌≡◌, ◌≢◌, subst, ℕ, zero, suc, ◌+◌, ◌*◌, ◌<◌, ◌≤◌, ◌^◌, Bool, true, false, ◌/◌, ◌%◌, None, cond, List, [], ◌∷◌, get_or, map, take, length, replicate, refl, sym, ap, ◌∙◌, arith}
use Rattle.std.specs.Prelude.{◌==◌, ◌&&◌, ◌||◌, not, nat_lt}
use Rattle.std.specs.List.{list_any, range_with_len}
use Rattle.std.specs.Int.{bit_at, from_bool}
use Rattle.std.proofs.lemmas.Bool.Decides.{nat_tests}
use Rattle.std.proofs.lemmas.Nat.{div-add-mod', one_shl}
use Rattle.std.proofs.lemmas.Nat.Bits.{bit_at_cat_low}
use Rattle.i9_isa.specs.declared.inst.Operand.{Operand}
use Rattle.i9_isa.specs.declared.inst.Operand.TheVariants.{Reg}
use Rattle.i9_isa.specs.declared.inst.Inst.{Inst}
use Rattle.i9_isa.specs.declared.size.Size.{Size}
use Rattle.i9_isa.specs.declared.size.Size.TheVariants.{Byte, Half, Words}
use Rattle.i9_isa.specs.Transfers.{byte_count, register_count}
use Rattle.i9_isa.specs.Words.{bit}
use Rattle.i9_model.specs.Writes.{wrapped}
use Rattle.i9_model.specs.Memory.{word_in, words_in}
use Rattle.i9_model.specs.Hazards.{read_hazard}
use Rattle.i9_model.specs.Needs.{set_below}
use Rattle.i9_model.proofs.SetLaws.{set_bits}
use Rattle.i9_model.proofs.FrameLaws.{read_hazard-none}
use Rattle.i9_model.proofs.Readings.{SameBytes, words_same, in_bytes-has}
use Rattle.i9_model.specs.State.{State, Frames}
use Rattle.i9_model.specs.Results.{destination_words}
use Rattle.i9_model.specs.Stale.{legible, registers_of, picked, marks_for, byte_marks, mark_of, marks_of, word_mark, word_marks, loaded_marks, stored_marks, sources, is_marked, moves_words, result_marks}
use Rattle.i9_watch.specs.Bits.{bits_of}
use Rattle.i9_watch.proofs.SetBits.{bit_none}
use Rattle.i9_plan.proofs.MarkBits.{as_bool, or_none, nonzero_any, bit_above}
use Rattle.i9_plan.proofs.MarkUses.{NoMarks, none_marked, any_map, any_of}

pub fewer_bytes : (w : ℕ) (s : State) (o : Operand) (n : ℕ) → n ≤ 4 → bits_of w 16 ≡ byte_marks (marks_of s o 4) → bits_of w (4 * n) ≡ byte_marks (marks_of s o n)
fewer_bytes w s o zero h e = refl
fewer_bytes w s o (suc zero) h e = ap (λ (bs : List Bool). take 4 bs) e
fewer_bytes w s o (suc (suc zero)) h e = ap (λ (bs : List Bool). take 8 bs) e
fewer_bytes w s o (suc (suc (suc zero))) h e = ap (λ (bs : List Bool). take 12 bs) e
fewer_bytes w s o (suc (suc (suc (suc zero)))) h e = e
fewer_bytes w s o (suc (suc (suc (suc (suc n))))) h e = absurd (omega (arith, h))

pub fewer_words : (w : ℕ) (soft : ℕ → Bool) (a n : ℕ) → n ≤ 4 → bits_of w 4 ≡ word_marks soft a 4 → bits_of w n ≡ word_marks soft a n
fewer_words w soft a zero h e = refl
fewer_words w soft a (suc zero) h e = ap (λ (bs : List Bool). take 1 bs) e
fewer_words w soft a (suc (suc zero)) h e = ap (λ (bs : List Bool). take 2 bs) e
fewer_words w soft a (suc (suc (suc zero))) h e = ap (λ (bs : List Bool). take 3 bs) e
fewer_words w soft a (suc (suc (suc (suc zero)))) h e = e
fewer_words w soft a (suc (suc (suc (suc (suc n))))) h e = absurd (omega (arith, h))

-- ---- all alike

map_alike : (f : ℕ → Bool) (b : Bool) (a n : ℕ) → ((k : ℕ) → f k ≡ b) → map f (range_with_len a n) ≡ replicate n b
map_alike f b a zero same = refl
map_alike f b a (suc n) same = ap (λ (x : Bool). x ∷ map f (range_with_len (a + 1) n)) (same a) ∙ ap (λ (xs : List Bool). b ∷ xs) (map_alike f b (a + 1) n same)

pub no_bits : (n : ℕ) → bits_of 0 n ≡ replicate n false
no_bits n = map_alike (bit 0) false 0 n bit_none

-- none of them picks anything
pub none_picked : (place : ℕ → ℕ) (a n : ℕ) → picked place a (replicate n false) ≡ []
none_picked place a zero = refl
none_picked place a (suc n) = none_picked place (a + 1) n

pub clean_picked : (place : ℕ → ℕ) (a n : ℕ) → picked place a (bits_of 0 n) ≡ []
clean_picked place a n = ap (picked place a) (no_bits n) ∙ none_picked place a n

-- a number without bits marks nothing
pub no_values : (a n w : ℕ) → w ≡ 0 → picked (λ (r : ℕ). r) a (bits_of w n) ≡ []
no_values a n w none = ap (λ (x : ℕ). picked (λ (r : ℕ). r) a (bits_of x n)) none ∙ clean_picked (λ (r : ℕ). r) a n

pub no_bytes : (a n w : ℕ) → w ≡ 0 → picked wrapped a (bits_of w n) ≡ []
no_bytes a n w none = ap (λ (x : ℕ). picked wrapped a (bits_of x n)) none ∙ clean_picked wrapped a n

pub ruleset clean_rules = (no_values, no_bytes)

-- ---- of a state without marks

no_mark : (s : State) (o : Operand) (k : ℕ) → NoMarks s → mark_of s o k ≡ false
no_mark s (Reg r) k none = let first = none r in let later = none (r + k) in grind arith
no_mark s _ k none = refl

pub clean_words : (s : State) (o : Operand) (n : ℕ) → NoMarks s → marks_of s o n ≡ replicate n false
clean_words s o n none = map_alike (mark_of s o) false 0 n (λ k. no_mark s o k none)

pub clean_result : (i : Inst) (s : State) → NoMarks s → bits_of 0 (destination_words i.op) ≡ result_marks i s
clean_result i s none = no_bits (destination_words i.op) ∙ by (moves_words i.op)
  where
    by : (m : Bool) → replicate (destination_words i.op) false ≡ cond m (marks_of s i.a (destination_words i.op)) (replicate (destination_words i.op) (is_marked s (sources i)))
    by true = sym (clean_words s i.a (destination_words i.op) none)
    by false = sym (ap (λ (b : Bool). replicate (destination_words i.op) b) (none_marked s (sources i) none))

none_bytes : (n : ℕ) → byte_marks (replicate n false) ≡ replicate (4 * n) false
none_bytes zero = refl
none_bytes (suc n) =
    let more : 4 * suc n ≡ suc (suc (suc (suc (4 * n)))) = omega arith in
    ap (λ (bs : List Bool). false ∷ false ∷ false ∷ false ∷ bs) (none_bytes n) ∙ ap (λ (k : ℕ). replicate k false) (sym more)

pub clean_stored_marks : (size : Size) (s : State) (o : Operand) → NoMarks s → bits_of 0 (byte_count size) ≡ stored_marks size s o
clean_stored_marks Byte s o none = ap (λ (b : Bool). b ∷ []) (sym (no_mark s o 0 none))
clean_stored_marks Half s o none = ap (λ (b : Bool). b ∷ b ∷ []) (sym (no_mark s o 0 none))
clean_stored_marks (Words n) s o none = no_bits (4 * n) ∙ sym (none_bytes n) ∙ ap byte_marks (sym (clean_words s o n none))

-- ---- stale bytes

-- of the bytes of a word some is stale
pub stale_word : (soft : ℕ → Bool) (w a : ℕ) → a < 2 ^ 32 → ((k : ℕ) → bit w k ≡ (nat_lt k 4 && soft (wrapped (a + k)))) → not (w == 0) ≡ word_mark soft a
stale_word soft w a small bits =
    let here : wrapped (a + 0) ≡ a = omega arith in
    nonzero_any w 4 (λ k. soft (wrapped (a + k))) bits ∙ simp (here, or_none)

pub one_bit : (b : Bool) → bits_of (from_bool b) 1 ≡ b ∷ []
one_bit true = refl
one_bit false = refl

-- the marks of the registers that a load sets, of a byte or of a half
pub loaded_byte : (soft : ℕ → Bool) (w a : ℕ) → a < 2 ^ 32 → ((k : ℕ) → bit w k ≡ (nat_lt k 1 && soft (wrapped (a + k)))) → bits_of (from_bool (not (w == 0))) 1 ≡ loaded_marks Byte soft a
loaded_byte soft w a small bits =
    let here : wrapped (a + 0) ≡ a = omega arith in
    one_bit (not (w == 0)) ∙ ap (λ (b : Bool). b ∷ []) (nonzero_any w 1 (λ k. soft (wrapped (a + k))) bits ∙ simp (here, or_none))

pub loaded_half : (soft : ℕ → Bool) (w a : ℕ) → a < 2 ^ 32 → ((k : ℕ) → bit w k ≡ (nat_lt k 2 && soft (wrapped (a + k)))) → bits_of (from_bool (not (w == 0))) 1 ≡ loaded_marks Half soft a
loaded_half soft w a small bits =
    let here : wrapped (a + 0) ≡ a = omega arith in
    one_bit (not (w == 0)) ∙ ap (λ (b : Bool). b ∷ []) (nonzero_any w 2 (λ k. soft (wrapped (a + k))) bits ∙ simp (here, or_none))

-- of words
pub loaded_words : (soft : ℕ → Bool) (w a n : ℕ) (p q r t : Bool) → a < 2 ^ 32 → n ≤ 4 → bits_of w 4 ≡ p ∷ q ∷ r ∷ t ∷ [] → p ≡ word_mark soft a → q ≡ word_mark soft (wrapped (a + 4))
    → r ≡ word_mark soft (wrapped (a + 8)) → t ≡ word_mark soft (wrapped (a + 12)) → bits_of w n ≡ word_marks soft a n
loaded_words soft w a n p q r t small few bits e f g h =
    let here : a ≡ wrapped (a + 0) = omega arith in
    fewer_words w soft a n few (bits ∙ cc)

-- ---- stores

-- the low bits of a number
low_bit : (w n k : ℕ) → k < n → bit (w % 2 ^ n) k ≡ bit w k
low_bit w n k h =
    ap (λ (x : ℕ). x == 1) (sym (bit_at_cat_low (w / 2 ^ n) n (w % 2 ^ n) k h) ∙ ap (λ (x : ℕ). bit_at x k) (div-add-mod' w (2 ^ n)))

map_below : (f g : ℕ → Bool) (a n m : ℕ) → a + n ≤ m → ((k : ℕ) → k < m → f k ≡ g k) → map f (range_with_len a n) ≡ map g (range_with_len a n)
map_below f g a zero m h same = refl
map_below f g a (suc n) m h same =
    let here = same a (omega (arith, h)) in
    let rest = map_below f g (a + 1) n m (omega (arith, h)) same in
    cc

low_bits : (w n : ℕ) → bits_of (w % 2 ^ n) n ≡ bits_of w n
low_bits w n = map_below (bit (w % 2 ^ n)) (bit w) 0 n n (omega arith) (low_bit w n)

-- of so many words
pub stored_words : (s : State) (o : Operand) (w n v : ℕ) → n ≤ 4 → bits_of w 16 ≡ byte_marks (marks_of s o 4) → v ≡ w % 2 ^ (4 * n) → bits_of v (4 * n) ≡ byte_marks (marks_of s o n)
stored_words s o w n v few bits e = ap (λ (x : ℕ). bits_of x (4 * n)) e ∙ low_bits w (4 * n) ∙ fewer_bytes w s o n few bits

-- some byte of a store is marked where some register is
any_bits : (w n : ℕ) → w < 2 ^ n → not (w == 0) ≡ list_any (λ (b : Bool). b) (bits_of w n)
any_bits w n small =
    nonzero_any w n (bit w) (λ k. let above = bit_above w n k small in grind (arith, nat_tests)) ∙ sym (any_map (bit w) (range_with_len 0 n))

any_bytes : (bs : List Bool) → list_any (λ (b : Bool). b) (byte_marks bs) ≡ list_any (λ (b : Bool). b) bs
any_bytes [] = refl
any_bytes (b ∷ bs) = let rest = any_bytes bs in grind arith

first_of : (s : State) (o : Operand) → mark_of s o 0 ≡ is_marked s (registers_of o 1)
first_of s (Reg r) = sym (or_none (s.marks r))
first_of s _ = refl

any_stored : (size : Size) (s : State) (o : Operand) → list_any (λ (b : Bool). b) (stored_marks size s o) ≡ is_marked s (registers_of o (register_count size))
any_stored Byte s o = or_none (mark_of s o 0) ∙ first_of s o
any_stored Half s o = let first = first_of s o in grind arith
any_stored (Words n) s o = any_bytes (marks_of s o n) ∙ any_of s o n

-- as a number
pub stored_any : (size : Size) (s : State) (o : Operand) (w : ℕ) → w < 2 ^ byte_count size → bits_of w (byte_count size) ≡ stored_marks size s o → not (w == 0) ≡ is_marked s (registers_of o (register_count size))
stored_any size s o w small bits = any_bits w (byte_count size) small ∙ ap (λ (bs : List Bool). list_any (λ (b : Bool). b) bs) bits ∙ any_stored size s o

pub stored_some : (size : Size) (s : State) (o : Operand) (w : ℕ) → w < 2 ^ byte_count size → bits_of w (byte_count size) ≡ stored_marks size s o → w ≢ 0 → is_marked s (registers_of o (register_count size)) ≡ true
stored_some size s o w small bits some = let any = stored_any size s o w small bits in grind (arith, nat_tests)

-- of words, as the low bits of a number
pub stored_low : (size : Size) (s : State) (o : Operand) (n w v : ℕ) → byte_count size ≤ 16 → size ≡ Words n → w ≡ v → bits_of v 16 ≡ byte_marks (marks_of s o 4) → bits_of (w % (1 * 2 ^ (4 * n) % 4294967296)) (byte_count size) ≡ stored_marks size s o
stored_low size s o n w v few is same bits =
    let small : n ≤ 4 = (let count = ap byte_count is in omega (arith, few, count)) in
    let shift : 1 * 2 ^ (4 * n) % 4294967296 ≡ 2 ^ (4 * n) = one_shl (4 * n) 32 (omega (arith, small)) in
    let rest : w % (1 * 2 ^ (4 * n) % 4294967296) ≡ v % 2 ^ (4 * n) = ap (λ (x : ℕ). x % (1 * 2 ^ (4 * n) % 4294967296)) same ∙ ap (λ (x : ℕ). v % x) shift in
    let words = stored_words s o v n (w % (1 * 2 ^ (4 * n) % 4294967296)) small bits rest in
    subst (λ (z : Size). bits_of (w % (1 * 2 ^ (4 * n) % 4294967296)) (byte_count z) ≡ stored_marks z s o) (sym is) words

-- ---- frames that are returned to

set_bit : (n k : ℕ) (p : ℕ → Bool) → k < n → bit (set_below n p) k ≡ p k
set_bit n k p h = ap (λ (x : ℕ). x == 1) (set_bits n k p h) ∙ as_bool (p k)

-- the words of a set are its members
pub set_words : (n : ℕ) (p : ℕ → Bool) → bits_of (set_below n p) n ≡ map p (range_with_len 0 n)
set_words n p = map_below (bit (set_below n p)) p 0 n n (omega arith) (λ k h. set_bit n k p h)

-- ---- four marks by their values

weighed : (b : Bool) (n : ℕ) → cond b n 0 ≡ n * from_bool b
weighed b n = grind arith

-- as bits, and as bits of bytes
four_bits : (a b c d : Bool) → bits_of (from_bool a + 2 * from_bool b + 4 * from_bool c + 8 * from_bool d) 4 ≡ a ∷ b ∷ c ∷ d ∷ []
unfolding set_below
four_bits a b c d =
    let set : set_below 4 (λ k. get_or (a ∷ b ∷ c ∷ d ∷ []) k false) ≡ from_bool a + 2 * from_bool b + 4 * from_bool c + 8 * from_bool d
    = omega (arith, weighed a 1, weighed b 2, weighed c 4, weighed d 8) in
    ap (λ (w : ℕ). bits_of w 4) (sym set) ∙ set_words 4 (λ k. get_or (a ∷ b ∷ c ∷ d ∷ []) k false)

sixteen_bits : (a b c d : Bool) → bits_of (15 * (from_bool a + 16 * from_bool b + 256 * from_bool c + 4096 * from_bool d)) 16 ≡ byte_marks (a ∷ b ∷ c ∷ d ∷ [])
unfolding set_below
sixteen_bits a b c d =
    let marks = byte_marks (a ∷ b ∷ c ∷ d ∷ []) in
    let set : set_below 16 (λ k. get_or marks k false) ≡ 15 * (from_bool a + 16 * from_bool b + 256 * from_bool c + 4096 * from_bool d)
    = omega (arith, weighed) in
    ap (λ (w : ℕ). bits_of w 16) (sym set) ∙ set_words 16 (λ k. get_or marks k false)

-- four of them are the list of them
each_of_four : (ms : List Bool) → length ms ≡ 4 → ms ≡ get_or ms 0 false ∷ get_or ms 1 false ∷ get_or ms 2 false ∷ get_or ms 3 false ∷ []
each_of_four (a ∷ b ∷ c ∷ d ∷ []) long = refl
each_of_four _ long = absurd cc

pub four_values : (ms : List Bool) (v w x y : ℕ) → length ms ≡ 4 → v ≡ from_bool (get_or ms 0 false) → w ≡ from_bool (get_or ms 1 false) → x ≡ from_bool (get_or ms 2 false) → y ≡ from_bool (get_or ms 3 false)
    → bits_of (v + 2 * w + 4 * x + 8 * y) 4 ≡ ms
four_values ms v w x y long e f g h = rw (e, f, g, h) (four_bits _ _ _ _ ∙ sym (each_of_four ms long))

pub sixteen_values : (ms : List Bool) (v w x y : ℕ) → length ms ≡ 4 → v ≡ from_bool (get_or ms 0 false) → w ≡ from_bool (get_or ms 1 false) → x ≡ from_bool (get_or ms 2 false) → y ≡ from_bool (get_or ms 3 false)
    → bits_of (15 * (v + 16 * w + 256 * x + 4096 * y)) 16 ≡ byte_marks ms
sixteen_values ms v w x y long e f g h = rw (e, f, g, h) (sixteen_bits _ _ _ _ ∙ ap byte_marks (sym (each_of_four ms long)))

pub ruleset four_rules = (four_values, sixteen_values)

-- ---- hard bytes

hard_bytes : (s : State) (a n : ℕ) → read_hazard s.frames a n ≡ None → SameBytes s.memory (legible s).bytes a n
hard_bytes s a n none = λ k h.
    ap (λ (b : Bool). cond b (s.reading (s.memory.bytes (wrapped (a + k)))) (s.memory.bytes (wrapped (a + k)))) (read_hazard-none s.frames a n (wrapped (a + k)) none (in_bytes-has a n k h))

-- they are legible as they are
pub hard_words : (s : State) (a n : ℕ) → read_hazard s.frames a (4 * n) ≡ None → words_in s.memory a n ≡ words_in (legible s) a n
hard_words s a n none = sym (words_same s.memory (legible s).bytes a (4 * n) n (hard_bytes s a (4 * n) none) (omega arith))

-- so many words that are read where none of their bytes is soft
pub hard_group : (s : State) (a n k : ℕ) (ws : List ℕ) → ws ≡ words_in s.memory a k → n ≡ k → read_hazard s.frames a (4 * n) ≡ None → ws ≡ words_in (legible s) a n
hard_group s a n k ws read same none = read ∙ ap (words_in s.memory a) (sym same) ∙ hard_words s a n none

pub hard_single : (s : State) (a n w : ℕ) → a < 2 ^ 32 → w ≡ word_in s.memory a → n ≡ 1 → read_hazard s.frames a (4 * n) ≡ None → w ∷ [] ≡ words_in (legible s) a n
hard_single s a n w small read one none =
    let here : a ≡ wrapped (a + 0) = omega arith in
    hard_group s a n 1 (w ∷ []) (ap (λ (x : ℕ). x ∷ []) (read ∙ ap (word_in s.memory) here)) one none

pub ruleset hard_rules = (hard_group, hard_single)

no_soft : (f : Frames) (a n k : ℕ) → read_hazard f a n ≡ None → k < n → f.soft (wrapped (a + k)) ≡ false
no_soft f a n k none h = read_hazard-none f a n (wrapped (a + k)) none (in_bytes-has a n k h)

no_soft_first : (f : Frames) (a n : ℕ) → a < 2 ^ 32 → read_hazard f a n ≡ None → 0 < n → f.soft a ≡ false
no_soft_first f a n small none h = let here : a ≡ wrapped (a + 0) = omega arith in ap f.soft here ∙ no_soft f a n 0 none h

no_stale : (f : Frames) (a n k j : ℕ) → read_hazard f a n ≡ None → k + j < n → f.soft (wrapped (wrapped (a + k) + j)) ≡ false
no_stale f a n k j none h = let here : wrapped (wrapped (a + k) + j) ≡ wrapped (a + (k + j)) = omega arith in ap f.soft here ∙ no_soft f a n (k + j) none h

no_word : (f : Frames) (a n k : ℕ) → read_hazard f a n ≡ None → k + 4 ≤ n → word_mark f.soft (wrapped (a + k)) ≡ false
no_word f a n k none h =
    let first = no_soft f a n k none (omega (arith, h)) in
    rw (first, no_stale f a n k 1 none (omega (arith, h)), no_stale f a n k 2 none (omega (arith, h))) (no_stale f a n k 3 none (omega (arith, h)))

none_of_words : (f : Frames) (a n b m : ℕ) → read_hazard f a (4 * n) ≡ None → b + m ≤ n → map (λ (k : ℕ). word_mark f.soft (wrapped (a + 4 * k))) (range_with_len b m) ≡ replicate m false
none_of_words f a n b zero none h = refl
none_of_words f a n b (suc m) none h =
    let here = no_word f a (4 * n) (4 * b) none (omega (arith, h)) in
    let rest = none_of_words f a n (b + 1) m none (omega (arith, h)) in
    cc

-- nothing that is loaded is marked then
pub hard_marks : (size : Size) (f : Frames) (a : ℕ) → a < 2 ^ 32 → read_hazard f a (byte_count size) ≡ None → loaded_marks size f.soft a ≡ replicate (register_count size) false
hard_marks Byte f a small none = ap (λ (b : Bool). b ∷ []) (no_soft_first f a 1 small none (omega arith))
hard_marks Half f a small none =
    ap (λ (b : Bool). (b || f.soft (wrapped (a + 1))) ∷ []) (no_soft_first f a 2 small none (omega arith))
    ∙ ap (λ (b : Bool). b ∷ []) (no_soft f a 2 1 none (omega arith))
hard_marks (Words n) f a small none = none_of_words f a n 0 n none (omega arith)

-- and no destination gets a mark
pub none_given : (o : Operand) (n : ℕ) → marks_for o (replicate n false) ≡ []
none_given (Reg r) n = none_picked (λ (k : ℕ). k) r n
none_given _ n = refl

-- ---- registers

-- there is none past the last
pub past_registers : (s : State) (w m n : ℕ) → bit w ≡ s.marks → w < 2 ^ 32 → m ≡ n → 32 ≤ m → nat_lt m 32 ≡ s.marks n
past_registers s w m n marks small same far =
    let none : nat_lt m 32 ≡ false = grind (arith, nat_tests) in
    none ∙ sym (bit_above w 32 m small far) ∙ ap (λ (f : ℕ → Bool). f m) marks ∙ ap s.marks same
