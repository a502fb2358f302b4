-- Writes of words and of bytes: what is laid over keeps below the limit of what is written.
use Rattle.std.proofs.Common.{ℕ, zero, suc, ◌+◌, ◌*◌, ◌^◌, ◌<◌, Bool, true, false, cond, List, [], ◌∷◌, ◌++◌, map, take, arith}
use Rattle.std.specs.Prelude.{not, filter, slice_index, ◌==◌}
use Rattle.std.specs.List.{AllByRecursion, range_with_len}
use Rattle.std.specs.Int.{w16, w32, to_le_bytes, to_be_bytes, from_le_bytes, from_be_bytes}
use Rattle.i9_model.specs.Writes.{put, written, pairs_at, upwards, wrapped}
use Rattle.i9_model.specs.Memory.{Memory, in_port_page, stored, region_of, is_big, half_in, word_in, half_bytes, word_bytes, words_in, with_writes, with_words}
use Rattle.i9_model.specs.Step.{bytes_of_words}

-- ---- lists below a limit

abbrev pub AreBelow : ℕ → List ℕ → Type 0
AreBelow limit vs = AllByRecursion (λ v. v < limit) vs

-- the values of writes
abbrev pub ArePut : ℕ → List (ℕ × ℕ) → Type 0
ArePut limit ps = AllByRecursion (λ p. p.1 < limit) ps

pub all_append : {A : Type 0} (P : A → Type 0) (xs ys : List A) → AllByRecursion P xs → AllByRecursion P ys
    → AllByRecursion P (xs ++ ys)
all_append P [] ys h k = k
all_append P (x ∷ xs) ys h k = (h.0, all_append P xs ys h.1 k)

pub put_pairs : (limit : ℕ) (place : ℕ → ℕ) (n : ℕ) (vs : List ℕ) → AreBelow limit vs → ArePut limit (pairs_at place n vs)
put_pairs limit place n [] h = tt
put_pairs limit place n (v ∷ vs) h = (h.0, put_pairs limit place (n + 1) vs h.1)

pub all_map : {A B : Type 0} (P : B → Type 0) (f : A → B) (xs : List A) → ((x : A) → P (f x))
    → AllByRecursion P (map f xs)
all_map P f [] h = tt
all_map P f (x ∷ xs) h = (h x, all_map P f xs h)

pub below_take : (limit n : ℕ) (vs : List ℕ) → ((k : ℕ) → slice_index vs k < limit) → AreBelow limit (take n vs)
below_take limit zero vs h = tt
below_take limit (suc n) [] h = tt
below_take limit (suc n) (v ∷ vs) h = (h 0, below_take limit n vs (λ k. h (suc k)))

-- ---- writes

pub written_below : (limit : ℕ) (f : ℕ → ℕ) (ps : List (ℕ × ℕ)) → ((x : ℕ) → f x < limit) → ArePut limit ps
    → (x : ℕ) → written f ps x < limit
unfolding written
written_below limit f [] h k x = h x
written_below limit f (p ∷ ps) h k x = written_below limit (put f p.0 p.1) ps (λ y. one (y == p.0) (f y) p.1 (h y) k.0) k.1 x
  where
    one : (b : Bool) (old new : ℕ) → old < limit → new < limit → cond b new old < limit
    one true old new h k = k
    one false old new h k = h

kept_writes : (limit : ℕ) (test : (ℕ × ℕ) → Bool) (ps : List (ℕ × ℕ)) → ArePut limit ps → ArePut limit (filter test ps)
kept_writes limit test [] h = tt
kept_writes limit test (p ∷ ps) h = one (test p) (kept_writes limit test ps h.1)
  where
    one : (b : Bool) → ArePut limit (filter test ps) → ArePut limit (cond b (p ∷ filter test ps) (filter test ps))
    one true k = (h.0, k)
    one false k = k

pub stored_below : (m : ℕ → ℕ) (ps : List (ℕ × ℕ)) → ((x : ℕ) → m x < 256) → ArePut 256 ps → (x : ℕ) → stored m ps x < 256
stored_below m ps h k x =
    let test = λ (p : ℕ × ℕ). not (in_port_page p.0) in
    written_below 256 m (filter test ps) h (kept_writes 256 test ps k) x

-- ---- the bytes of words

four_below : (b : Bool) (v : ℕ) → AreBelow 256 (cond b (to_be_bytes w32 v) (to_le_bytes w32 v))
four_below true v = (omega arith, (omega arith, (omega arith, (omega arith, tt))))
four_below false v = (omega arith, (omega arith, (omega arith, (omega arith, tt))))

pub word_bytes_below : (m : Memory) (a v : ℕ) → AreBelow 256 (word_bytes m a v)
unfolding word_bytes
word_bytes_below m a v = four_below (is_big m (region_of a)) v

two_below : (b : Bool) (v : ℕ) → AreBelow 256 (cond b (to_be_bytes w16 v) (to_le_bytes w16 v))
two_below true v = (omega arith, (omega arith, tt))
two_below false v = (omega arith, (omega arith, tt))

pub half_bytes_below : (m : Memory) (a v : ℕ) → AreBelow 256 (half_bytes m a v)
unfolding half_bytes
half_bytes_below m a v = two_below (is_big m (region_of a)) v

pub words_bytes_below : (m : Memory) (a : ℕ) (ws : List ℕ) → AreBelow 256 (bytes_of_words m a ws)
unfolding bytes_of_words
words_bytes_below m a [] = tt
words_bytes_below m a (w ∷ ws) =
    let next = wrapped (a + 4) in
    all_append (λ v. v < 256) (word_bytes m a w) (bytes_of_words m next ws) (word_bytes_below m a w)
    (words_bytes_below m next ws)

pub with_words_below : (m : Memory) (a : ℕ) (ws : List ℕ) → ((x : ℕ) → m.bytes x < 256) → (x : ℕ) → (with_words m a ws).bytes x < 256
unfolding with_words
with_words_below m a [] h x = h x
with_words_below m a (w ∷ ws) h x =
    with_words_below (with_writes m (upwards a (word_bytes m a w))) (wrapped (a + 4)) ws
    (stored_below m.bytes (upwards a (word_bytes m a w)) h (put_pairs 256 wrapped a (word_bytes m a w) (word_bytes_below m a w))) x

-- ---- words of bytes

half_by : (b : Bool) (p q : ℕ) → p < 256 → q < 256 → cond b (from_be_bytes w16 (p ∷ q ∷ [])) (from_le_bytes w16 (p ∷ q ∷ [])) < 2 ^ 16
half_by b p q h k = grind (arith, h, k)

pub half_below : (m : Memory) (a : ℕ) → ((x : ℕ) → m.bytes x < 256) → half_in m a < 2 ^ 16
unfolding half_in
half_below m a h = half_by (is_big m (region_of a)) (m.bytes a) (m.bytes (wrapped (a + 1))) (h a) (h (wrapped (a + 1)))

word_by : (b : Bool) (p q r s : ℕ) → p < 256 → q < 256 → r < 256 → s < 256
    → cond b (from_be_bytes w32 (p ∷ q ∷ r ∷ s ∷ [])) (from_le_bytes w32 (p ∷ q ∷ r ∷ s ∷ [])) < 2 ^ 32
word_by b p q r s h i j k = grind (arith, h, i, j, k)

pub word_below : (m : Memory) (a : ℕ) → ((x : ℕ) → m.bytes x < 256) → word_in m a < 2 ^ 32
unfolding word_in
word_below m a h =
    let x = wrapped (a + 1) in
    let y = wrapped (a + 2) in
    let z = wrapped (a + 3) in
    word_by (is_big m (region_of a)) (m.bytes a) (m.bytes x) (m.bytes y) (m.bytes z) (h a) (h x) (h y) (h z)

pub words_below : (m : Memory) (a n : ℕ) → ((x : ℕ) → m.bytes x < 256) → AreBelow (2 ^ 32) (words_in m a n)
words_below m a n h =
    let word = λ (k : ℕ). word_in m (wrapped (a + 4 * k)) in
    all_map (λ v. v < 2 ^ 32) word (range_with_len 0 n) (λ k. word_below m (wrapped (a + 4 * k)) h)
