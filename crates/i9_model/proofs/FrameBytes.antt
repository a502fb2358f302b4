-- A byte of a frame that lies over memory, as a byte of one of its words.
use Rattle.std.proofs.Common.{◌≡◌, ℕ, zero, suc, ◌+◌, ◌-◌, ◌*◌, ◌<◌, Bool, false, cond, List, [], ◌∷◌, length, get_or, refl, sym, ap, ◌∙◌, inl, arith}
use Rattle.std.specs.Prelude.{not}
use Rattle.std.proofs.lemmas.List.{get_or_append_left, get_or-append_right}
use Rattle.std.proofs.lemmas.Bool.{or_from, eq-eqb, ne_eqb}
use Rattle.i9_model.specs.declared.layout.TheConstants.{LOCALS}
use Rattle.i9_model.specs.Writes.{address_count, wrapped, written, upwards}
use Rattle.i9_model.specs.Memory.{Memory, in_port_page, stored, word_bytes, with_words}
use Rattle.i9_model.specs.Frames.{in_bytes}
use Rattle.i9_model.specs.Step.{bytes_of_words}
use Rattle.i9_model.proofs.Runs.{is_put-upwards}
use Rattle.i9_model.proofs.Stored.{stored-cons}
use Rattle.i9_model.proofs.Lengths.{four_bytes, frame_long}
use Rattle.i9_model.proofs.Storing.{stored_kept, words_as_bytes}

-- ---- a byte of several that were stored

-- none of the later places is the first one
not_later : (a n j : ℕ) → n + j < address_count → in_bytes (a + 1 + j) n (wrapped a) ≡ false
unfolding in_bytes
not_later a zero j h = refl
not_later a (suc n) j h = grind (arith, or_from, ne_eqb, not_later a n (j + 1) (omega arith))

one_put : (g : ℕ → ℕ) (y b : ℕ) → in_port_page y ≡ false → stored g ((y, b) ∷ []) y ≡ b
unfolding written
one_put g y b p = ap (λ (q : Bool). written g (cond (not q) ((y, b) ∷ []) []) y) p ∙ ap (λ (q : Bool). cond q b (g y)) (eq-eqb y y refl)

pub stored_at : (g : ℕ → ℕ) (a : ℕ) (bs : List ℕ) (k : ℕ) → k < length bs → length bs < address_count → in_port_page (wrapped (a + k)) ≡ false → stored g (upwards a bs) (wrapped (a + k)) ≡ get_or bs k 0
unfolding written
stored_at g a [] k h few port = absurd (omega arith)
stored_at g a (b ∷ bs) zero h few port =
    let p : ℕ × ℕ = (wrapped a, b) in
    let here : wrapped (a + 0) ≡ wrapped a = omega arith in
    let none : a + 1 ≡ a + 1 + 0 = omega arith in
    cc (
      stored-cons g p (upwards (a + 1) bs),
      stored_kept (stored g (p ∷ [])) (upwards (a + 1) bs) (wrapped a) (inl (is_put-upwards (a + 1) bs (wrapped a) ∙ ap (λ (c : ℕ). in_bytes c (length bs) (wrapped a)) none ∙ not_later a (length bs) 0 (omega arith))),
      one_put g (wrapped a) b (sym (ap in_port_page here) ∙ port),
    )
stored_at g a (b ∷ bs) (suc k) h few port =
    let p : ℕ × ℕ = (wrapped a, b) in
    let here : wrapped (a + suc k) ≡ wrapped (a + 1 + k) = omega arith in
    cc (
      stored-cons g p (upwards (a + 1) bs),
      stored_at (stored g (p ∷ [])) (a + 1) bs k (omega arith) (omega arith) (sym (ap in_port_page here) ∙ port),
    )

-- ---- a byte of a word of several

pub byte_of_words : (m : Memory) (a : ℕ) (ws : List ℕ) (i j : ℕ) → a < address_count → i < length ws → j < 4 → get_or (bytes_of_words m a ws) (4 * i + j) 0 ≡ get_or (word_bytes m (wrapped (a + 4 * i)) (get_or ws i 0)) j 0
unfolding bytes_of_words
byte_of_words m a [] i j h k l = absurd (omega arith)
byte_of_words m a (w ∷ ws) zero j h k l = grind (arith, four_bytes, get_or_append_left)
byte_of_words m a (w ∷ ws) (suc i) j h k l =
    let less : 4 * suc i + j - 4 ≡ 4 * i + j = omega arith in
    let place : wrapped (wrapped (a + 4) + 4 * i) ≡ wrapped (a + 4 * suc i) = omega arith in
    cc (
      get_or-append_right (word_bytes m a w) (bytes_of_words m (wrapped (a + 4)) ws) 4 (4 * suc i + j) 0 (four_bytes m a w) (omega arith),
      byte_of_words m (wrapped (a + 4)) ws i j (omega arith) (omega arith) l,
    )

-- a byte so far above a frame's address
pub frame_byte : (m : Memory) (a : ℕ) (ws : List ℕ) (i j : ℕ) → a < address_count → length ws ≡ LOCALS → i < LOCALS → j < 4 → in_port_page (wrapped (a + (4 * i + j))) ≡ false
    → (with_words m a ws).bytes (wrapped (a + (4 * i + j))) ≡ get_or (word_bytes m (wrapped (a + 4 * i)) (get_or ws i 0)) j 0
frame_byte m a ws i j h whole k l port =
    let bs = bytes_of_words m a ws in
    let long = frame_long m a ws whole in
    cc (
      words_as_bytes m a ws,
      stored_at m.bytes a bs (4 * i + j) (omega (arith, long)) (omega (arith, long)) port,
      byte_of_words m a ws i j h (omega (arith, whole)) l,
    )
