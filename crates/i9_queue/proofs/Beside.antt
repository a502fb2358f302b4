-- Reads beside what waits.
use Rattle.std.proofs.Common.{◌≡◌, ℕ, ◌+◌, ◌-◌, ◌*◌, ◌%◌, ◌^◌, ◌<◌, ◌≤◌, List, [], ◌∷◌, length, get_or, drop, cond, Option, None, sym, ap, ◌∙◌, inl, inr, arith}
use Rattle.std.specs.Int.{w16, from_le_bytes, from_be_bytes}
use Rattle.std.proofs.lemmas.Bool.{cases_Bool}
use Rattle.std.proofs.lemmas.Option.{slice_get_past}
use Rattle.i9_model.specs.Writes.{wrapped, upwards, last_put, or_earlier}
use Rattle.i9_model.specs.Memory.{Memory, in_port_page, region_of, is_big, stored, half_in, word_in, words_in}
use Rattle.i9_model.specs.Late.{all_puts}
use Rattle.i9_model.proofs.Upwards.{or_none, last_put-from}
use Rattle.i9_model.proofs.Readings.{SameBytes, inner_word_same, words_same}
use Rattle.i9_queue.specs.declared.queue.Request.{Request}
use Rattle.i9_queue.specs.Queue.{waits_in}
use Rattle.i9_queue.specs.Waits.{AreBeside, with_puts}
use Rattle.i9_queue.proofs.Bytes.{request_more}
use Rattle.i9_queue.proofs.Settled.{at_port, at_none}

-- bytes in a row
pub run_beside : (r a n : ℕ) (bs : List ℕ) → r < 2 ^ 32 → a < 2 ^ 32 → 0 < n → length bs ≤ 2 ^ 32
    → length bs + (n - 1) ≤ ((a + (n - 1)) % 2 ^ 32 + (2 ^ 32 - r)) % 2 ^ 32 → AreBeside (upwards r bs) a n
run_beside r a n bs h g some few above k lt =
    let x = wrapped (a + k) in
    let past : length bs ≤ (x + (2 ^ 32 - r)) % 2 ^ 32 = omega (arith, above, lt) in
    last_put-from r bs x h (omega arith) few ∙ slice_get_past bs ((x + (2 ^ 32 - r)) % 2 ^ 32) past

-- one request
pub request_beside : (rs : List Request) (i : ℕ) (r : Request) (x : ℕ) → i < length rs
    → last_put (upwards (get_or rs i r).address (get_or rs i r).bytes.items) x ≡ None
    → last_put (all_puts (waits_in (drop (i + 1) rs))) x ≡ last_put (all_puts (waits_in (drop i rs))) x
request_beside rs i r x h none =
    let later = last_put (all_puts (waits_in (drop (i + 1) rs))) x in
    sym (sym (or_none (last_put (all_puts (waits_in (drop i rs))) x))
    ∙ request_more None x rs i r h
    ∙ ap (λ (o : Option ℕ). or_earlier later (or_earlier o None)) none
    ∙ or_none later)

-- a byte
other_byte : (m : ℕ → ℕ) (ps : List (ℕ × ℕ)) (x : ℕ) → last_put ps x ≡ None → stored m ps x ≡ m x
other_byte m ps x none = elim (cases_Bool (in_port_page x)) [
  | inl port ↦ sym (at_port m ps x port)
  | inr other ↦ sym (at_none m ps x other (sym none))
]

other_bytes : (m : Memory) (ps : List (ℕ × ℕ)) (a n : ℕ) → AreBeside ps a n → SameBytes m (stored m.bytes ps) a n
other_bytes m ps a n beside k lt = other_byte m.bytes ps (wrapped (a + k)) (beside k lt)

-- the first of some bytes
pub byte_beside : (m : ℕ → ℕ) (ps : List (ℕ × ℕ)) (a n : ℕ) → a < 2 ^ 32 → 0 < n → AreBeside ps a n → m a ≡ stored m ps a
byte_beside m ps a n h some beside =
    let here : wrapped (a + 0) ≡ a = omega arith in
    sym (other_byte m ps a (ap (last_put ps) (sym here) ∙ beside 0 some))

-- a half
pub half_beside : (m : Memory) (ps : List (ℕ × ℕ)) (a : ℕ) → a < 2 ^ 32 → AreBeside ps a 2
    → half_in m a ≡ half_in (with_puts m ps) a
unfolding half_in
half_beside m ps a h beside =
    let later = stored m.bytes ps in
    let next = wrapped (a + 1) in
    let read = λ (bs : List ℕ). cond (is_big m (region_of a)) (from_be_bytes w16 bs) (from_le_bytes w16 bs) in
    ap (λ (b : ℕ). read (b ∷ m.bytes next ∷ [])) (byte_beside m.bytes ps a 2 h (omega arith) beside)
    ∙ ap (λ (b : ℕ). read (later a ∷ b ∷ [])) (sym (other_bytes m ps a 2 beside 1 (omega arith)))

-- a word
pub word_beside : (m : Memory) (ps : List (ℕ × ℕ)) (a : ℕ) → a < 2 ^ 32 → AreBeside ps a 4
    → word_in m a ≡ word_in (with_puts m ps) a
word_beside m ps a h beside =
    let here : wrapped (a + 0) ≡ a = omega arith in
    sym (ap (word_in (with_puts m ps)) (sym here)
    ∙ inner_word_same m (stored m.bytes ps) a 4 0 (other_bytes m ps a 4 beside) (omega arith)
    ∙ ap (word_in m) here)

-- words in a row
pub words_beside : (m : Memory) (ps : List (ℕ × ℕ)) (a n : ℕ) → AreBeside ps a (4 * n) → words_in m a n ≡ words_in (with_puts m ps) a n
words_beside m ps a n beside = sym (words_same m (stored m.bytes ps) a (4 * n) n (other_bytes m ps a (4 * n) beside) (omega arith))
