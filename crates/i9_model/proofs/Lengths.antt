-- How many bytes there are: of what is stored, of its marks, and of a unit.
use Rattle.std.proofs.Common.{◌≡◌, ℕ, ◌+◌, ◌*◌, Bool, true, List, ◌∷◌, length, Option, Some, refl, ap, ◌∙◌, arith, ◌≤◌, []}
use Rattle.std.proofs.lemmas.List.{length-append, length-map, length-take-le}
use Rattle.std.proofs.lemmas.List.FromFn.{length-map-range_with_len}
use Rattle.i9_isa.specs.declared.size.Size.{Size}
use Rattle.i9_isa.specs.declared.size.Size.TheVariants.{Byte, Half, Words}
use Rattle.i9_isa.specs.declared.inst.Operand.{Operand}
use Rattle.i9_isa.specs.Transfers.{byte_count}
use Rattle.i9_model.specs.Writes.{wrapped}
use Rattle.i9_model.specs.Memory.{Memory, half_bytes, word_bytes}
use Rattle.i9_model.specs.State.{State, Channel}
use Rattle.i9_model.specs.Step.{bytes_of_words, stored_of}
use Rattle.i9_model.specs.declared.layout.TheConstants.{FRAME_SIZE, LOCALS}
use Rattle.i9_model.specs.Stale.{mark_of, byte_marks, marks_of, stored_marks}
use Rattle.i9_model.specs.Dma.{unit_length, is_fit, unit_bytes}

-- ---- what is stored

pub four_bytes : (m : Memory) (a v : ℕ) → length (word_bytes m a v) ≡ 4
unfolding word_bytes
four_bytes m a v = grind arith

pub two_bytes : (m : Memory) (a v : ℕ) → length (half_bytes m a v) ≡ 2
unfolding half_bytes
two_bytes m a v = grind arith

-- words have four bytes each
pub words_long : (m : Memory) (a : ℕ) (ws : List ℕ) → length (bytes_of_words m a ws) ≡ 4 * length ws
unfolding bytes_of_words
words_long m a [] = refl
words_long m a (w ∷ ws) = grind (arith, four_bytes, length-append, words_long m (wrapped (a + 4)) ws)

-- a store has the bytes of its size
pub stored_long : (size : Size) (s : State) (o : Operand) (a : ℕ) → length (stored_of size s o a) ≡ byte_count size
stored_long size s o a = grind (arith, two_bytes, words_long, length-map-range_with_len)

-- the bytes of words, where there are sixteen
pub frame_long : (m : Memory) (a : ℕ) (ws : List ℕ) → length ws ≡ LOCALS → length (bytes_of_words m a ws) ≡ FRAME_SIZE
frame_long m a ws whole = words_long m a ws ∙ ap (λ (n : ℕ). 4 * n) whole

-- ---- the marks of a store

-- as many as bytes
pub marks_long : (size : Size) (s : State) (o : Operand) → length (stored_marks size s o) ≡ byte_count size
marks_long Byte s o = refl
marks_long Half s o = refl
marks_long (Words n) s o = four_each (marks_of s o n) ∙ ap (λ (k : ℕ). 4 * k) (length-map-range_with_len (mark_of s o) 0 n)
  where
    four_each : (bs : List Bool) → length (byte_marks bs) ≡ 4 * length bs
    four_each [] = refl
    four_each (b ∷ bs) = let rest = four_each bs in omega (arith, rest)

-- ---- a unit

-- a device gives enough
pub fit_length : (c : Channel) (given : List ℕ) → is_fit c (Some given) ≡ true → unit_length c ≤ length given
fit_length c given fit = grind arith

-- as many bytes as the unit has
pub bytes_long : (m : Memory) (c : Channel) (given : Option (List ℕ)) → is_fit c given ≡ true → length (unit_bytes m c given) ≡ unit_length c
unfolding unit_bytes
bytes_long m c given fit = grind (arith, length-map, length-map-range_with_len, length-take-le, fit_length)
