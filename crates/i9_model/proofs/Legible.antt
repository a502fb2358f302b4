-- A read that meets no soft byte finds memory as it is, however soft bytes are read.
use Rattle.std.proofs.Common.{◌≡◌, ℕ, ◌+◌, ◌*◌, ◌^◌, ◌<◌, Bool, false, cond, None, ap, arith}
use Rattle.std.specs.Prelude.{if◌then◌else◌}
use Rattle.i9_model.specs.Writes.{wrapped}
use Rattle.i9_model.specs.Memory.{Memory, half_in, word_in, words_in}
use Rattle.i9_model.specs.State.{Frames}
use Rattle.i9_model.specs.Hazards.{read_hazard}
use Rattle.i9_model.proofs.FrameLaws.{read_hazard-none}
use Rattle.i9_model.proofs.Among.{among-bytes}
use Rattle.i9_model.proofs.Readings.{SameBytes, two, inner_word_same, words_same}

-- memory, with soft bytes as they are read
abbrev pub read_as : Memory → Frames → (ℕ → ℕ) → Memory
read_as m f reading = record m { bytes = λ x. if f.soft x then reading (m.bytes x) else m.bytes x }

pub byte_as : (m : Memory) (f : Frames) (reading : ℕ → ℕ) (x : ℕ) → f.soft x ≡ false → (read_as m f reading).bytes x ≡ m.bytes x
byte_as m f reading x hard = ap (λ (b : Bool). cond b (reading (m.bytes x)) (m.bytes x)) hard

bytes_as : (m : Memory) (f : Frames) (reading : ℕ → ℕ) (a n : ℕ) → read_hazard f a n ≡ None → SameBytes m (read_as m f reading).bytes a n
bytes_as m f reading a n none = grind (arith, byte_as, read_hazard-none, among-bytes)

first_place : (a : ℕ) → a < 2 ^ 32 → wrapped (a + 0) ≡ a
first_place a low = omega arith

pub half_as : (m : Memory) (f : Frames) (reading : ℕ → ℕ) (a : ℕ) → a < 2 ^ 32 → read_hazard f a 2 ≡ None → half_in (read_as m f reading) a ≡ half_in m a
unfolding half_in
half_as m f reading a low none = grind (arith, byte_as, read_hazard-none, among-bytes, two)

pub word_as : (m : Memory) (f : Frames) (reading : ℕ → ℕ) (a : ℕ) → a < 2 ^ 32 → read_hazard f a 4 ≡ None → word_in (read_as m f reading) a ≡ word_in m a
word_as m f reading a low none =
    let here = first_place a low in
    cc (inner_word_same m (read_as m f reading).bytes a 4 0 (bytes_as m f reading a 4 none) (omega arith))

pub words_as : (m : Memory) (f : Frames) (reading : ℕ → ℕ) (a n : ℕ) → read_hazard f a (4 * n) ≡ None → words_in (read_as m f reading) a n ≡ words_in m a n
words_as m f reading a n none = words_same m (read_as m f reading).bytes a (4 * n) n (bytes_as m f reading a (4 * n) none) (omega arith)
