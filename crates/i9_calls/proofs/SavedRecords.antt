-- The record below a new frame: where it meets the frame that was saved, and where it meets the live frames before.
use Rattle.std.proofs.Common.{◌≡◌, ℕ, zero, suc, ◌+◌, ◌-◌, ◌%◌, ◌^◌, ◌<◌, ◌≤◌, Bool, true, false, ◌∷◌, Option, Some, refl, sym, ap, ◌∙◌, arith}
use Rattle.std.specs.Prelude.{if◌then◌else◌, ◌||◌}
use Rattle.std.proofs.lemmas.Bool.Decides.{nat_tests}
use Rattle.i9_model.specs.declared.layout.TheConstants.{FRAME_SIZE, RECORD_SIZE}
use Rattle.i9_model.specs.Writes.{wrapped}
use Rattle.i9_model.specs.State.{Frames}
use Rattle.i9_model.specs.Frames.{in_bytes, in_frames, saved}
use Rattle.i9_model.specs.Hazards.{least, write_hazard}
use Rattle.i9_model.proofs.Places.{in_bytes-above}

-- two tests that answer alike at each place find the same
least-same : (p q : ℕ → Bool) (a n : ℕ) → ((k : ℕ) → k < n → p (wrapped (a + k)) ≡ q (wrapped (a + k))) → least p a n ≡ least q a n
least-same p q a zero alike = refl
least-same p q a (suc n) alike =
    let start : a ≡ a + 0 = omega arith in
    let first : p (wrapped a) ≡ q (wrapped a) =
    ap (λ (x : ℕ). p (wrapped x)) start ∙ alike 0 (omega arith) ∙ sym (ap (λ (x : ℕ). q (wrapped x)) start) in
    let later : (k : ℕ) → k < n → p (wrapped (a + 1 + k)) ≡ q (wrapped (a + 1 + k)) = λ k h.
    let next : a + 1 + k ≡ a + (k + 1) = omega arith in
    ap (λ (x : ℕ). p (wrapped x)) next ∙ alike (k + 1) (omega arith) ∙ sym (ap (λ (x : ℕ). q (wrapped x)) next) in
    ap (λ (b : Bool). if b then Some (wrapped a) else least p (a + 1) n) first
    ∙ ap (λ (o : Option ℕ). if q (wrapped a) then Some (wrapped a) else o) (least-same p q (a + 1) n later)

-- the place that passes first
least-here : (p : ℕ → Bool) (a n : ℕ) → a < 2 ^ 32 → 0 < n → p a ≡ true → least p a n ≡ Some a
least-here p a zero h few t = absurd (omega arith)
least-here p a (suc n) h few t =
    let same : wrapped a ≡ a = omega arith in
    ap (λ (x : ℕ). if p x then Some x else least p (a + 1) n) same ∙ ap (λ (b : Bool). if b then Some a else least p (a + 1) n) t

-- a multiple of 16 that is not in a frame that begins at one has no byte of it in the 16 from it on
apart : (save a k : ℕ) → save < 2 ^ 32 → a < 2 ^ 32 → save % 16 ≡ 0 → a % 16 ≡ 0 → k < 16 → 64 ≤ (a + (2 ^ 32 - save)) % 2 ^ 32
    → 64 ≤ ((a + k) % 2 ^ 32 + (2 ^ 32 - save)) % 2 ^ 32
apart save a k hs ha s16 a16 few far = omega arith

outside : (save a k : ℕ) → save < 2 ^ 32 → a < 2 ^ 32 → save % 16 ≡ 0 → a % 16 ≡ 0 → k < 16 → 64 ≤ (a + (2 ^ 32 - save)) % 2 ^ 32
    → in_bytes save FRAME_SIZE (wrapped (a + k)) ≡ false
outside save a k hs ha s16 a16 few far =
    in_bytes-above save 64 (wrapped (a + k)) hs (omega arith) (omega arith)
    ∙ grind (arith, nat_tests, apart save a k hs ha s16 a16 few far)

inside : (save a : ℕ) → save < 2 ^ 32 → a < 2 ^ 32 → (a + (2 ^ 32 - save)) % 2 ^ 32 < 64 → in_bytes save FRAME_SIZE a ≡ true
inside save a hs ha near = in_bytes-above save 64 a hs ha (omega arith) ∙ grind (arith, nat_tests, near)

-- the record lies in the frame that is saved
pub write_hazard-saved : (f : Frames) (save a : ℕ) → save < 2 ^ 32 → a < 2 ^ 32 → (a + (2 ^ 32 - save)) % 2 ^ 32 < 64
    → write_hazard (saved f save) a RECORD_SIZE ≡ Some a
unfolding write_hazard
write_hazard-saved f save a hs ha near =
    least-here (in_frames (save ∷ f.live)) a 16 ha (omega arith) (ap (λ (b : Bool). b || in_frames f.live a) (inside save a hs ha near))

-- the record has no byte of the frame that is saved
pub write_hazard-unsaved : (f : Frames) (save a : ℕ) → save < 2 ^ 32 → a < 2 ^ 32 → save % 16 ≡ 0 → a % 16 ≡ 0 → 64 ≤ (a + (2 ^ 32 - save)) % 2 ^ 32
    → write_hazard (saved f save) a RECORD_SIZE ≡ write_hazard f a RECORD_SIZE
unfolding write_hazard
write_hazard-unsaved f save a hs ha s16 a16 far =
    least-same (in_frames (save ∷ f.live)) (in_frames f.live) a 16
    (λ k few. ap (λ (b : Bool). b || in_frames f.live (wrapped (a + k))) (outside save a k hs ha s16 a16 few far))

pub ruleset record_rules = (write_hazard-saved, write_hazard-unsaved)
