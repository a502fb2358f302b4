-- A byte of memory with the held frames laid over it, from the youngest frame on.
use Rattle.std.proofs.Common.{◌≡◌, ℕ, zero, suc, ◌+◌, ◌-◌, ◌*◌, ◌/◌, ◌%◌, ◌^◌, ◌<◌, ◌≤◌, Bool, true, false, List, [], ◌∷◌, length, get_or, take, Some, sym, ap, ◌∙◌, inl, inr, arith}
use Rattle.std.specs.Prelude.{reverse, slice_get}
use Rattle.std.proofs.lemmas.Bool.Decides.{nat_tests}
use Rattle.std.proofs.lemmas.Option.{get_or_from_slice_get}
use Rattle.std.proofs.lemmas.List.{take_more, take_all, get_or-reverse}
use Rattle.i9_model.specs.declared.layout.TheConstants.{LOCALS, FRAME_SIZE}
use Rattle.i9_model.specs.declared.frame.Frame.{Frame}
use Rattle.i9_model.specs.Writes.{wrapped}
use Rattle.i9_model.specs.Memory.{Memory, in_port_page, half_bytes, word_bytes, is_big, waits_of, with_words}
use Rattle.i9_model.specs.Frames.{in_bytes}
use Rattle.i9_model.specs.Alike.{with_other}
use Rattle.i9_model.specs.HeldFrames.{Cache, over, overlaid, AreWhole}
use Rattle.i9_model.proofs.Places.{in_bytes-above}
use Rattle.i9_agree.proofs.Overlays.{over_push, over_mcon, words_kept, AreKept, over_kept}
use Rattle.i9_model.proofs.FrameBytes.{frame_byte}

-- ---- orders of regions

-- memory with frames laid over it has the configuration words of what is behind
pub laid_other : (c : Cache) → with_other c.behind (overlaid c).bytes ≡ overlaid c
laid_other c = ap (λ (k : ℕ → ℕ). record { bytes = (overlaid c).bytes; mcon = k }) (sym (over_mcon c.held c.behind))

pub laid_word_bytes : (c : Cache) (a v : ℕ) → word_bytes c.behind a v ≡ word_bytes (overlaid c) a v
unfolding word_bytes
laid_word_bytes c a v = ap (λ (m : Memory). word_bytes m a v) (laid_other c)

pub laid_half_bytes : (c : Cache) (a v : ℕ) → half_bytes c.behind a v ≡ half_bytes (overlaid c) a v
unfolding half_bytes
laid_half_bytes c a v = ap (λ (m : Memory). half_bytes m a v) (laid_other c)

pub laid_big : (c : Cache) (region : ℕ) → is_big c.behind region ≡ is_big (overlaid c) region
laid_big c region = ap (λ (m : Memory). is_big m region) (laid_other c)

pub laid_waits : (c : Cache) (region : ℕ) (write : Bool) → waits_of c.behind region write ≡ waits_of (overlaid c) region write
laid_waits c region write = ap (λ (m : Memory). waits_of m region write) (laid_other c)

-- ---- one frame after the other

whole_at : (fs : List Frame) (n : ℕ) (f : Frame) → AreWhole fs → n < length fs → length (get_or fs n f).words ≡ LOCALS
whole_at [] n f whole h = absurd (omega arith)
whole_at (g ∷ fs) zero f whole h = whole.0
whole_at (g ∷ fs) (suc n) f whole h = whole_at fs n f whole.1 (omega arith)

-- the frame with so many younger ones, by its place among the older ones
pub place_of : (fs : List Frame) (k : ℕ) (f : Frame) → k < length fs → Some f ≡ slice_get (reverse fs) k → get_or fs (length fs - (k + 1)) f ≡ f
place_of fs k f h is =
    let here : length fs - 1 - k ≡ length fs - (k + 1) = omega arith in
    sym (get_or-reverse fs k f h ∙ ap (λ (n : ℕ). get_or fs n f) here) ∙ get_or_from_slice_get (reverse fs) k f f (sym is)

-- it lies over those that are older
laid_at : (fs : List Frame) (k : ℕ) (f : Frame) (m : Memory) → k < length fs → Some f ≡ slice_get (reverse fs) k → over (take (length fs - k) fs) m ≡ with_words (over (take (length fs - (k + 1)) fs) m) f.address f.words
laid_at fs k f m h is =
    let n = length fs - (k + 1) in
    let below : n < length fs = omega arith in
    let one : length fs - k ≡ n + 1 = omega arith in
    cc (take_more fs n f below, place_of fs k f h is, over_push (take n fs) f m)

long_at : (fs : List Frame) (k : ℕ) (f : Frame) → AreWhole fs → k < length fs → Some f ≡ slice_get (reverse fs) k → length f.words ≡ LOCALS
long_at fs k f whole h is =
    let n = length fs - (k + 1) in
    let below : n < length fs = omega arith in
    ap (λ (g : Frame). length g.words) (sym (place_of fs k f h is)) ∙ whole_at fs n f whole below

-- a byte beside it is one of what it lies over
pub byte_past : (fs : List Frame) (k : ℕ) (f : Frame) (m : Memory) (a : ℕ) → AreWhole fs → k < length fs → Some f ≡ slice_get (reverse fs) k → f.address < 2 ^ 32 → a < 2 ^ 32 → FRAME_SIZE ≤ (a + (2 ^ 32 - f.address)) % 2 ^ 32
    → (over (take (length fs - (k + 1)) fs) m).bytes a ≡ (over (take (length fs - k) fs) m).bytes a
byte_past fs k f m a whole h is low high far =
    let out : in_bytes f.address FRAME_SIZE a ≡ false = in_bytes-above f.address FRAME_SIZE a low high (omega arith) ∙ grind (arith, nat_tests, far) in
    sym (ap (λ (n : Memory). n.bytes a) (laid_at fs k f m h is) ∙ words_kept (over (take (length fs - (k + 1)) fs) m) f.address f.words a (long_at fs k f whole h is) (inl out))

-- a byte of it is one of its words
pub byte_here : (fs : List Frame) (k : ℕ) (f : Frame) (m : Memory) (a above : ℕ) → AreWhole fs → k < length fs → Some f ≡ slice_get (reverse fs) k → f.address < 2 ^ 32 → a < 2 ^ 32 → above ≡ (a + (2 ^ 32 - f.address)) % 2 ^ 32 → above < FRAME_SIZE → in_port_page a ≡ false
    → get_or (word_bytes m (wrapped (f.address + 4 * (above / 4))) (get_or f.words (above / 4) 0)) (above % 4) 0 ≡ (over (take (length fs - k) fs) m).bytes a
byte_here fs k f m a above whole h is low high far near port =
    let under = over (take (length fs - (k + 1)) fs) m in
    let place : wrapped (f.address + (4 * (above / 4) + above % 4)) ≡ a = omega (arith, far) in
    let word = laid_word_bytes (record { held = take (length fs - (k + 1)) fs; behind = m }) (wrapped (f.address + 4 * (above / 4))) (get_or f.words (above / 4) 0) in
    ap (λ (bs : List ℕ). get_or bs (above % 4) 0) word
    ∙ sym (frame_byte under f.address f.words (above / 4) (above % 4) low (long_at fs k f whole h is) (omega arith) (omega arith) (ap in_port_page place ∙ port))
    ∙ ap under_bytes place
    ∙ sym (ap (λ (n : Memory). n.bytes a) (laid_at fs k f m h is))
  where
    under_bytes : ℕ → ℕ
    under_bytes = (with_words (over (take (length fs - (k + 1)) fs) m) f.address f.words).bytes

pub ruleset byte_rules = (byte_past, byte_here)

-- all of them
pub all_laid : (fs : List Frame) (m : Memory) → over fs m ≡ over (take (length fs - 0) fs) m
all_laid fs m = let none : length fs - 0 ≡ length fs = omega arith in sym (ap (λ (n : ℕ). over (take n fs) m) none ∙ ap (λ (gs : List Frame). over gs m) (take_all (length fs) fs (omega arith)))

-- none is left
pub none_laid : (fs : List Frame) (m : Memory) (k a : ℕ) → length fs ≤ k → m.bytes a ≡ (over (take (length fs - k) fs) m).bytes a
unfolding over
none_laid fs m k a h = let none : length fs - k ≡ 0 = omega arith in sym (ap (λ (n : ℕ). (over (take n fs) m).bytes a) none)

port_kept : (fs : List Frame) (a : ℕ) → in_port_page a ≡ true → AreKept a fs
port_kept [] a p = tt
port_kept (f ∷ fs) a p = (inr p, port_kept fs a p)

pub port_laid : (fs : List Frame) (m : Memory) (a : ℕ) → AreWhole fs → in_port_page a ≡ true → m.bytes a ≡ (over fs m).bytes a
port_laid fs m a whole p = sym (over_kept fs m a whole (port_kept fs a p))

pub ruleset laid_rules = (all_laid, none_laid, port_laid)

pub ruleset order_rules = (laid_word_bytes, laid_half_bytes, laid_big)
