-- The words of the youngest held frame are words of memory with the held frames laid over it.
use Rattle.std.proofs.Common.{◌≡◌, ℕ, ◌+◌, ◌-◌, ◌*◌, ◌^◌, ◌<◌, false, List, [], ◌∷◌, ◌++◌, length, get_or, take, Some, None, refl, sym, ap, ◌∙◌, subst, arith}
use Rattle.std.specs.Prelude.{reverse, slice_get}
use Rattle.std.proofs.lemmas.Bool.{or_left}
use Rattle.std.proofs.lemmas.List.{take_more, take_all, length-reverse}
use Rattle.std.proofs.lemmas.List.FromFn.{fill_by_all}
use Rattle.i9_model.specs.declared.layout.TheConstants.{LOCALS, FRAME_SIZE}
use Rattle.i9_model.specs.declared.frame.Frame.{Frame}
use Rattle.i9_model.specs.Writes.{address_count, wrapped}
use Rattle.i9_model.specs.Memory.{Memory, in_port_page, region_of, is_big, word_in, words_in, word_bytes, with_words}
use Rattle.i9_model.specs.Frames.{in_bytes, in_frames}
use Rattle.i9_model.specs.HeldFrames.{over, overlaid, AreYoungest}
use Rattle.i9_model.proofs.Lengths.{four_bytes}
use Rattle.i9_model.proofs.Readings.{four, in_bytes-has}
use Rattle.i9_model.proofs.FrameBytes.{frame_byte}
use Rattle.i9_agree.proofs.Overlays.{words_mcon, over_push}
use Rattle.i9_agree.proofs.HeldFrames.{first_is}
use Rattle.i9_agree.proofs.HeldWords.{four_list, by_order}
use Rattle.i9_queue.specs.declared.behind.Behind.{Behind}
use Rattle.i9_queue.specs.Behind.{settled}
use Rattle.i9_watch.specs.declared.watch.Watch.{Watch}
use Rattle.i9_watch.specs.Watch.{frames_of}
use Rattle.i9_frames.specs.Sets.{Held}
use Rattle.i9_storage.specs.Kept.{cache_in, IsKept}
use Rattle.i9_storage.proofs.HeldBytes.{place_of}

-- ---- a word by its four bytes

word_by_bytes : (m : Memory) (x w : ℕ) → x < address_count → w < 2 ^ 32 → ((j : ℕ) → j < 4 → m.bytes (wrapped (x + j)) ≡ get_or (word_bytes m x w) j 0) → word_in m x ≡ w
unfolding word_in word_bytes
word_by_bytes m x w low small has =
    let bs = word_bytes m x w in
    let here : wrapped (x + 0) ≡ x = omega arith in
    cc (
      four m x (m.bytes x) (m.bytes (wrapped (x + 1))) (m.bytes (wrapped (x + 2))) (m.bytes (wrapped (x + 3))) (get_or bs 0 0) (get_or bs 1 0) (get_or bs 2 0) (get_or bs 3 0) (ap m.bytes (sym here) ∙ has 0 (omega arith)) (has 1 (omega arith)) (has 2 (omega arith)) (has 3 (omega arith)),
      four_list bs (four_bytes m x w),
      by_order (is_big m (region_of x)) w small,
    )

-- ---- a frame that was stored

stored_orders : (m : Memory) (a : ℕ) (ws : List ℕ) (x w : ℕ) → word_bytes m x w ≡ word_bytes (with_words m a ws) x w
unfolding word_bytes
stored_orders m a ws x w = sym (ap (λ (c : ℕ → ℕ). word_bytes (record m { mcon = c }) x w) (words_mcon m a ws))

words_back : (m : Memory) (f : Frame) → f.address < address_count → length f.words ≡ LOCALS → ((k : ℕ) → get_or f.words k 0 < 2 ^ 32)
    → ((j : ℕ) → j < FRAME_SIZE → in_port_page (wrapped (f.address + j)) ≡ false)
    → f.words ≡ words_in (with_words m f.address f.words) f.address LOCALS
words_back m f low whole small outside =
    let n = with_words m f.address f.words in
    fill_by_all (λ (k : ℕ). word_in n (wrapped (f.address + 4 * k))) f.words LOCALS 0 whole (λ k h.
    let x = wrapped (f.address + 4 * k) in
    sym (word_by_bytes n x (get_or f.words k 0) (omega arith) (small k) (λ j l.
    let place : wrapped (wrapped (f.address + 4 * k) + j) ≡ wrapped (f.address + (4 * k + j)) = omega arith in
    ap n.bytes place
    ∙ frame_byte m f.address f.words k j low whole h l (outside (4 * k + j) (omega arith))
    ∙ ap (λ (bs : List ℕ). get_or bs j 0) (stored_orders m f.address f.words x (get_or f.words k 0)))))

-- ---- the youngest one

none_at_first : (fs : List Frame) → slice_get fs 0 ≡ None → length fs ≡ 0
none_at_first [] none = refl
none_at_first (f ∷ fs) none = absurd cc

-- where none is held, words are those of memory
pub none_held : (fs : List Frame) (m : Memory) (a : ℕ) → slice_get (reverse fs) 0 ≡ None → words_in m a LOCALS ≡ words_in (over fs m) a LOCALS
unfolding over
none_held [] m a none = refl
none_held (f ∷ fs) m a none = absurd (omega (arith, length-reverse (f ∷ fs), none_at_first (reverse (f ∷ fs)) none))

pub none_held_word : (fs : List Frame) (m : Memory) (a : ℕ) → slice_get (reverse fs) 0 ≡ None → word_in m a ≡ word_in (over fs m) a
unfolding over
none_held_word [] m a none = refl
none_held_word (f ∷ fs) m a none = absurd (omega (arith, length-reverse (f ∷ fs), none_at_first (reverse (f ∷ fs)) none))

pub ruleset word_rules = (none_held_word)

some_held : (fs : List Frame) (f : Frame) → Some f ≡ slice_get (reverse fs) 0 → 0 < length fs
some_held [] f is = absurd cc
some_held (g ∷ fs) f is = omega arith

last_is : (fs : List Frame) (f : Frame) → Some f ≡ slice_get (reverse fs) 0 → fs ≡ take (length fs - 1) fs ++ f ∷ []
last_is fs f is =
    let some = some_held fs f is in
    let n = length fs - 1 in
    let below : n < length fs = omega arith in
    sym (take_all (n + 1) fs (omega arith)) ∙ take_more fs n f below ∙ ap (λ (g : Frame). take n fs ++ g ∷ []) (place_of fs 0 f some is)

pub youngest_is : (m : Behind) (w : Watch) (h : Held) (f : Frame) → IsKept m w h → Some f ≡ slice_get (reverse h.frames) 0 → f.address < 2 ^ 32 → length f.words ≡ LOCALS → ((k : ℕ) → get_or f.words k 0 < 2 ^ 32)
    → f.words ≡ words_in (overlaid (cache_in m h)) f.address LOCALS
youngest_is m w h f kept is low whole small =
    let front = take (length h.frames - 1) h.frames in
    let last = last_is h.frames f is in
    let live = (frames_of w).live in
    let first = first_is front f live (subst (λ (fs : List Frame). AreYoungest fs live) last kept.youngest) in
    words_back (over front (settled m)) f low whole small (λ j l.
    let x = wrapped (f.address + j) in
    kept.sound.outside x (ap (λ (l : List ℕ). in_frames l x) first.1 ∙ or_left (in_bytes f.address FRAME_SIZE x) (in_frames first.0 x) (in_bytes-has f.address FRAME_SIZE j l)))
    ∙ sym (ap (λ (n : Memory). words_in n f.address LOCALS) (ap (λ (fs : List Frame). over fs (settled m)) last ∙ over_push front f (settled m)))
