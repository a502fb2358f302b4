-- Words that are kept stay those of memory, where none of their bytes is stored to or becomes soft.
use Rattle.std.proofs.Common.{◌≡◌, ℕ, zero, suc, ◌+◌, ◌^◌, ◌<◌, Bool, true, false, not, ◌&&◌, ◌||◌, cond, List, [], length, Some, None, refl, sym, ap, ◌∙◌, ◌⊎◌, inl, inr, arith}
use Rattle.std.specs.Prelude.{find}
use Rattle.std.proofs.lemmas.Bool.{and_left, or_left, or_right, not_from_false, both_ways}
use Rattle.std.proofs.lemmas.List.FromFn.{length-map-range_with_len}
use Rattle.i9_isa.specs.Words.{bit}
use Rattle.i9_model.specs.declared.layout.TheConstants.{LOCALS, FRAME_SIZE}
use Rattle.i9_model.specs.declared.frame.Frame.{Frame}
use Rattle.i9_model.specs.Writes.{wrapped, upwards}
use Rattle.i9_model.specs.Memory as model
use Rattle.i9_model.specs.Memory.{word_in, with_writes, with_words}
use Rattle.i9_model.specs.State.{Frames}
use Rattle.i9_model.specs.Frames.{places, in_bytes, is_put, has, is_kept, saved, with_marked, returned, flushed, wrote, softened}
use Rattle.i9_model.specs.Stale.{picked}
use Rattle.i9_model.specs.Hazards.{least, read_hazard}
use Rattle.i9_model.specs.Alike.{with_other, is_beyond, is_hard, is_compared, AgreeWhere}
use Rattle.i9_model.specs.HeldFrames.{over, overlaid}
use Rattle.i9_model.proofs.Among.{in_bytes-has, among-bytes}
use Rattle.i9_model.proofs.FrameLaws.{read_hazard-none}
use Rattle.i9_model.proofs.Readings.{inner_word_same}
use Rattle.i9_model.proofs.Runs.{is_put-upwards}
use Rattle.i9_model.proofs.SavedMarks.{picked-among}
use Rattle.i9_model.proofs.Storing.{stored_kept}
use Rattle.i9_agree.proofs.Overlays.{words_kept, words_mcon, over_mcon}
use Rattle.i9_queue.specs.declared.behind.Behind.{Behind}
use Rattle.i9_queue.specs.Behind.{settled}
use Rattle.i9_watch.specs.declared.watch.Watch.{Watch}
use Rattle.i9_watch.specs.Bits.{bits_of}
use Rattle.i9_watch.specs.Watch.{frames_of}
use Rattle.i9_frames.specs.Sets.{Held}
use Rattle.i9_storage.specs.declared.words.Words.{Words}
use Rattle.i9_storage.specs.Places.{IsBeside}
use Rattle.i9_storage.specs.Words.{Keeps, KeepsNone}
use Rattle.i9_storage.specs.Kept.{cache_in, AreCurrent}

-- ---- one word

clear : (test : ℕ → Bool) (a n : ℕ) → ((k : ℕ) → k < n → test (wrapped (a + k)) ≡ false) → least test a n ≡ None
clear test a zero none = refl
clear test a (suc n) none =
    let here : wrapped (a + 0) ≡ wrapped a = omega arith in
    let later = λ (k : ℕ) (h : k < n). let next : wrapped (a + suc k) ≡ wrapped (a + 1 + k) = omega arith in ap test (sym next) ∙ none (suc k) (omega arith) in
    ap (λ (b : Bool). cond b (Some (wrapped a)) (find test (places (a + 1) n))) (ap test (sym here) ∙ none 0 (omega arith)) ∙ clear test (a + 1) n later

-- a byte that was not soft is not, and is the same
abbrev pub Stays : Frames → Frames → model.Memory → model.Memory → ℕ → Type 0
Stays f g m k y = f.soft y ≡ false → (g.soft y ≡ false) × (k.bytes y ≡ m.bytes y)

-- a word whose bytes stay
word_stays : (f g : Frames) (m k : model.Memory) (a v : ℕ) → a < 2 ^ 32 → k.mcon ≡ m.mcon → ((j : ℕ) → j < 4 → Stays f g m k (wrapped (a + j)))
    → (read_hazard f a 4 ≡ None) × (v ≡ word_in m a) → (read_hazard g a 4 ≡ None) × (v ≡ word_in k a)
unfolding read_hazard
word_stays f g m k a v low order stay was =
    let hard = λ (j : ℕ) (h : j < 4). stay j h (read_hazard-none f a 4 (wrapped (a + j)) was.0 (in_bytes-has a 4 j h)) in
    let here : wrapped (a + 0) ≡ a = omega arith in
    let other : with_other m k.bytes ≡ k = ap (λ (c : ℕ → ℕ). record { bytes = k.bytes; mcon = c }) (sym order) in
    let same : word_in k a ≡ word_in m a =
    ap (λ (x : model.Memory). word_in x a) (sym other)
    ∙ ap (word_in (with_other m k.bytes)) (sym here)
    ∙ inner_word_same m k.bytes a 4 0 (λ j h. (hard j h).1) (omega arith)
    ∙ ap (word_in m) here in
    (clear g.soft a 4 (λ j h. (hard j h).0), was.1 ∙ sym same)

-- ---- all that are kept

module _ (ws us : Words) (b c : Behind) (w v : Watch) (h g : Held) (current : AreCurrent ws b w h) where
  abbrev before : model.Memory
  before = overlaid (cache_in b h)

  abbrev behind : model.Memory
  behind = overlaid (cache_in c g)

  current_by : behind.mcon ≡ before.mcon
      → ((a u : ℕ) → Keeps us a u → Keeps ws a u × ((j : ℕ) → j < 4 → Stays (frames_of w) (frames_of v) before behind (wrapped (a + j))))
      → AreCurrent us c v g
  current_by order stay a u keeps =
      let stayed = stay a u keeps in
      word_stays (frames_of w) (frames_of v) before behind a u keeps.0.0 order stayed.1 (current a u stayed.0)

  -- nothing that is read changes
  pub current_same : ((a u : ℕ) → Keeps us a u → Keeps ws a u) → frames_of v ≡ frames_of w → behind ≡ before → AreCurrent us c v g
  current_same keeps frames memory =
      current_by (ap (λ (m : model.Memory). m.mcon) memory)
      (λ a u kept. (keeps a u kept, λ j l hard. (ap (λ (f : Frames). f.soft (wrapped (a + j))) frames ∙ hard, ap (λ (m : model.Memory). m.bytes (wrapped (a + j))) memory)))

  -- a store
  pub current_store : (at : ℕ) (bs : List ℕ) (stale : ℕ)
      → ((a u : ℕ) → Keeps us a u → Keeps ws a u × IsBeside at (length bs) a)
      → frames_of v ≡ softened (wrote (frames_of w) (upwards at bs)) (picked wrapped at (bits_of stale (length bs)))
      → behind ≡ with_writes before (upwards at bs) → AreCurrent us c v g
  current_store at bs stale beside frames memory =
      current_by (ap (λ (m : model.Memory). m.mcon) memory) (λ a u kept. ((beside a u kept).0, λ j l hard. byte (wrapped (a + j)) ((beside a u kept).1 j l) hard))
    where
      marks : List Bool
      marks = bits_of stale (length bs)

      unmarked : (y : ℕ) → in_bytes at (length bs) y ≡ false → has (picked wrapped at marks) y ≡ false
      unmarked y out = by (has (picked wrapped at marks) y) refl
        where
          long : length marks ≡ length bs
          long = length-map-range_with_len (bit stale) 0 (length bs)

          by : (b : Bool) → has (picked wrapped at marks) y ≡ b → b ≡ false
          by false e = refl
          by true e = absurd (both_ways (in_bytes at (length bs) y) out (ap (λ (n : ℕ). in_bytes at n y) (sym long) ∙ among-bytes at (length marks) y (picked-among at marks y e)))

      soft : (y : ℕ) → in_bytes at (length bs) y ≡ false → (frames_of w).soft y ≡ false → (frames_of v).soft y ≡ false
      soft y out hard =
          ap (λ (f : Frames). f.soft y) frames
          ∙ ap (λ (t : Bool). t || ((frames_of w).soft y && not (is_put (upwards at bs) y))) (unmarked y out)
          ∙ and_left ((frames_of w).soft y) (not (is_put (upwards at bs) y)) hard

      byte : (y : ℕ) → in_bytes at (length bs) y ≡ false → Stays (frames_of w) (frames_of v) before behind y
      byte y out hard = (soft y out hard, ap (λ (m : model.Memory). m.bytes y) memory ∙ stored_kept before.bytes (upwards at bs) y (inl (is_put-upwards at bs y ∙ out)))

  -- a save
  pub current_save : (f : Frame) (lost : List ℕ) → ((a u : ℕ) → Keeps us a u → Keeps ws a u × IsBeside f.address FRAME_SIZE a)
      → frames_of v ≡ with_marked (saved (frames_of w) f.address) lost → length f.words ≡ LOCALS
      → behind ≡ with_words before f.address f.words → AreCurrent us c v g
  current_save f lost beside frames whole memory =
      current_by (ap (λ (m : model.Memory). m.mcon) memory ∙ words_mcon before f.address f.words)
      (λ a u kept. ((beside a u kept).0, λ j l hard. byte (wrapped (a + j)) ((beside a u kept).1 j l) hard))
    where
      byte : (y : ℕ) → in_bytes f.address FRAME_SIZE y ≡ false → Stays (frames_of w) (frames_of v) before behind y
      byte y out hard = (
        ap (λ (s : Frames). s.soft y) frames ∙ ap (λ (t : Bool). t || (frames_of w).soft y) out ∙ hard,
        ap (λ (m : model.Memory). m.bytes y) memory ∙ words_kept before f.address f.words y whole (inl out),
      )

  -- a return
  pub current_return : ((a u : ℕ) → Keeps us a u → Keeps ws a u) → c ≡ b → frames_of v ≡ returned (frames_of w)
      → AgreeWhere (is_compared (returned (frames_of w))) before behind.bytes → AreCurrent us c v g
  current_return keeps same frames agree =
      current_by order (λ a u kept. (keeps a u kept, λ j l hard. byte (wrapped (a + j)) hard))
    where
      order : behind.mcon ≡ before.mcon
      order = over_mcon g.frames (cache_in c g).behind ∙ ap (λ (d : Behind). (cache_in d h).behind.mcon) same ∙ sym (over_mcon h.frames (cache_in b h).behind)

      byte : (y : ℕ) → Stays (frames_of w) (frames_of v) before behind y
      byte y hard =
          let is : is_hard (returned (frames_of w)) y ≡ true = or_right (is_beyond y) (not ((frames_of w).soft y)) (not_from_false ((frames_of w).soft y) hard) in
          (ap (λ (s : Frames). s.soft y) frames ∙ hard, agree y (or_left (is_hard (returned (frames_of w)) y) _ is))

  -- a flush
  pub current_flush : ((a u : ℕ) → Keeps us a u → Keeps ws a u) → frames_of v ≡ flushed (frames_of w) → behind ≡ before → AreCurrent us c v g
  current_flush keeps frames memory =
      current_by (ap (λ (m : model.Memory). m.mcon) memory)
      (λ a u kept. (keeps a u kept, λ j l hard. (ap (λ (f : Frames). f.soft (wrapped (a + j))) frames ∙ and_left ((frames_of w).soft (wrapped (a + j))) (not (is_kept (frames_of w) (wrapped (a + j)))) hard, ap (λ (m : model.Memory). m.bytes (wrapped (a + j))) memory)))

  -- one word more
  pub current_put : (at u : ℕ) → ((a v : ℕ) → Keeps us a v → ((a ≡ at) × (v ≡ u)) ⊎ Keeps ws a v) → read_hazard (frames_of w) at 4 ≡ None
      → u ≡ word_in before at → AreCurrent us b w h
  current_put at u one hard is a v keeps = by (one a v keeps)
    where
      by : ((a ≡ at) × (v ≡ u)) ⊎ Keeps ws a v → (read_hazard (frames_of w) a 4 ≡ None) × (v ≡ word_in before a)
      by (inl new) = (ap (λ (x : ℕ). read_hazard (frames_of w) x 4) new.0 ∙ hard, new.1 ∙ is ∙ ap (word_in before) (sym new.0))
      by (inr old) = current a v old

-- none is kept
pub current_none : (ws : Words) (b : Behind) (w : Watch) (h : Held) → KeepsNone ws → AreCurrent ws b w h
current_none ws b w h none a v keeps = absurd (none a v keeps)

-- memory after all that waits is the same
pub current_settled : (ws : Words) (b c : Behind) (w v : Watch) (h : Held) → AreCurrent ws b w h → frames_of v ≡ frames_of w → settled c ≡ settled b → AreCurrent ws c v h
current_settled ws b c w v h current frames is = current_same ws ws b c w v h h current (λ a u keeps. keeps) frames (ap (over h.frames) is)

-- other sets, of which none holds anything
pub current_sets : (ws : Words) (b : Behind) (w : Watch) (h g : Held) → AreCurrent ws b w h → h.frames ≡ [] → g.frames ≡ [] → AreCurrent ws b w g
current_sets ws b w h g current empty new =
    current_same ws ws b b w w h g current (λ a u keeps. keeps) refl (ap (λ (fs : List Frame). over fs (settled b)) (new ∙ sym empty))
