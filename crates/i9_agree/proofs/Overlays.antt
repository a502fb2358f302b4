-- Held frames laid over memory, through spills, pushes, returns, flushes and stores.
use Rattle.std.proofs.Common.{◌≡◌, ℕ, true, false, List, [], ◌∷◌, ◌++◌, length, refl, sym, ap, ◌∙◌, inl, inr, arith}
use Rattle.std.specs.Prelude.{◌⊎◌}
use Rattle.std.specs.List.{AllByRecursion}
use Rattle.std.proofs.lemmas.Bool.{cases_Bool, both_ways}
use Rattle.i9_model.specs.declared.layout.TheConstants.{LOCALS, FRAME_SIZE}
use Rattle.i9_model.specs.declared.frame.Frame.{Frame}
use Rattle.i9_model.specs.Writes.{upwards}
use Rattle.i9_model.specs.Memory.{Memory, in_port_page, stored, with_bytes, with_writes, with_words}
use Rattle.i9_model.specs.Frames.{in_bytes, is_put}
use Rattle.i9_model.specs.Step.{bytes_of_words}
use Rattle.i9_model.specs.Alike.{with_other}
use Rattle.i9_model.specs.HeldFrames.{Cache, over, overlaid, spilled, holding, AreWhole}
use Rattle.i9_model.proofs.Runs.{is_put-upwards}
use Rattle.i9_model.proofs.Lengths.{frame_long}
use Rattle.i9_model.proofs.Storing.{stored_words_same, stored_agree, stored_kept, words_as_bytes}

-- ---- pushes and spills

pub over_push : (hs : List Frame) (f : Frame) (m : Memory) → over (hs ++ f ∷ []) m ≡ with_words (over hs m) f.address f.words
unfolding over
over_push [] f m = refl
over_push (h ∷ hs) f m = over_push hs f (with_words m h.address h.words)

pub overlaid_spilled : (hs : List Frame) (m : Memory) → overlaid (spilled hs m) ≡ over hs m
unfolding over
overlaid_spilled hs m = grind arith

-- a frame that is held lies over all that was there
pub overlaid_holding : (n : ℕ) (f : Frame) (c : Cache) → overlaid (holding n f c) ≡ with_words (overlaid c) f.address f.words
overlaid_holding n f c = grind (arith, over_push, overlaid_spilled)

-- ---- memory beside a frame

-- they are written where the frame is
frame_put : (m : Memory) (a : ℕ) (ws : List ℕ) (x : ℕ) → length ws ≡ LOCALS → is_put (upwards a (bytes_of_words m a ws)) x ≡ in_bytes a FRAME_SIZE x
frame_put m a ws x whole = is_put-upwards a (bytes_of_words m a ws) x ∙ ap (λ (n : ℕ). in_bytes a n x) (frame_long m a ws whole)

pub words_mcon : (m : Memory) (a : ℕ) (ws : List ℕ) → (with_words m a ws).mcon ≡ m.mcon
words_mcon m a ws = ap (λ (k : Memory). k.mcon) (words_as_bytes m a ws)

pub over_mcon : (hs : List Frame) (m : Memory) → (over hs m).mcon ≡ m.mcon
unfolding over
over_mcon [] m = refl
over_mcon (h ∷ hs) m = over_mcon hs (with_words m h.address h.words) ∙ words_mcon m h.address h.words

-- a byte beside a frame, or in the port page, stays where the frame is written
pub words_kept : (m : Memory) (a : ℕ) (ws : List ℕ) (x : ℕ) → length ws ≡ LOCALS → (in_bytes a FRAME_SIZE x ≡ false) ⊎ (in_port_page x ≡ true) → (with_words m a ws).bytes x ≡ m.bytes x
words_kept m a ws x whole kept =
    let bs = bytes_of_words m a ws in
    ap (λ (k : Memory). k.bytes x) (words_as_bytes m a ws) ∙ stored_kept m.bytes (upwards a bs) x (rw (frame_put m a ws x whole) kept)

-- a byte of a frame doesn't look at what was there
words_agree : (m : Memory) (bytes : ℕ → ℕ) (a : ℕ) (ws : List ℕ) (x : ℕ) → length ws ≡ LOCALS → (in_port_page x ≡ true → bytes x ≡ m.bytes x) → (in_bytes a FRAME_SIZE x ≡ false → bytes x ≡ m.bytes x) → (with_words (with_other m bytes) a ws).bytes x ≡ (with_words m a ws).bytes x
words_agree m bytes a ws x whole port out =
    let bs = bytes_of_words m a ws in
    ap (λ (k : Memory). k.bytes x) (words_as_bytes (with_other m bytes) a ws ∙ ap (with_bytes (with_other m bytes) a) (stored_words_same m bytes a ws))
    ∙ stored_agree bytes m.bytes (upwards a bs) x port (λ o. out (sym (frame_put m a ws x whole) ∙ o))
    ∙ sym (ap (λ (k : Memory). k.bytes x) (words_as_bytes m a ws))

-- ---- writes beside frames

-- no write is in a frame
abbrev pub IsBeside : List (ℕ × ℕ) → ℕ → Type 0
IsBeside ps f = (x : ℕ) → is_put ps x ≡ true → in_bytes f FRAME_SIZE x ≡ false

-- writes beside a frame may come before it or after it
store_beside : (m : Memory) (ps : List (ℕ × ℕ)) (f : ℕ) (ws : List ℕ) → length ws ≡ LOCALS → IsBeside ps f → with_words (with_writes m ps) f ws ≡ with_writes (with_words m f ws) ps
store_beside m ps f ws whole beside =
    let under = stored m.bytes ps in
    let at : (x : ℕ) → (with_words (with_writes m ps) f ws).bytes x ≡ stored (with_words m f ws).bytes ps x = λ x. elim (cases_Bool (is_put ps x)) [
      | inl inside ↦
          words_kept (with_writes m ps) f ws x whole (inl (beside x inside))
          ∙ sym (stored_agree (with_words m f ws).bytes m.bytes ps x (λ p. words_kept m f ws x whole (inr p)) (λ out. absurd (both_ways (is_put ps x) out inside)))
      | inr out ↦
          words_agree m under f ws x whole (λ p. stored_kept m.bytes ps x (inr p)) (λ o. stored_kept m.bytes ps x (inl out))
          ∙ sym (stored_kept (with_words m f ws).bytes ps x (inl out))
    ] in
    let mcon : (with_words (with_writes m ps) f ws).mcon ≡ (with_words m f ws).mcon = words_mcon (with_writes m ps) f ws ∙ sym (words_mcon m f ws) in
    λ i. record { bytes = λ x. at x i; mcon = mcon i }

abbrev pub AreBeside : List (ℕ × ℕ) → List Frame → Type 0
AreBeside ps hs = AllByRecursion (λ f. IsBeside ps f.address) hs

-- writes beside the held frames reach the memory with these laid over it
pub over_stored : (hs : List Frame) (m : Memory) (ps : List (ℕ × ℕ)) → AreWhole hs → AreBeside ps hs → over hs (with_writes m ps) ≡ with_writes (over hs m) ps
unfolding over
over_stored [] m ps whole beside = refl
over_stored (h ∷ hs) m ps whole beside =
    rw (store_beside m ps h.address h.words whole.0 beside.0) (over_stored hs (with_words m h.address h.words) ps whole.1 beside.1)

-- ---- bytes beside all held frames

-- the byte is in none of these frames, or in the port page
abbrev pub AreKept : ℕ → List Frame → Type 0
AreKept x hs = AllByRecursion (λ f. (in_bytes f.address FRAME_SIZE x ≡ false) ⊎ (in_port_page x ≡ true)) hs

pub over_kept : (hs : List Frame) (m : Memory) (x : ℕ) → AreWhole hs → AreKept x hs → (over hs m).bytes x ≡ m.bytes x
unfolding over
over_kept [] m x whole kept = refl
over_kept (h ∷ hs) m x whole kept = over_kept hs (with_words m h.address h.words) x whole.1 kept.1 ∙ words_kept m h.address h.words x whole.0 kept.0
