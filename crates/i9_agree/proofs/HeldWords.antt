-- The words of held frames stand in memory.
use Rattle.std.proofs.Common.{◌≡◌, ℕ, ◌+◌, ◌*◌, ◌<◌, ◌^◌, Bool, true, false, cond, List, [], ◌∷◌, ◌++◌, length, get_or, refl, sym, ap, ◌∙◌, subst, append_assoc, arith}
use Rattle.std.proofs.lemmas.List.{append-nil}
use Rattle.std.specs.List.{AllByRecursion}
use Rattle.std.proofs.lemmas.Bool.{or_left, or_right}
use Rattle.std.specs.Int.{w32, from_le_bytes, from_be_bytes, to_le_bytes, to_be_bytes}
use Rattle.i9_model.specs.declared.layout.TheConstants.{LOCALS, FRAME_SIZE}
use Rattle.i9_model.specs.declared.frame.Frame.{Frame}
use Rattle.i9_model.specs.Writes.{address_count, wrapped}
use Rattle.i9_model.specs.Memory.{Memory, in_port_page, region_of, is_big, ordered_word, word_in, word_bytes, with_words}
use Rattle.i9_model.specs.Frames.{in_bytes, in_frames}
use Rattle.i9_model.specs.Sound.{AreApart}
use Rattle.i9_model.specs.Run.{Given, Record, IsPastOfSome, next_with, state_after}
use Rattle.i9_model.specs.Alike.{with_other, is_hard}
use Rattle.i9_model.specs.HeldFrames.{over, overlaid, cache_after, youngest_first, AreWhole, AreInMemory}
use Rattle.i9_model.proofs.Lengths.{four_bytes}
use Rattle.i9_agree.proofs.SoundRuns.{sound-after}
use Rattle.i9_model.proofs.Readings.{four, in_bytes-has}
use Rattle.i9_model.proofs.FrameBytes.{frame_byte}
use Rattle.i9_agree.proofs.Overlays.{words_mcon, over_kept}
use Rattle.i9_agree.proofs.HeldFrames.{all_kept, all_live, later_live, older_than}
use Rattle.i9_agree.proofs.HeldRuns.{cached-after}

-- ---- a word by its four bytes

pub four_list : (bs : List ℕ) → length bs ≡ 4 → get_or bs 0 0 ∷ get_or bs 1 0 ∷ get_or bs 2 0 ∷ get_or bs 3 0 ∷ [] ≡ bs
four_list (a ∷ b ∷ c ∷ d ∷ []) h = refl
four_list _ h = absurd (omega arith)

pub by_order : (big : Bool) (w : ℕ) → w < 2 ^ 32 → cond big (from_be_bytes w32 (cond big (to_be_bytes w32 w) (to_le_bytes w32 w))) (from_le_bytes w32 (cond big (to_be_bytes w32 w) (to_le_bytes w32 w))) ≡ w
by_order big w h = grind arith

-- the word whose bytes stand at an address
word_back : (m : Memory) (g : ℕ → ℕ) (x w : ℕ) → x < address_count → w < 2 ^ 32 → ((j : ℕ) → j < 4 → g (wrapped (x + j)) ≡ get_or (word_bytes m x w) j 0) → word_in (with_other m g) x ≡ w
unfolding word_in word_bytes
word_back m g x w low small has =
    let bs = word_bytes m x w in
    let here : wrapped (x + 0) ≡ x = omega arith in
    let first : g x ≡ get_or bs 0 0 = rw here at (has 0 (omega arith)) in
    rw (first, has 1 (omega arith), has 2 (omega arith), has 3 (omega arith))
    (ap (ordered_word m x) (four_list bs (four_bytes m x w)) ∙ by_order (is_big m (region_of x)) w small)

-- ---- the bytes of held frames

-- the bytes of a frame's words, in the orders of a memory
abbrev HasBytes : Memory → (ℕ → ℕ) → Frame → Type 0
HasBytes m g f = f.address < address_count → (i j : ℕ) → i < LOCALS → j < 4
    → in_port_page (wrapped (f.address + (4 * i + j))) ≡ false
    → g (wrapped (f.address + (4 * i + j))) ≡ get_or (word_bytes m (wrapped (f.address + 4 * i)) (get_or f.words i 0)) j 0

abbrev AllHaveBytes : Memory → (ℕ → ℕ) → List Frame → Type 0
AllHaveBytes m g fs = AllByRecursion (HasBytes m g) fs

-- an older frame is beside those that are younger
apart_from : (gs older : List ℕ) (a x : ℕ) → AreApart (gs ++ a ∷ older) → in_bytes a FRAME_SIZE x ≡ true → in_frames gs x ≡ false
apart_from [] older a x apart t = refl
apart_from (g ∷ gs) older a x apart t = grind (arith, later_live, or_left, apart_from gs older a x apart.1 t)

-- bytes that are stored go by configuration words alone
orders_alone : (m k : Memory) (x w : ℕ) → k.mcon ≡ m.mcon → word_bytes k x w ≡ word_bytes m x w
unfolding word_bytes
orders_alone m k x w same = ap (λ (c : ℕ → ℕ). word_bytes (record m { mcon = c }) x w) same

other_orders : (m k : Memory) (g : ℕ → ℕ) (fs : List Frame) → k.mcon ≡ m.mcon → AllHaveBytes k g fs → AllHaveBytes m g fs
other_orders m k g [] same has = tt
other_orders m k g (f ∷ fs) same has = grind (arith, orders_alone, other_orders m k g fs same has.1)

-- each frame's bytes stand in what the frames make of a memory
laid_bytes : (hs : List Frame) (older : List ℕ) (m : Memory) → AreApart (youngest_first hs ++ older) → AreWhole hs → AllHaveBytes m (over hs m).bytes hs
unfolding over
laid_bytes [] older m apart whole = tt
laid_bytes (f ∷ fs) older m apart whole =
    let k = with_words m f.address f.words in
    let order : youngest_first (f ∷ fs) ++ older ≡ youngest_first fs ++ (f.address ∷ older) = append_assoc (youngest_first fs) (f.address ∷ []) older in
    let beside : AreApart (youngest_first fs ++ (f.address ∷ older)) = subst AreApart order apart in (
      (λ low i j h l port.
          let x = wrapped (f.address + (4 * i + j)) in
          over_kept fs k x whole.1 (all_kept x fs [] (ap (λ (l : List ℕ). in_frames l x) (append-nil (youngest_first fs)) ∙ apart_from (youngest_first fs) older f.address x beside (in_bytes-has f.address FRAME_SIZE (4 * i + j) (omega arith))))
          ∙ frame_byte m f.address f.words i j low whole.0 h l port),
      other_orders m k (over fs k).bytes fs (words_mcon m f.address f.words) (laid_bytes fs (f.address ∷ older) k beside whole.1),
    )

-- so their words stand in a memory that has the same bytes there
words_stand : (m : Memory) (g : ℕ → ℕ) (hs : List Frame) (older : List ℕ) → ((x : ℕ) → in_frames (youngest_first hs ++ older) x ≡ true → in_port_page x ≡ false)
    → AllHaveBytes m g hs → AreInMemory (with_other m g) hs
words_stand m g [] older outside has = tt
words_stand m g (f ∷ fs) older outside has =
    let order : youngest_first (f ∷ fs) ++ older ≡ youngest_first fs ++ (f.address ∷ older) = append_assoc (youngest_first fs) (f.address ∷ []) older in
    let rest : (x : ℕ) → in_frames (youngest_first fs ++ (f.address ∷ older)) x ≡ true → in_port_page x ≡ false = rw order at outside in (
      (λ low k h small. word_back m g (wrapped (f.address + 4 * k)) (get_or f.words k 0) (omega arith) small (λ j l.
          let place : wrapped (wrapped (f.address + 4 * k) + j) ≡ wrapped (f.address + (4 * k + j)) = omega arith in
          let inside = in_bytes-has f.address FRAME_SIZE (4 * k + j) (omega arith) in
          ap g place ∙ has.0 low k j h l (rest (wrapped (f.address + (4 * k + j))) (later_live (youngest_first fs) (f.address ∷ older) (wrapped (f.address + (4 * k + j))) (or_left (in_bytes f.address FRAME_SIZE (wrapped (f.address + (4 * k + j)))) (in_frames older (wrapped (f.address + (4 * k + j)))) inside))))),
      words_stand m g fs (f.address ∷ older) rest has.1,
    )

-- bytes that a memory has where frames are live
same_live : (m : Memory) (g h : ℕ → ℕ) (hs : List Frame) (older : List ℕ) → ((x : ℕ) → in_frames (youngest_first hs ++ older) x ≡ true → g x ≡ h x) → AllHaveBytes m g hs → AllHaveBytes m h hs
same_live m g h [] older same has = tt
same_live m g h (f ∷ fs) older same has =
    let order : youngest_first (f ∷ fs) ++ older ≡ youngest_first fs ++ (f.address ∷ older) = append_assoc (youngest_first fs) (f.address ∷ []) older in
    let rest : (x : ℕ) → in_frames (youngest_first fs ++ (f.address ∷ older)) x ≡ true → g x ≡ h x = rw order at same in (
      (λ low i j k l port.
          let x = wrapped (f.address + (4 * i + j)) in
          let inside = in_bytes-has f.address FRAME_SIZE (4 * i + j) (omega arith) in
          sym (rest x (later_live (youngest_first fs) (f.address ∷ older) x (or_left (in_bytes f.address FRAME_SIZE x) (in_frames older x) inside))) ∙ has.0 low i j k l port),
      same_live m g h fs (f.address ∷ older) rest has.1,
    )

-- along a run
pub held-in-memory : (g : Given) (rs : List Record) → IsPastOfSome (next_with g) rs → AreInMemory (state_after g rs).memory (cache_after g rs).held
held-in-memory g rs past =
    let s = state_after g rs in
    let c = cache_after g rs in
    let cached = cached-after g rs past in
    let sound = sound-after g rs past in
    let older = older_than c.held s.frames.live in
    let all = all_live c.held s.frames.live cached.youngest in
    let live : (x : ℕ) → in_frames (youngest_first c.held ++ older) x ≡ true → in_frames s.frames.live x ≡ true = λ x t. rw all t in
    let laid = laid_bytes c.held older c.behind (subst AreApart all sound.apart) cached.youngest.whole in
    let here : AllHaveBytes s.memory (overlaid c).bytes c.held = other_orders s.memory c.behind (overlaid c).bytes c.held cached.regions laid in
    words_stand s.memory s.memory.bytes c.held older (λ x t. sound.outside x (live x t))
    (same_live s.memory (overlaid c).bytes s.memory.bytes c.held older (λ x t. cached.bytes x (or_right (is_hard s.frames x) (in_frames s.frames.live x) (live x t))) here)
