-- Pieces of bytes that stand under writes.
use Rattle.std.proofs.Common.{◌≡◌, ℕ, zero, suc, ◌+◌, ◌-◌, ◌^◌, ◌<◌, ◌≤◌, false, List, [], ◌∷◌, ◌++◌, length, length-append, map, take, reverse, get_or, Some, None, refl, sym, ap, ◌∙◌, subst, append_assoc, arith}
use Rattle.i9_model.proofs.Upwards.{one_write}
use Rattle.i9_model.proofs.Reading.{read_more, read_length}
use Rattle.std.specs.Prelude.{◌==◌, slice_get}
use Rattle.std.specs.List.{AllByRecursion}
use Rattle.std.proofs.lemmas.Bool.{or_from, or_parts}
use Rattle.std.proofs.lemmas.List.{append-nil, length-map, map-append, take_more, length-reverse, get_or-reverse}
use Rattle.std.proofs.lemmas.Option.{get_or_from_slice_get, slice_get-get_or, none-some}
use Rattle.i9_model.specs.declared.frame.Frame.{Frame}
use Rattle.i9_model.specs.declared.layout.TheConstants.{LOCALS, FRAME_SIZE}
use Rattle.i9_model.specs.Frames.{in_bytes, is_put}
use Rattle.i9_model.specs.HeldFrames.{AreWhole}
use Rattle.i9_model.specs.Memory.{Memory}
use Rattle.i9_model.specs.Step.{bytes_of_words}
use Rattle.i9_model.specs.Writes.{upwards}
use Rattle.i9_model.proofs.Lengths.{frame_long}
use Rattle.i9_model.proofs.Runs.{is_put-upwards}
use Rattle.i9_course.specs.Course.{frame_writes, oldest_writes, all_writes}
use Rattle.i9_shade.specs.Shade.{Piece, Lacks}
use Rattle.i9_pipeline.specs.Raw.{stood, HaveStood, Cover, Hides}
use Rattle.i9_pipeline.specs.Adding.{under, Adds}

-- ---- bytes in a row

pub ruleset bytes_rules = (read_more)

-- ---- pieces in a row

all_append : (P : Piece → Type 0) (ps qs : List Piece) → AllByRecursion P ps → AllByRecursion P qs → AllByRecursion P (ps ++ qs)
all_append P [] qs h k = k
all_append P (p ∷ ps) qs h k = (h.0, all_append P ps qs h.1 k)

pub all_front : (P : Piece → Type 0) (ps qs : List Piece) → AllByRecursion P (ps ++ qs) → AllByRecursion P ps
all_front P [] qs h = tt
all_front P (p ∷ ps) qs h = (h.0, all_front P ps qs h.1)

pub all_back : (P : Piece → Type 0) (ps qs : List Piece) → AllByRecursion P (ps ++ qs) → AllByRecursion P qs
all_back P [] qs h = h
all_back P (p ∷ ps) qs h = all_back P ps qs h.1

-- ---- writes in a row

none_put : (ps qs : List (ℕ × ℕ)) (x : ℕ) → is_put ps x ≡ false → is_put qs x ≡ false → is_put (ps ++ qs) x ≡ false
unfolding is_put
none_put [] qs x h k = k
none_put (p ∷ ps) qs x h k =
    let parts = or_parts (x == p.0) (is_put ps x) h in
    or_from (x == p.0) (is_put (ps ++ qs) x) parts.0 (none_put ps qs x parts.1 k)

nothing_put : (x : ℕ) → is_put [] x ≡ false
unfolding is_put
nothing_put x = refl

-- ---- what is added

pub adds_nothing : (f : ℕ → ℕ) (n : ℕ) (ps : List Piece) → Adds f [] n ps ps
adds_nothing f n ps = record { added = []; is = sym (append-nil ps); few = omega arith; same = tt; covers = λ x h. nothing_put x }

pub adds_row : (f : ℕ → ℕ) (a : ℕ) (bytes : List ℕ) (ps : List Piece) → Adds f (upwards a bytes) 1 ps (ps ++ stood f a (length bytes) ∷ [])
adds_row f a bytes ps =
    let long = read_length f a (length bytes) in
    record {
      added = stood f a (length bytes) ∷ [];
      is = refl;
      few = omega arith;
      same = (ap (stood f a) (sym long), tt);
      covers = λ x h. is_put-upwards a bytes x ∙ ap (λ (n : ℕ). in_bytes a n x) (sym long) ∙ h.0;
    }

pub adds_frame : (f : ℕ → ℕ) (m : Memory) (frame : Frame) (ps : List Piece) → length frame.words ≡ LOCALS
    → Adds f (frame_writes m frame) 1 ps (ps ++ stood f frame.address FRAME_SIZE ∷ [])
adds_frame f m frame ps whole =
    subst (λ (n : ℕ). Adds f (frame_writes m frame) 1 ps (ps ++ stood f frame.address n ∷ [])) (frame_long m frame.address frame.words whole)
    (adds_row f frame.address (bytes_of_words m frame.address frame.words) ps)

-- an address below 2^32 is its own place
pub adds_one : (f : ℕ → ℕ) (a v : ℕ) (ps : List Piece) → a < 2 ^ 32 → Adds f ((a, v) ∷ []) 1 ps (ps ++ stood f a 1 ∷ [])
adds_one f a v ps low = subst (λ (w : List (ℕ × ℕ)). Adds f w 1 ps (ps ++ stood f a 1 ∷ [])) (one_write a v low) (adds_row f a (v ∷ []) ps)

pub adds_both : (f : ℕ → ℕ) (v w : List (ℕ × ℕ)) (m n : ℕ) (old mid new : List Piece) → Adds f v m old mid → Adds f w n mid new → Adds f (v ++ w) (m + n) old new
adds_both f v w m n old mid new a b =
    let first : length a.added ≤ m = a.few in
    let then : length b.added ≤ n = b.few in
    let long : length (a.added ++ b.added) ≡ length a.added + length b.added = length-append a.added b.added in
    record {
      added = a.added ++ b.added;
      is = b.is ∙ ap (λ (ps : List Piece). ps ++ b.added) a.is ∙ append_assoc old a.added b.added;
      few = omega (arith, first, then, long);
      same = all_append (λ p. p ≡ stood f p.address (length p.bytes)) a.added b.added a.same b.same;
      covers = λ x h. none_put v w x (a.covers x (all_front (Lacks x) a.added b.added h)) (b.covers x (all_back (Lacks x) a.added b.added h));
    }

-- ---- the frames that are held

under_same : (f : ℕ → ℕ) (fs : List Frame) → HaveStood f (under f fs)
under_same f [] = tt
under_same f (frame ∷ fs) = (ap (stood f frame.address) (sym (read_length f frame.address FRAME_SIZE)), under_same f fs)

-- an address beside all of them is beside each frame
beside_each : (f : ℕ → ℕ) (x : ℕ) (fs : List Frame) (j : ℕ) (d : Frame) → AllByRecursion (Lacks x) (under f fs) → j < length fs
    → in_bytes (get_or fs j d).address FRAME_SIZE x ≡ false
beside_each f x [] j d h lt = absurd (omega (arith, lt))
beside_each f x (frame ∷ fs) zero d h lt = ap (λ (n : ℕ). in_bytes frame.address n x) (sym (read_length f frame.address FRAME_SIZE)) ∙ h.0
beside_each f x (frame ∷ fs) (suc j) d h lt = beside_each f x fs j d h.1 (omega (arith, lt))

-- so nothing of theirs is written there
none_written : (m : Memory) (x : ℕ) (fs : List Frame) (d : Frame) → AreWhole fs
    → ((j : ℕ) → j < length fs → in_bytes (get_or fs j d).address FRAME_SIZE x ≡ false) → is_put (all_writes m fs) x ≡ false
none_written m x [] d whole h = nothing_put x
none_written m x (frame ∷ fs) d whole h =
    none_put (frame_writes m frame) (all_writes m fs) x
    (is_put-upwards frame.address (bytes_of_words m frame.address frame.words) x
    ∙ ap (λ (n : ℕ). in_bytes frame.address n x) (frame_long m frame.address frame.words whole.0) ∙ h 0 (omega arith))
    (none_written m x fs d whole.1 (λ j lt. h (suc j) (omega (arith, lt))))

pub adds_held : (f : ℕ → ℕ) (m : Memory) (fs : List Frame) (d : Frame) (n : ℕ) → AreWhole fs → length fs ≤ n → Adds f (all_writes m fs) n [] (under f (reverse fs))
adds_held f m fs d n whole most =
    let long : length (reverse fs) ≡ length fs = length-reverse fs in
    let pieces : length (under f (reverse fs)) ≡ length (reverse fs) = length-map (reverse fs) (λ frame. stood f frame.address FRAME_SIZE) in
    record {
      added = under f (reverse fs);
      is = refl;
      few = omega (arith, long, pieces);
      same = under_same f (reverse fs);
      covers = λ x h. none_written m x fs d whole (λ j lt.
          let place : length fs - 1 - (length fs - 1 - j) ≡ j = omega (arith, lt) in
          sym (ap (λ (frame : Frame). in_bytes frame.address FRAME_SIZE x)
          (get_or-reverse fs (length fs - 1 - j) d (omega (arith, lt)) ∙ ap (λ (k : ℕ). get_or fs k d) place))
          ∙ beside_each f x (reverse fs) (length fs - 1 - j) d h (omega (arith, lt, long)));
    }

-- one more of them
pub under_more : (f : ℕ → ℕ) (fs : List Frame) (k : ℕ) (frame : Frame) → slice_get (reverse fs) k ≡ Some frame → k < length fs
    → under f (take (k + 1) (reverse fs)) ≡ under f (take k (reverse fs)) ++ stood f frame.address FRAME_SIZE ∷ []
under_more f fs k frame is lt =
    let long : length (reverse fs) ≡ length fs = length-reverse fs in
    let g = λ (x : Frame). stood f x.address FRAME_SIZE in
    ap (map g) (take_more (reverse fs) k frame (omega (arith, lt, long)))
    ∙ map-append g (take k (reverse fs)) (get_or (reverse fs) k frame ∷ [])
    ∙ ap (λ (x : Frame). map g (take k (reverse fs)) ++ g x ∷ []) (get_or_from_slice_get (reverse fs) k frame frame is)

-- the oldest
pub oldest_is : (fs : List Frame) (frame : Frame) → 0 < length fs → slice_get (reverse fs) (length fs - 1) ≡ Some frame → get_or fs 0 frame ≡ frame
oldest_is fs frame some is =
    let place : length fs - 1 - (length fs - 1) ≡ 0 = omega arith in
    sym (ap (λ (k : ℕ). get_or fs k frame) place) ∙ sym (get_or-reverse fs (length fs - 1) frame (omega (arith, some)))
    ∙ get_or_from_slice_get (reverse fs) (length fs - 1) frame frame is

pub adds_oldest : (f : ℕ → ℕ) (m : Memory) (fs : List Frame) (frame : Frame) → AreWhole fs → 0 < length fs → get_or fs 0 frame ≡ frame
    → Adds f (oldest_writes m fs) 1 [] (stood f frame.address FRAME_SIZE ∷ [])
adds_oldest f m [] frame whole some is = absurd (omega (arith, some))
adds_oldest f m (first ∷ fs) frame whole some is =
    subst (λ (x : Frame). Adds f (oldest_writes m (first ∷ fs)) 1 [] (stood f x.address FRAME_SIZE ∷ [])) is
    (adds_frame f m first [] whole.0)

-- what is added to nothing hides
pub hides_of : (f : ℕ → ℕ) (puts : List (ℕ × ℕ)) (n : ℕ) (ps : List Piece) → Adds f puts n [] ps → Hides f puts ps
hides_of f puts n ps a = record {
  same = subst (HaveStood f) (sym a.is) a.same;
  covers = subst (Cover puts) (sym a.is) a.covers;
}

-- some frame
pub no_frame : Frame
no_frame = record { address = 0; words = [] }

-- none is missing
pub held_there : (fs : List Frame) (k : ℕ) → k < length fs → slice_get (reverse fs) k ≡ None → ⊥
held_there fs k lt none =
    let long : length (reverse fs) ≡ length fs = length-reverse fs in
    none-some (get_or (reverse fs) k no_frame) (sym none ∙ slice_get-get_or (reverse fs) k no_frame (omega (arith, lt, long)))
