-- Runs of places with marks, one behind the other.
use Rattle.std.proofs.Common.{◌≡◌, ℕ, zero, suc, ◌+◌, ◌*◌, ◌<◌, ◌≤◌, Bool, true, false, List, [], ◌∷◌, ◌++◌, length, map, refl, sym, ap, ◌∙◌, arith}
use Rattle.std.specs.Prelude.{◌&&◌, ◌||◌, ◌==◌, if◌then◌else◌}
use Rattle.std.specs.List.{list_any, range_with_len}
use Rattle.std.proofs.Math.Nat.{mul-suc, mul-le-mul_left}
use Rattle.std.proofs.lemmas.List.FromFn.{map-range_with_len_more, length-map-range_with_len}
use Rattle.i9_isa.specs.Words.{bit}
use Rattle.i9_model.specs.Writes.{wrapped}
use Rattle.i9_model.specs.Frames.{places, in_bytes, has}
use Rattle.i9_model.specs.Stale.{picked, byte_marks}
use Rattle.i9_model.specs.declared.layout.TheConstants.{FRAME_SIZE}
use Rattle.i9_model.proofs.Among.{among-bytes}
use Rattle.i9_model.proofs.SavedMarks.{picked-among}
use Rattle.i9_watch.specs.declared.page.Mark.{Mark}
use Rattle.i9_watch.specs.declared.page.Change.{Change}
use Rattle.i9_watch.specs.Marks.{changed_run, changed_where}
use Rattle.i9_watch.specs.Bits.{bits_of, in_runs}
use Rattle.i9_watch.proofs.Marking.{same_marks, or_false, if_either}
use Rattle.i9_watch.proofs.SetBits.{bit_none}

-- ---- as places that are picked

pub runs-bytes : (a : ℕ) (bs : List Bool) (x : ℕ) → in_runs a 1 bs x ≡ has (picked wrapped a bs) x
unfolding in_runs in_bytes
runs-bytes a [] x = refl
runs-bytes a (true ∷ bs) x = rw (runs-bytes (a + 1) bs x) (grind arith)
runs-bytes a (false ∷ bs) x = runs-bytes (a + 1) bs x

four_on : (a : ℕ) (bs : List Bool) → picked wrapped (a + 1 + 1 + 1 + 1) bs ≡ picked wrapped (a + 4) bs
four_on a bs = let e : a + 1 + 1 + 1 + 1 ≡ a + 4 = omega arith in ap (λ (n : ℕ). picked wrapped n bs) e

pub runs-words : (a : ℕ) (bs : List Bool) (x : ℕ) → in_runs a 4 bs x ≡ has (picked wrapped a (byte_marks bs)) x
unfolding in_runs in_bytes
runs-words a [] x = refl
runs-words a (true ∷ bs) x = rw (runs-words (a + 4) bs x, ← four_on a (byte_marks bs)) (grind arith)
runs-words a (false ∷ bs) x = runs-words (a + 4) bs x ∙ ap (λ (ps : List ℕ). has ps x) (sym (four_on a (byte_marks bs)))

-- ---- one run more

places-wrapped : (y z n : ℕ) → wrapped y ≡ wrapped z → places y n ≡ places z n
places-wrapped y z zero e = refl
places-wrapped y z (suc n) e =
    let next : wrapped (y + 1) ≡ wrapped (z + 1) = omega (arith, e) in
    ap (λ (p : ℕ). p ∷ places (y + 1) n) e ∙ ap (λ (ps : List ℕ). wrapped z ∷ ps) (places-wrapped (y + 1) (z + 1) n next)

pub bytes-wrapped : (y n x : ℕ) → in_bytes y n x ≡ in_bytes (wrapped y) n x
unfolding in_bytes
bytes-wrapped y n x = let e : wrapped y ≡ wrapped (wrapped y) = omega arith in ap (list_any (λ (p : ℕ). x == p)) (places-wrapped y (wrapped y) n e)

runs-append : (a w : ℕ) (bs : List Bool) (b : Bool) (x : ℕ) → in_runs a w (bs ++ b ∷ []) x ≡ (in_runs a w bs x || (b && in_bytes (a + w * length bs) w x))
unfolding in_runs
runs-append a w [] b x = let here : a + w * 0 ≡ a = omega arith in rw here (grind arith)
runs-append a w (c ∷ bs) b x =
    let place : a + w * suc (length bs) ≡ a + w + w * length bs = omega (arith, mul-suc w (length bs)) in
    rw (place, runs-append (a + w) w bs b x) (grind arith)

bits-more : (w k : ℕ) → bits_of w (k + 1) ≡ bits_of w k ++ bit w k ∷ []
bits-more w k =
    let e : 0 + k ≡ k = omega arith in
    map-range_with_len_more (bit w) 0 k (0 + k) refl ∙ ap (λ (n : ℕ). bits_of w k ++ bit w n ∷ []) e

pub runs-more : (a w v k x : ℕ) → in_runs a w (bits_of v (k + 1)) x ≡ (in_runs a w (bits_of v k) x || (bit v k && in_bytes (wrapped (a + w * k)) w x))
runs-more a w v k x =
    ap (λ (bs : List Bool). in_runs a w bs x) (bits-more v k)
    ∙ runs-append a w (bits_of v k) (bit v k) x
    ∙ ap (λ (n : ℕ). in_runs a w (bits_of v k) x || (bit v k && in_bytes (a + w * n) w x)) (length-map-range_with_len (bit v) 0 k)
    ∙ ap (λ (b : Bool). in_runs a w (bits_of v k) x || (bit v k && b)) (bytes-wrapped (a + w * k) w x)

pub runs-none : (a w v x : ℕ) → in_runs a w (bits_of v 0) x ≡ false
unfolding in_runs
runs-none a w v x = refl

-- ---- marks of runs

pub run_none : (c : Change) (m : Mark) (a w v : ℕ) (f : ℕ → Bool) → f ≡ (λ x. changed_where c m (in_runs a w (bits_of v 0) x) (f x))
run_none c m a w v f = same_marks _ _ (λ x. rw runs-none)

-- the words of a frame are in it
pub words-inside : (a v x : ℕ) → in_runs a 4 (bits_of v 16) x ≡ true → in_bytes a FRAME_SIZE x ≡ true
words-inside a v x t = among-bytes a FRAME_SIZE x (picked-among a (byte_marks (bits_of v 16)) x (sym (runs-words a (bits_of v 16) x) ∙ t))

pub run_step : (c : Change) (m : Mark) (a w v k : ℕ) (f g h : ℕ → Bool) → g ≡ (λ x. changed_where c m (in_runs a w (bits_of v k) x) (f x)) → h ≡ (if bit v k then changed_run c m (wrapped (a + w * k)) w g else g)
    → h ≡ (λ x. changed_where c m (in_runs a w (bits_of v (k + 1)) x) (f x))
run_step c m a w v k f g h p q = rw (q, p) (same_marks _ _ (λ x. rw (runs-more a w v k x) (by_bit x (bit v k))))
  where
    before : ℕ → Bool
    before x = changed_where c m (in_runs a w (bits_of v k) x) (f x)

    by_bit : (x : ℕ) (b : Bool) → (if b then changed_run c m (wrapped (a + w * k)) w before else before) x ≡ changed_where c m (in_runs a w (bits_of v k) x || (b && in_bytes (wrapped (a + w * k)) w x)) (f x)
    by_bit x true = if_either c m (in_runs a w (bits_of v k) x) (in_bytes (wrapped (a + w * k)) w x) (f x)
    by_bit x false = ap (λ (b : Bool). changed_where c m b (f x)) (or_false (in_runs a w (bits_of v k) x))

-- a run is among all of them
pub run_inside : (w k n j : ℕ) → k < n → j < w → w * k + j < w * n
run_inside w k n j h l =
    let more = mul-suc w k in
    let rest : w * suc k ≤ w * n = mul-le-mul_left w (omega (arith, h)) in
    omega (arith, more, rest, l)

-- ---- no bit is set

runs-clear : (a w k n x : ℕ) → in_runs a w (map (bit 0) (range_with_len k n)) x ≡ false
unfolding in_runs
runs-clear a w k zero x = refl
runs-clear a w k (suc n) x =
    ap (λ (b : Bool). (b && in_bytes a w x) || in_runs (a + w) w (map (bit 0) (range_with_len (k + 1) n)) x) (bit_none k)
    ∙ runs-clear (a + w) w (k + 1) n x

pub runs-zero : (a w v n x : ℕ) → v ≡ 0 → in_runs a w (bits_of v n) x ≡ false
runs-zero a w v n x e = ap (λ (u : ℕ). in_runs a w (bits_of u n) x) e ∙ runs-clear a w 0 n x

pub runs_unset : (c : Change) (m : Mark) (a w v n : ℕ) (f : ℕ → Bool) → v ≡ 0 → f ≡ (λ x. changed_where c m (in_runs a w (bits_of v n) x) (f x))
runs_unset c m a w v n f e = same_marks _ _ (λ x. rw (runs-zero a w v n x e))
