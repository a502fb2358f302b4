-- Registers that are set to those of a frame.
use Rattle.std.proofs.Common.{◌≡◌, ◌≢◌, ℕ, zero, suc, ◌+◌, ◌<◌, ◌≤◌, false, List, [], ◌∷◌, length, get_or, Option, unwrap_or, refl, ap, ◌∙◌, arith}
use Rattle.std.proofs.lemmas.Bool.Decides.{nat_tests}
use Rattle.i9_isa.specs.Resources.{is_in_frame}
use Rattle.i9_model.specs.declared.layout.TheConstants.{LOCALS, FP}
use Rattle.i9_model.specs.Writes.{put, written, pairs_at}
use Rattle.i9_model.specs.State.{frame_sets}
use Rattle.i9_model.proofs.LastPuts.{frame_beside}
use Rattle.i9_model.proofs.Stored.{written-append, written-last}

-- values in a row leave the places before them
pairs_before : (f : ℕ → ℕ) (n : ℕ) (vs : List ℕ) (x : ℕ) → x < n → written f (pairs_at (λ k. k) n vs) x ≡ f x
unfolding written
pairs_before f n [] x h = refl
pairs_before f n (v ∷ vs) x h = pairs_before (put f n v) (n + 1) vs x (omega (arith, h)) ∙ grind (arith, h)

-- each stands at its place
pairs_stand : (f : ℕ → ℕ) (n : ℕ) (vs : List ℕ) (k : ℕ) → k < length vs → written f (pairs_at (λ k. k) n vs) (n + k) ≡ get_or vs k 0
unfolding written
pairs_stand f n [] k h = absurd (omega (arith, h))
pairs_stand f n (v ∷ vs) zero h =
    let here : n + 0 ≡ n = omega arith in
    ap (written (put f n v) (pairs_at (λ k. k) (n + 1) vs)) here ∙ pairs_before (put f n v) (n + 1) vs n (omega arith) ∙ grind arith
pairs_stand f n (v ∷ vs) (suc k) h =
    let next : n + suc k ≡ n + 1 + k = omega arith in
    ap (written (put f n v) (pairs_at (λ k. k) (n + 1) vs)) next ∙ pairs_stand (put f n v) (n + 1) vs k (omega (arith, h))

-- the locals, and then fp
frame_written : (f : ℕ → ℕ) (ws : List ℕ) (fp : ℕ) → written f (frame_sets ws fp) ≡ put (written f (pairs_at (λ r. r) 0 ws)) FP fp
unfolding written
frame_written f ws fp = written-append f (pairs_at (λ r. r) 0 ws) ((FP, fp) ∷ [])

pub frame_local : (f : ℕ → ℕ) (ws : List ℕ) (fp r : ℕ) → length ws ≡ LOCALS → r < LOCALS → written f (frame_sets ws fp) r ≡ get_or ws r 0
frame_local f ws fp r whole h =
    let front = written f (pairs_at (λ r. r) 0 ws) in
    let from : r ≡ 0 + r = omega arith in
    ap (λ (g : ℕ → ℕ). g r) (frame_written f ws fp)
    ∙ grind (arith, h)
    ∙ ap front from
    ∙ pairs_stand f 0 ws r (omega (arith, whole, h))

pub frame_pointer : (f : ℕ → ℕ) (ws : List ℕ) (fp : ℕ) → written f (frame_sets ws fp) FP ≡ fp
frame_pointer f ws fp = ap (λ (g : ℕ → ℕ). g FP) (frame_written f ws fp) ∙ grind arith

pub frame_others : (f : ℕ → ℕ) (ws : List ℕ) (fp r : ℕ) → length ws ≡ LOCALS → LOCALS ≤ r → r ≢ FP
    → written f (frame_sets ws fp) r ≡ f r
frame_others f ws fp r whole h other =
    let none : is_in_frame r ≡ false = grind (arith, nat_tests, h, other) in
    written-last f (frame_sets ws fp) r ∙ ap (λ (o : Option ℕ). unwrap_or o (f r)) (frame_beside ws fp r whole none)
