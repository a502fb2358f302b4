-- The last value of a place among several: behind others, and beside a group and a frame.
use Rattle.std.proofs.Common.{◌≡◌, ℕ, ◌+◌, false, cond, List, ◌∷◌, ◌++◌, length, Option, Some, None, refl, ap, ◌∙◌, arith, []}
use Rattle.std.specs.Prelude.{◌==◌, replicate}
use Rattle.std.proofs.lemmas.Bool.{cond-false, or_parts}
use Rattle.std.proofs.lemmas.Bool.Decides.{nat_tests}
use Rattle.i9_isa.specs.Resources.{is_in_group, is_in_frame}
use Rattle.i9_model.specs.Writes.{pairs_at, or_earlier, last_put}
use Rattle.i9_model.specs.declared.push.Push.{Push}
use Rattle.i9_model.specs.Step.{frame_sets, push_sets}

-- ---- several after others

pub or_none : (o p q : Option ℕ) → or_earlier (or_earlier o p) q ≡ or_earlier o (or_earlier p q)
or_none o p q = grind arith

pub last_append : (ps qs : List (ℕ × ℕ)) (x : ℕ) → last_put (ps ++ qs) x ≡ or_earlier (last_put qs x) (last_put ps x)
unfolding last_put
last_append [] [] x = refl
last_append [] (q ∷ qs) x = grind arith
last_append (p ∷ ps) qs x = grind (arith, or_none, last_append ps qs x)

-- ---- beside a group and a frame

pub group_beside : (r k : ℕ) (vs : List ℕ) → is_in_group r (length vs) k ≡ false → last_put (pairs_at (λ n. n) r vs) k ≡ None
unfolding last_put
group_beside r k [] h = refl
group_beside r k (v ∷ vs) h =
    let less : is_in_group (r + 1) (length vs) k ≡ false = grind (arith, nat_tests, h) in
    let other : (k == r) ≡ false = grind (arith, nat_tests, h) in
    ap (λ (o : Option ℕ). or_earlier o (cond (k == r) (Some v) None)) (group_beside (r + 1) k vs less) ∙ cond-false (k == r) (Some v) None other

pub frame_beside : (ws : List ℕ) (fp k : ℕ) → length ws ≡ 16 → is_in_frame k ≡ false → last_put (frame_sets ws fp) k ≡ None
unfolding last_put
frame_beside ws fp k whole h = grind (arith, or_parts, last_append, cond-false, group_beside)

pub push_beside : (p : Push) (k : ℕ) → is_in_frame k ≡ false → last_put (push_sets p) k ≡ None
push_beside p k h = frame_beside (p.pfp ∷ p.sp ∷ replicate 14 0) p.frame k refl h
