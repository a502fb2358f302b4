-- Writes one after the other, and what is known of a place after them.
use Rattle.std.proofs.Common.{◌≡◌, ℕ, Bool, cond, eqb, List, [], ◌∷◌, ◌++◌, Option, Some, None, unwrap_or, refl, ◌∙◌, arith}
use Rattle.i9_model.specs.Writes.{put, written, or_earlier, last_put}
use Rattle.i9_model.specs.Memory.{Memory, stored, with_writes}

pub written-append : (f : ℕ → ℕ) (ps qs : List (ℕ × ℕ)) → written f (ps ++ qs) ≡ written (written f ps) qs
unfolding written
written-append f [] qs = refl
written-append f (p ∷ ps) qs = written-append (put f p.0 p.1) ps qs

-- one write, and then the others
pub stored-cons : (m : ℕ → ℕ) (p : ℕ × ℕ) (ps : List (ℕ × ℕ)) → stored m (p ∷ ps) ≡ stored (stored m (p ∷ [])) ps
unfolding written
stored-cons m p ps = grind arith

pub stored-append : (m : ℕ → ℕ) (ps qs : List (ℕ × ℕ)) → stored m (ps ++ qs) ≡ stored (stored m ps) qs
unfolding written
stored-append m [] qs = refl
stored-append m (p ∷ ps) qs = grind (arith, stored-cons, stored-append (stored m (p ∷ [])) ps qs)

unwrap-earlier : (later : Option ℕ) (b : Bool) (v d : ℕ) → unwrap_or later (cond b v d) ≡ unwrap_or (or_earlier later (cond b (Some v) None)) d
unwrap-earlier later b v d = grind arith

-- a place has its last value, or the one that it had before
pub written-last : (f : ℕ → ℕ) (ps : List (ℕ × ℕ)) (x : ℕ) → written f ps x ≡ unwrap_or (last_put ps x) (f x)
unfolding written last_put
written-last f [] x = refl
written-last f (p ∷ ps) x = written-last (put f p.0 p.1) ps x ∙ unwrap-earlier (last_put ps x) (eqb x p.0) p.1 (f x)

pub stored-none : (m : ℕ → ℕ) → stored m [] ≡ m
unfolding written
stored-none m = refl

pub with_none : (m : Memory) → with_writes m [] ≡ m
unfolding written
with_none m = refl
