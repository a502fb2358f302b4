-- A place among so many from an address on.
use Rattle.std.proofs.Common.{◌≡◌, ℕ, zero, suc, ◌+◌, ◌<◌, Bool, true, false, refl, sym, ap, ◌∙◌, arith}
use Rattle.std.specs.Prelude.{◌==◌, ◌||◌, nat_le}
use Rattle.std.specs.List.{list_any}
use Rattle.std.proofs.lemmas.Bool.{eqb-true, eq-eqb, or_left, or_right}
use Rattle.i9_model.specs.declared.layout.TheConstants.{FRAME_SIZE}
use Rattle.i9_model.specs.Writes.{address_count, wrapped}
use Rattle.i9_model.specs.Frames.{places, in_bytes}
use Rattle.i9_model.specs.Hazards.{return_place}

here_first : (a : ℕ) → wrapped (a + 0) ≡ wrapped a
here_first a = omega arith

here_later : (a k : ℕ) → wrapped (a + 1 + k) ≡ wrapped (a + suc k)
here_later a k = omega arith

-- one of so many bytes from an address on
pub in_bytes-has : (a n k : ℕ) → k < n → in_bytes a n (wrapped (a + k)) ≡ true
unfolding in_bytes
in_bytes-has a zero k h = absurd (omega arith)
in_bytes-has a (suc n) zero h = or_left _ _ (eq-eqb (wrapped (a + 0)) (wrapped a) (here_first a))
in_bytes-has a (suc n) (suc k) h = grind (arith, here_later, or_right, in_bytes-has (a + 1) n k (omega arith))

-- a place among so many from a number on
abbrev pub IsAmong : ℕ → ℕ → ℕ → Type 0
IsAmong a n x = (k : ℕ) × (k < n) × (x ≡ wrapped (a + k))

later-among : (a n x : ℕ) → IsAmong (a + 1) n x → IsAmong a (suc n) x
later-among a n x h =
    let next : a + 1 + h.0 ≡ a + (1 + h.0) = omega arith in
    (1 + h.0, omega (arith, h.1), h.2 ∙ ap wrapped next)

pub bytes-among : (a n x : ℕ) → in_bytes a n x ≡ true → IsAmong a n x
unfolding in_bytes
bytes-among a zero x t = absurd cc
bytes-among a (suc n) x t = by_first (x == wrapped a) refl t (λ k. bytes-among (a + 1) n x k)
  where
    none : a + 0 ≡ a
    none = omega arith

    by_first : (b : Bool) → (x == wrapped a) ≡ b → (b || list_any (λ y. x == y) (places (a + 1) n)) ≡ true → (list_any (λ y. x == y) (places (a + 1) n) ≡ true → IsAmong (a + 1) n x) → IsAmong a (suc n) x
    by_first true e t later = (0, omega arith, eqb-true x (wrapped a) e ∙ ap wrapped (sym none))
    by_first false e t later = later-among a n x (later t)

pub among-bytes : (a n x : ℕ) → IsAmong a n x → in_bytes a n x ≡ true
among-bytes a n x h = ap (in_bytes a n) h.2 ∙ in_bytes-has a n h.0 h.1

-- no address is past the last one
pub among-address : (a n x : ℕ) → IsAmong a n x → nat_le address_count x ≡ false
among-address a n x h = grind arith

-- ---- return addresses

pub return-inside : (f x : ℕ) → in_bytes (return_place f) 4 x ≡ true → in_bytes f FRAME_SIZE x ≡ true
return-inside f x t =
    let r = bytes-among (return_place f) 4 x t in
    let k = r.0 in
    let place : wrapped (wrapped (f + 8) + k) ≡ wrapped (f + (8 + k)) = omega arith in
    among-bytes f FRAME_SIZE x (8 + k, omega (arith, r.1), r.2 ∙ place)
