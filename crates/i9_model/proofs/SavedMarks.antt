-- Where the marked bytes of a saved frame are: in its save area, and not in its return address.
use Rattle.std.proofs.Common.{◌≡◌, ℕ, suc, ◌+◌, ◌<◌, Bool, true, false, cond, List, [], ◌∷◌, length, refl, sym, ap, ◌∙◌, arith}
use Rattle.std.specs.Prelude.{◌==◌, ◌||◌, get_or}
use Rattle.std.proofs.lemmas.Bool.{eqb-true}
use Rattle.i9_model.specs.declared.layout.TheConstants.{FRAME_SIZE}
use Rattle.i9_model.specs.Writes.{wrapped}
use Rattle.i9_model.specs.State.{State}
use Rattle.i9_model.specs.Frames.{in_bytes, in_frames, has}
use Rattle.i9_model.specs.Hazards.{return_place}
use Rattle.i9_model.specs.Stale.{picked, byte_marks, saved_marks}
use Rattle.i9_model.specs.Sound.{in_returns}
use Rattle.i9_model.proofs.Among.{IsAmong, bytes-among, among-bytes, return-inside}

-- a marked byte is one of those whose mark is set
abbrev pub IsPicked : ℕ → List Bool → ℕ → Type 0
IsPicked a bs x = (k : ℕ) × (k < length bs) × (x ≡ wrapped (a + k)) × (get_or bs k false ≡ true)

pub picked-at : (a : ℕ) (bs : List Bool) (x : ℕ) → has (picked wrapped a bs) x ≡ true → IsPicked a bs x
picked-at a [] x t = absurd cc
picked-at a (b ∷ bs) x t = by_mark b t (λ k. picked-at (a + 1) bs x k)
  where
    none : a + 0 ≡ a
    none = omega arith

    later : (c : Bool) → IsPicked (a + 1) bs x → IsPicked a (c ∷ bs) x
    later c h =
        let next : a + 1 + h.0 ≡ a + suc h.0 = omega arith in
        (suc h.0, omega (arith, h.1), h.2 ∙ ap wrapped next, h.3)

    by_place : (e : Bool) → (x == wrapped a) ≡ e → (e || has (picked wrapped (a + 1) bs) x) ≡ true → (has (picked wrapped (a + 1) bs) x ≡ true → IsPicked (a + 1) bs x) → IsPicked a (true ∷ bs) x
    by_place true e k rest = (0, omega arith, eqb-true x (wrapped a) e ∙ ap wrapped (sym none), refl)
    by_place false e k rest = later true (rest k)

    by_mark : (c : Bool) → has (cond c (wrapped a ∷ picked wrapped (a + 1) bs) (picked wrapped (a + 1) bs)) x ≡ true → (has (picked wrapped (a + 1) bs) x ≡ true → IsPicked (a + 1) bs x) → IsPicked a (c ∷ bs) x
    by_mark true k rest = by_place (x == wrapped a) refl k rest
    by_mark false k rest = later false (rest k)

pub picked-among : (a : ℕ) (bs : List Bool) (x : ℕ) → has (picked wrapped a bs) x ≡ true → IsAmong a (length bs) x
picked-among a bs x t = let h = picked-at a bs x t in (h.0, h.1, h.2)

-- ---- the frame of a push

-- in the save area, and beside the return address
pub record IsLost (a : ℕ) (lost : List ℕ) : Type 0 where
  pub inside : (x : ℕ) → has lost x ≡ true → in_bytes a FRAME_SIZE x ≡ true
  pub beside : (x : ℕ) → has lost x ≡ true → in_bytes (return_place a) 4 x ≡ false

no_mark : (s : State) (j : ℕ) → j < 4 → get_or (byte_marks (saved_marks s)) (8 + j) false ≡ false
no_mark s j l = grind arith

-- bytes 8 to 11 of a frame have no mark
pub marks-lost : (a : ℕ) (bs : List Bool) → length bs ≡ FRAME_SIZE → ((j : ℕ) → j < 4 → get_or bs (8 + j) false ≡ false) → IsLost a (picked wrapped a bs)
marks-lost a bs whole known = grind (arith, picked-among, among-bytes, picked-at, bytes-among)

-- as of the marks that a push saves
pub saved-lost : (s : State) (a : ℕ) → IsLost a (picked wrapped a (byte_marks (saved_marks s)))
saved-lost s a = marks-lost a (byte_marks (saved_marks s)) refl (no_mark s)

-- ---- return addresses

pub returns-live : (live : List ℕ) (x : ℕ) → in_returns live x ≡ true → in_frames live x ≡ true
returns-live [] x t = t
returns-live (f ∷ live) x t = by_first (in_bytes (return_place f) 4 x) (in_bytes f FRAME_SIZE x) (return-inside f x) (returns-live live x) t
  where
    by_first : (b c : Bool) → (b ≡ true → c ≡ true) → (in_returns live x ≡ true → in_frames live x ≡ true) → (b || in_returns live x) ≡ true → (c || in_frames live x) ≡ true
    by_first b true h k t = refl
    by_first true false h k t = absurd (let no = h refl in cc no)
    by_first false false h k t = k t
