-- The pairs of images stand in the address space, and runs have no more of them than their image.
use Rattle.std.proofs.Common.{ℕ, ◌+◌, ◌<◌, ◌≤◌, List, [], ◌∷◌, ◌++◌, length, sym, subst, ◌∙◌, arith}
use Rattle.std.specs.List.{AllByRecursion}
use Rattle.i9_model.specs.Image.{Part, upwards, pairs_of, AreParts}
use Rattle.i9_hex.specs.Runs.{IsLow, AreRuns}
use Rattle.i9_hex.proofs.Rising.{ArePlaced, rises_once, with_earlier, in_order, in_order_rises, in_order_placed, in_order_says}
use Rattle.i9_hex.proofs.Joining.{joined, joined_runs, runs_rise}

-- the pairs of an image stand in the address space
placed_run : (a : ℕ) (bs : List ℕ) (ps : List (ℕ × ℕ)) → AllByRecursion (λ (p : ℕ × ℕ). p.1 < 256) (upwards a bs ++ ps) → (AllByRecursion (λ (p : ℕ × ℕ). p.1 < 256) ps → ArePlaced ps) → ArePlaced (upwards a bs ++ ps)
placed_run a [] ps low rest = rest low
placed_run a (b ∷ bs) ps low rest = (record { address = omega arith; byte = low.0 }, placed_run (a + 1) bs ps low.1 rest)

pub image_placed : (image : List Part) → AllByRecursion (λ (p : ℕ × ℕ). p.1 < 256) (pairs_of image) → ArePlaced (pairs_of image)
unfolding pairs_of
image_placed [] low = tt
image_placed (part ∷ image) low = placed_run part.address part.bytes (pairs_of image) low (image_placed image)

-- so do those of segments
placed_bytes : (a : ℕ) (bs : List ℕ) (ps : List (ℕ × ℕ)) → IsLow bs → ArePlaced ps → ArePlaced (upwards a bs ++ ps)
placed_bytes a [] ps low rest = rest
placed_bytes a (b ∷ bs) ps low rest = (record { address = omega arith; byte = low.0 }, placed_bytes (a + 1) bs ps low.1 rest)

pub parts_placed : (image : List Part) → AreParts image → ArePlaced (pairs_of image)
unfolding pairs_of
parts_placed [] h = tt
parts_placed (part ∷ image) h = placed_bytes part.address part.bytes (pairs_of image) h.0.bytes (parts_placed image h.1)

-- ---- how many there are

earlier_more : (p : ℕ × ℕ) (ps : List (ℕ × ℕ)) → length (with_earlier p ps) ≤ length ps + 1
earlier_more p [] = omega arith
earlier_more p (q ∷ qs) = grind (arith, earlier_more p qs)

in_order_few : (ps : List (ℕ × ℕ)) → length (in_order ps) ≤ length ps
in_order_few [] = omega arith
in_order_few (p ∷ ps) = let more = earlier_more p (in_order ps) in let rest = in_order_few ps in omega (arith, more, rest)

-- runs have no more pairs than their image
pub runs_few : (image runs : List Part) → AreRuns image runs → length (pairs_of runs) ≤ length (pairs_of image)
runs_few image runs h =
    let same = rises_once 0 (in_order (pairs_of image)) (pairs_of runs) (in_order_rises (pairs_of image)) (runs_rise runs h.each h.apart) (λ a. h.same a ∙ sym (in_order_says (pairs_of image) a)) in
    subst (λ ps. length ps ≤ length (pairs_of image)) same (in_order_few (pairs_of image))

-- each image of bytes has runs
pub some_runs : (image : List Part) → AllByRecursion (λ (p : ℕ × ℕ). p.1 < 256) (pairs_of image) → (runs : List Part) × AreRuns image runs
some_runs image low =
    let ps = in_order (pairs_of image) in
    (joined [] ps, joined_runs (pairs_of image) ps (in_order_says (pairs_of image)) (in_order_rises (pairs_of image)) (in_order_placed (pairs_of image) (image_placed image low)))
