-- The pairs of segments with one more, and how many pairs segments have.
use Rattle.std.proofs.Common.{◌≡◌, ℕ, ◌+◌, List, [], ◌∷◌, ◌++◌, length, refl, arith, length-append}
use Rattle.std.proofs.lemmas.List.{append-nil}
use Rattle.std.proofs.lemmas.Grind.{flat_map-append}
use Rattle.i9_model.specs.Image.{Part, upwards, pairs_of}
use Rattle.i9_hex.specs.Put.{with_part}
use Rattle.i9_model.proofs.Reading.{length-pairs_at}
use Rattle.i9_hex.specs.Runs.{bytes_in}

-- as many as bytes
pub length-pairs_of : (parts : List Part) → length (pairs_of parts) ≡ bytes_in parts
unfolding pairs_of
length-pairs_of [] = refl
length-pairs_of (part ∷ parts) = grind (arith, length-pairs_at, length-append, length-pairs_of parts)

-- the pairs of a segment more are the last ones, also where it has none and is not kept
pub pairs_of-with_part : (parts : List Part) (a : ℕ) (bs : List ℕ) → pairs_of (with_part parts a bs) ≡ pairs_of parts ++ upwards a bs
unfolding pairs_of
pairs_of-with_part parts a bs = grind (arith, append-nil, flat_map-append)

pub length-with_part : (parts : List Part) (a : ℕ) (bs : List ℕ) → length (pairs_of (with_part parts a bs)) ≡ length (pairs_of parts) + length bs
length-with_part parts a bs = grind (arith, length-pairs_at, pairs_of-with_part, length-append)
