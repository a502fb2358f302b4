-- Bytes of memory that are read one after the other, and values at places in a row.
use Rattle.std.proofs.Common.{◌≡◌, ℕ, suc, ◌+◌, List, [], ◌∷◌, ◌++◌, length, map, refl, ap, ◌∙◌}
use Rattle.std.proofs.lemmas.List.{map-append, length-map}
use Rattle.std.proofs.lemmas.List.FromFn.{map-range_with_len_more, length-map-range_with_len}
use Rattle.i9_model.specs.Writes.{wrapped, pairs_at}
use Rattle.i9_model.specs.Frames.{places}

-- one more
pub read_more : (f : ℕ → ℕ) (a k : ℕ) → map f (places a (k + 1)) ≡ map f (places a k) ++ f (wrapped (a + k)) ∷ []
read_more f a k = ap (map f) (map-range_with_len_more wrapped a k (a + k) refl) ∙ map-append f (places a k) (wrapped (a + k) ∷ [])

pub read_length : (f : ℕ → ℕ) (a k : ℕ) → length (map f (places a k)) ≡ k
read_length f a k = length-map (places a k) f ∙ length-map-range_with_len wrapped a k

pub length-pairs_at : (address : ℕ → ℕ) (n : ℕ) (bs : List ℕ) → length (pairs_at address n bs) ≡ length bs
length-pairs_at address n [] = refl
length-pairs_at address n (b ∷ bs) = ap suc (length-pairs_at address (n + 1) bs)
