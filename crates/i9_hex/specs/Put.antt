-- An image with one pair more.
use Rattle.std.specs.Prelude.{ℕ, ◌+◌, ◌%◌, List, [], ◌∷◌, ◌++◌, length, Bool, false, ◌==◌, if◌then◌else◌}
use Rattle.i9_model.specs.Image.{Part, address_count}

-- the next address after a part
abbrev pub next_address : Part → ℕ
next_address p = (p.address + length p.bytes) % address_count

-- whether the next address after the last part is this one
abbrev pub ends_before : List Part → ℕ → Bool
ends_before [] a = false
ends_before (p ∷ []) a = next_address p == a
ends_before (p ∷ q ∷ ps) a = ends_before (q ∷ ps) a

-- the parts with a byte more at the end of the last
abbrev pub with_byte : List Part → ℕ → List Part
with_byte [] b = []
with_byte (p ∷ []) b = record p { bytes = p.bytes ++ b ∷ [] } ∷ []
with_byte (p ∷ q ∷ ps) b = p ∷ with_byte (q ∷ ps) b

-- the parts with one pair more: in the last part where the next address after it is the pair's, else in a new part
unfoldable pub with_pair : List Part → ℕ → ℕ → List Part
with_pair ps a b =
    if ends_before ps a then with_byte ps b
    else ps ++ record { address = a; bytes = b ∷ [] } ∷ []

-- the parts with one more; one without bytes is not kept
abbrev pub with_part : List Part → ℕ → List ℕ → List Part
with_part ps a [] = ps
with_part ps a (b ∷ bs) = ps ++ record { address = a; bytes = b ∷ bs } ∷ []
