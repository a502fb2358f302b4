-- An image: a list of segments, and the pairs of address and byte that it says.
use Rattle.std.specs.Prelude.{ℕ, ◌<◌, List}
use Rattle.std.specs.List.{flat_map, AllByRecursion}
pub use Rattle.i9_model.specs.Writes.{address_count, wrapped, pairs_at, upwards}

-- a segment in plain form: its bytes stand from its address on
pub record Part : Type 0 where
  pub address : ℕ
  pub bytes : List ℕ

abbrev pub pairs_of_part : Part → List (ℕ × ℕ)
pairs_of_part p = upwards p.address p.bytes

-- the pairs of an image, in order; of two pairs with one address the later counts
unfoldable pub pairs_of : List Part → List (ℕ × ℕ)
pairs_of ps = flat_map pairs_of_part ps

-- an address and bytes
pub record IsPart (p : Part) : Type 0 where
  pub address : p.address < address_count
  pub bytes : AllByRecursion (λ b. b < 256) p.bytes

abbrev pub AreParts : List Part → Type 0
AreParts ps = AllByRecursion IsPart ps
