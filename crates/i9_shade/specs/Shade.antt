-- The bytes that stood under the writes of an open barrier.
use Rattle.std.specs.Prelude.{◌≡◌, ℕ, ◌<◌, ◌≤◌, ◌⊎◌, false, nat_lt, if◌then◌else◌, List, [], ◌∷◌, length, Option, None}
use Rattle.std.specs.Option.{option_or}
use Rattle.std.specs.List.{AllByRecursion}
use Rattle.i9_model.specs.Writes.{upwards, last_put}
use Rattle.i9_model.specs.Frames.{in_bytes}
use Rattle.i9_shade.specs.declared.shade.OldBytes.{OldBytes}

-- some bytes as they stood, from an address up
pub record Piece : Type 0 where
  pub address : ℕ
  pub bytes : List ℕ

-- what is kept: the pieces, the first one first, and the turn from which on none shows
pub record Kept : Type 0 where
  pub pieces : List Piece
  pub due : ℕ

-- a piece by its parts
abbrev pub piece : ℕ → List ℕ → Piece
piece a bytes = record { address = a; bytes = bytes }

-- bytes that are kept, as a piece
abbrev pub piece_in : OldBytes → Piece
piece_in old = piece old.address old.bytes.items

-- no piece is empty
abbrev pub HaveBytes : List Piece → Type 0
HaveBytes ps = AllByRecursion (λ p. 0 < length p.bytes) ps

-- the byte of a piece at an address
abbrev pub byte_of : Piece → ℕ → Option ℕ
byte_of p a = last_put (upwards p.address p.bytes) a

-- the byte at an address of the first piece that has it
abbrev pub first_byte : List Piece → ℕ → Option ℕ
first_byte [] a = None
first_byte (p ∷ ps) a = option_or (byte_of p a) (first_byte ps a)

-- the byte that shows at an address at a turn
abbrev pub shown : Kept → ℕ → ℕ → Option ℕ
shown k a turn = if nat_lt turn k.due then first_byte k.pieces a else None

-- the address is none of a piece
abbrev pub Lacks : ℕ → Piece → Type 0
Lacks a p = in_bytes p.address (length p.bytes) a ≡ false

-- no byte shows at an address at a turn
abbrev pub ShowsNone : Kept → ℕ → ℕ → Type 0
ShowsNone k a turn = (k.due ≤ turn) ⊎ AllByRecursion (Lacks a) k.pieces
