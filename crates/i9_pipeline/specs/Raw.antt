-- What of memory has landed at a turn, and the bytes that stood under what a barrier writes.
use Rattle.std.specs.Prelude.{◌≡◌, ℕ, ◌≤◌, Bool, true, false, not, ◌&&◌, nat_le, if◌then◌else◌, List, [], ◌∷◌, length}
use Rattle.std.specs.Prelude.{map, unwrap_or}
use Rattle.std.specs.List.{AllByRecursion}
use Rattle.i9_model.specs.declared.need.Need.{Need}
use Rattle.i9_model.specs.Frames.{places, is_put}
use Rattle.i9_model.specs.Late.{Late, settled_memory}
use Rattle.i9_model.specs.Memory.{stored}
use Rattle.i9_shade.specs.Shade.{Piece, Kept, piece, shown, Lacks}

-- the bytes of memory with those that records brought which are done by a turn, in order
abbrev pub raw_memory : (ℕ → ℕ) → ℕ → List Late → ℕ → ℕ
raw_memory first t [] = first
raw_memory first t (x ∷ xs) = if nat_le x.timed.done t then stored
    (raw_memory first t xs) x.puts else raw_memory first t xs

-- ---- what stands under writes

-- so many bytes of a memory from an address on
abbrev pub stood : (ℕ → ℕ) → ℕ → ℕ → Piece
stood f a n = piece a (map f (places a n))

-- the pieces have the bytes of a memory
abbrev pub HaveStood : (ℕ → ℕ) → List Piece → Type 0
HaveStood f ps = AllByRecursion (λ p. p ≡ stood f p.address (length p.bytes)) ps

-- every byte that is written is in one of the pieces
abbrev pub Cover : List (ℕ × ℕ) → List Piece → Type 0
Cover puts ps = (a : ℕ) → AllByRecursion (Lacks a) ps → is_put puts a ≡ false

-- pieces keep what stands in a memory under writes
pub record Hides (f : ℕ → ℕ) (puts : List (ℕ × ℕ)) (ps : List Piece) : Type 0 where
  pub same : HaveStood f ps
  pub covers : Cover puts ps

-- the byte at an address as it stands at a turn: one that is kept, or else that of memory
abbrev pub standing : Kept → ℕ → (ℕ → ℕ) → ℕ → ℕ
standing k t bytes a = unwrap_or (shown k a t) (bytes a)

-- ---- the shade of a run

-- a record writes memory at its issue that shows when it is done: a barrier that is no request
abbrev pub shades_need : Need → Bool
shades_need need = need.barrier && not need.request

abbrev pub shades : Late → Bool
shades x = shades_need x.timed.need

-- what the last record hides, where it is such a one
abbrev pub HidesLast : (ℕ → ℕ) → List Late → Kept → Type 0
HidesLast first [] k = Unit {0}
HidesLast first (x ∷ xs) k = shades x ≡ true → Hides (settled_memory first xs) x.puts k.pieces × (k.due ≡ x.timed.done)

-- What is kept is what stood under the writes of the last record, and shows no longer than such a record is open.
pub record IsShaded (first : ℕ → ℕ) (xs : List Late) (k : Kept) : Type 0 where
  pub over : (t : ℕ) → AllByRecursion (λ x. shades x ≡ true → x.timed.done ≤ t) xs → k.due ≤ t
  pub last : HidesLast first xs k
