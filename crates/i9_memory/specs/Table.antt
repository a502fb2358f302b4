-- Table: the page of each number.
use Rattle.std.specs.Prelude.{◌≡◌, ℕ, ◌/◌, ◌%◌, ◌==◌, if◌then◌else◌, List, [], Option, Some, None, MatchOption}
use Rattle.std.specs.Prelude.{IsSomeAnd, slice_get, slice_index_or}
use Rattle.std.specs.declared.vec.Vec.{Vec}
use Rattle.i9_memory.specs.declared.table.PageTable.{PageTable}

module _ {X Z : Type 0} where
  -- the list in a vector that may be lacking
  abbrev pub list_in : Option (Vec X Z) → List X
  list_in None = []
  list_in (Some v) = v.items

  -- the list at a place of a list of vectors
  abbrev pub list_at : List (Vec X Z) → ℕ → List X
  list_at vs k = list_in (slice_get vs k)

module _ {T : Type 0} where
  -- the page of a number
  unfoldable pub page_at : PageTable T → ℕ → Option T
  page_at t n = slice_index_or (list_at (list_at t.levels.items (n / 65536)) (n / 256 % 256)) (n % 256) None

  -- each number has the page that it had
  abbrev pub SamePages : PageTable T → PageTable T → Type 0
  SamePages old new = (n : ℕ) → page_at new n ≡ page_at old n

  -- one number has this page, or none, and each other one the page that it had
  abbrev pub Updates : PageTable T → ℕ → Option T → PageTable T → Type 0
  Updates old number page new = (n : ℕ) → page_at new n ≡ (if n == number then page else page_at old n)

  -- a copy has a page where the other has one, and it is one of that page
  abbrev pub IsCopy : (T → T → Type 0) → Option T → Option T → Type 0
  IsCopy copies p q = MatchOption p (q ≡ None) (λ x. IsSomeAnd q (copies x))
