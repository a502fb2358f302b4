-- Lines that are put behind a text, each with a line feed behind it.
use Rattle.std.specs.Prelude.{◌≡◌, ℕ, List, ◌++◌}
use Rattle.std.specs.List.{flat_map}
use Rattle.i9_model.specs.Image.{Part}
use Rattle.i9_hex.specs.Writing.{with_line_feed}
use Rattle.i9_asm.specs.Listing.{Lists, ListsAll}

-- those of bytes from an address on
pub record AddsLines (a : ℕ) (bs old new : List ℕ) : Type 0 where
  pub lines : List (List ℕ)
  pub listed : Lists a bs lines
  pub text : new ≡ old ++ flat_map with_line_feed lines

-- those of runs
pub record AddsRuns (runs : List Part) (old new : List ℕ) : Type 0 where
  pub lines : List (List ℕ)
  pub listed : ListsAll runs lines
  pub text : new ≡ old ++ flat_map with_line_feed lines
