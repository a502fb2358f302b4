-- What the words of a state keep to along every run.
use Rattle.std.specs.Prelude.{ℕ, ◌<◌, List}
use Rattle.std.specs.List.{AllByRecursion}
pub use Rattle.i9_model.specs.Numbers.{IsWithin, IsWord}

-- the pairs of an image have bytes of 8 bits
abbrev pub HasBytes : List (ℕ × ℕ) → Type 0
HasBytes image = AllByRecursion (λ p. p.1 < 256) image
