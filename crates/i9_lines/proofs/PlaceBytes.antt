-- Bytes and addresses that are told, one by one.
use Rattle.std.proofs.Common.{◌≡◌, ℕ, ◌+◌, [], ◌∷◌, ◌++◌, Option, map, arith}
use Rattle.std.specs.List.{range_with_len}
use Rattle.std.proofs.lemmas.List.FromFn.{map-range_with_len_more}

pub mapped-more : (f : ℕ → Option ℕ) (k : ℕ) → map f (range_with_len 0 (k + 1)) ≡ map f (range_with_len 0 k) ++ f k ∷ []
mapped-more f k = map-range_with_len_more f 0 k k (omega arith)

pub ruleset byte_rules = (mapped-more)
