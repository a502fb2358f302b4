use Rattle.std.proofs.Common.{◌≡◌, ℕ, ◌+◌, List, ◌++◌, append_assoc, refl, arith}
use Rattle.std.specs.List.{flat_map, range_with_len}
use Rattle.std.proofs.lemmas.List.{append-nil}
use Rattle.std.proofs.lemmas.List.Folds.{flat_map-map}
use Rattle.std.proofs.lemmas.List.FromFn.{map-range_with_len_more}
use Rattle.std.proofs.lemmas.Grind.{flat_map-append}
use Rattle.i9_lines.proofs.text.add_sixteen.Goals as goal

one_more : (f : ℕ → List ℕ) (a k : ℕ) → flat_map f (range_with_len a (k + 1)) ≡ flat_map f (range_with_len a k) ++ f (a + k)
one_more f a k =
    let all = flat_map-map (λ (l : List ℕ). l) f in
    rw (← all (range_with_len a (k + 1)), map-range_with_len_more f a k (a + k) refl, flat_map-append, all (range_with_len a k), append-nil) refl

pub loop-k-preserved : goal.loop-k-preserved
loop-k-preserved c = grind (arith, one_more, append_assoc)

pub returns : goal.returns
returns c = let all : c.loop-k.k ≡ 16 = omega arith in rw all at c.loop-k.invariant
