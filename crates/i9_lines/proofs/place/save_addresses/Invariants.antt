use Rattle.std.proofs.Common.{◌≡◌, take, reverse, map}
use Rattle.i9_lines.proofs.place.save_addresses.Given as goal

abbrev pub invariant-loop-k : goal.invariant-loop-k
invariant-loop-k l = l.list.items ≡ map (λ f. f.address) (take l.k (reverse l.sets.frames))
