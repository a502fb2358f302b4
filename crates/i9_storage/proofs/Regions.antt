-- Configuration words of regions, one by one.
use Rattle.std.proofs.Common.{◌≡◌, ℕ, ◌+◌, ◌<◌, ◌≤◌, List, length, get_or, drop, arith}
use Rattle.std.proofs.lemmas.List.{at_drop_more, at_drop_all}
use Rattle.i9_model.specs.Writes.{written}
use Rattle.i9_model.specs.Memory.{Memory, with_mcon}
use Rattle.i9_model.specs.Boot.{with_regions}

-- one more region
pub regions_more : (m : Memory) (region : ℕ) (ws : List ℕ) (i : ℕ) → i < length ws → with_regions m (region + i) (drop i ws) ≡ with_regions (with_mcon m (region + i) (get_or ws i 0)) (region + (i + 1)) (drop (i + 1) ws)
unfolding written
regions_more m region ws i h =
    let next : region + i + 1 ≡ region + (i + 1) = omega arith in
    cc (at_drop_more (with_regions m (region + i)) ws i 0 h)

-- no region is left
pub regions_done : (m : Memory) (region : ℕ) (ws : List ℕ) (i : ℕ) → length ws ≤ i → with_regions m region (drop i ws) ≡ m
unfolding written
regions_done m region ws i h = at_drop_all (with_regions m region) ws i h

pub ruleset region_rules = (regions_more, regions_done)
