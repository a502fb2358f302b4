-- Configuration words of regions, one by one.
use Rattle.std.proofs.Common.{◌≡◌, ℕ, ◌+◌, ◌<◌, ◌≤◌, List, length, get_or, take, drop, ap, ◌∙◌, arith}
use Rattle.std.proofs.lemmas.List.{at_drop_more, at_drop_all, get_or-take, get_or-drop, length-take, length-drop}
use Rattle.i9_model.specs.Writes.{written}
use Rattle.i9_model.specs.Memory.{Memory, with_mcon}
use Rattle.i9_model.specs.Boot.{with_regions}

-- one more region
regions_more : (m : Memory) (ws : List ℕ) (i : ℕ) → i < length ws → with_regions m i (drop i ws) ≡ with_regions (with_mcon m i (get_or ws i 0)) (i + 1) (drop (i + 1) ws)
unfolding written
regions_more m ws i h = at_drop_more (with_regions m i) ws i 0 h

-- no region is left
pub regions_done : (m : Memory) (ws : List ℕ) (i : ℕ) → length ws ≤ i → with_regions m i (drop i ws) ≡ m
unfolding written
regions_done m ws i h = at_drop_all (with_regions m i) ws i h

-- a part of a list, by its places
length_part : (ws : List ℕ) (from n : ℕ) → from + n ≤ length ws → length (take n (drop from ws)) ≡ n
length_part ws from n h = omega (arith, length-take n (drop from ws), length-drop from ws)

part_at : (ws : List ℕ) (from n i : ℕ) → i < n → get_or (take n (drop from ws)) i 0 ≡ get_or ws (from + i) 0
part_at ws from n i h = get_or-take n (drop from ws) i 0 h ∙ get_or-drop from ws i 0

-- the configuration words of a control table, and one of them
pub length_regions : (control : List ℕ) → length control ≡ 28 → length (take 16 (drop 8 control)) ≡ 16
length_regions control h = length_part control 8 16 (omega arith)

pub regions_next : (m : Memory) (control : List ℕ) (i : ℕ) → length control ≡ 28 → i < 16 → with_regions m i (drop i (take 16 (drop 8 control))) ≡ with_regions (with_mcon m i (get_or control (8 + i) 0)) (i + 1) (drop (i + 1) (take 16 (drop 8 control)))
regions_next m control i len h =
    let ws = take 16 (drop 8 control) in
    regions_more m ws i (omega (arith, length_regions control len))
    ∙ ap (λ (w : ℕ). with_regions (with_mcon m i w) (i + 1) (drop (i + 1) ws)) (part_at control 8 16 i h)
