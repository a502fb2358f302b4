-- An image loaded segment by segment.
use Rattle.std.proofs.Common.{◌≡◌, ℕ, ◌+◌, ◌<◌, ◌≤◌, List, length, get_or, drop, map, ap, ◌∙◌}
use Rattle.std.proofs.lemmas.List.{at_drop_more, at_drop_all}
use Rattle.std.proofs.lemmas.List.Concat.{flat_map-cons}
use Rattle.i9_hex.specs.declared.segments.Segment.{Segment}
use Rattle.i9_hex.specs.Shown.{part_of}
use Rattle.i9_model.specs.Writes.{upwards}
use Rattle.i9_model.specs.Image.{pairs_of, pairs_of_part}
use Rattle.i9_model.specs.Memory.{stored}
use Rattle.i9_model.proofs.Stored.{stored-append, stored-none}

-- one more segment
pub segments_more : (m : ℕ → ℕ) (ss : List Segment) (k : ℕ) (d : Segment) → k < length ss → stored m (pairs_of (map part_of (drop k ss))) ≡ stored (stored m (upwards (get_or ss k d).address (get_or ss k d).bytes.items)) (pairs_of (map part_of (drop (k + 1) ss)))
unfolding pairs_of
segments_more m ss k d h =
    let s = get_or ss k d in
    at_drop_more (λ (zs : List Segment). stored m (pairs_of (map part_of zs))) ss k d h
    ∙ ap (stored m) (flat_map-cons pairs_of_part (part_of s) (map part_of (drop (k + 1) ss)))
    ∙ stored-append m (pairs_of_part (part_of s)) (pairs_of (map part_of (drop (k + 1) ss)))

-- no segment is left
pub segments_done : (m : ℕ → ℕ) (ss : List Segment) (k : ℕ) → length ss ≤ k → stored m (pairs_of (map part_of (drop k ss))) ≡ m
unfolding pairs_of
segments_done m ss k h = at_drop_all (λ (zs : List Segment). stored m (pairs_of (map part_of zs))) ss k h ∙ stored-none m

pub ruleset load_rules = (segments_more, segments_done)
