use Rattle.std.proofs.Common.{◌≡◌, ℕ, ◌<◌, List, length, get_or, map, arith}
use Rattle.i9_hex.specs.declared.segments.Segment.{Segment}
use Rattle.i9_hex.specs.Shown.{part_of}
use Rattle.i9_model.specs.Image.{pairs_of}
use Rattle.i9_memory.specs.Memory.{IsApart, IsApartFrom}
use Rattle.i9_processor.proofs.Loading.{load_rules}
use Rattle.i9_processor.proofs.NewPages.{segment_apart}
use Rattle.i9_processor.proofs.load.load_all.Goals as goal

-- what is apart from an image is apart from the bytes of each segment
item_apart : (ss : List Segment) (k : ℕ) (s : Segment) (bs : List ℕ) (x : ℕ) → k < length ss → s ≡ get_or ss k s → bs ≡ s.bytes.items → IsApartFrom (pairs_of (map part_of ss)) x → IsApart s.address (length bs) x
item_apart ss k s bs x h is same apart = grind (arith, segment_apart)

pub returns-in_err-load-clause-only : goal.returns-in_err-load-clause-only
returns-in_err-load-clause-only c x apart has = grind (arith, segment_apart)

pub loop-segment-preserved : goal.loop-segment-preserved
loop-segment-preserved c = grind (arith, load_rules, segment_apart)
