use Rattle.std.proofs.Common.{◌≡◌, ◌≤◌, List, length, map, arith, sym, ap, subst, ◌∙◌}
use Rattle.i9_model.specs.Image.{Part, pairs_of}
use Rattle.i9_model.specs.HexText.{most_bytes}
use Rattle.i9_hex.specs.Shown.{part_of}
use Rattle.i9_hex.specs.declared.segments.Segment.{Segment}
use Rattle.i9_hex.specs.Runs.{bytes_in, AreRuns}
use Rattle.i9_hex.proofs.Joining.{runs_once}
use Rattle.i9_elf.specs.Written.{file_of}
use Rattle.i9_elf.proofs.RoundTrip.{few_bytes, file-again, length-map_part}
use Rattle.i9_elf.proofs.writing.write.Goals as goal

-- how many runs there are
count : (image runs others : List Part) (segments : List Segment) → AreRuns image runs → AreRuns image others → map part_of segments ≡ runs → length others ≡ length segments
count image runs others segments are also shown =
    let one = runs_once (pairs_of image) others runs also are in
    ap length (one ∙ sym shown) ∙ length-map_part segments

pub returns-then-as_slice-gt-MOST_HEADERS-clause-segments : goal.returns-then-as_slice-gt-MOST_HEADERS-clause-segments
returns-then-as_slice-gt-MOST_HEADERS-clause-segments c = grind (arith, count)

pub file_of-requires-clause-bytes : goal.file_of-requires-clause-bytes
file_of-requires-clause-bytes c = subst (λ (runs : List Part). bytes_in runs ≤ most_bytes) (sym c.as_slice-2.ensures.segments) (few_bytes c.args.image.now c.in-Ok.runs c.in-Ok.ensures c.requires)

pub returns-in-Ok-file_of-clause-file : goal.returns-in-Ok-file_of-clause-file
returns-in-Ok-file_of-clause-file c = λ runs are.
    let n = count c.args.image.now c.in-Ok.runs runs c.as_slice.result.now c.in-Ok.ensures are c.as_slice.ensures.segments in
    let one = runs_once (pairs_of c.args.image.now) c.in-Ok.runs runs c.in-Ok.ensures are in
    (omega (arith, n, c.if-as_slice-gt-MOST_HEADERS.false), c.in-Ok-file_of.ensures ∙ ap file_of (c.as_slice-2.ensures.segments ∙ one))

pub returns-in-Ok-file_of-clause-again : goal.returns-in-Ok-file_of-clause-again
returns-in-Ok-file_of-clause-again c =
    let n = count c.args.image.now c.in-Ok.runs c.in-Ok.runs c.as_slice.result.now c.in-Ok.ensures c.in-Ok.ensures c.as_slice.ensures.segments in
    file-again c.args.image.now c.in-Ok.runs c.in-Ok-file_of.file.items c.in-Ok.ensures (omega (arith, n, c.if-as_slice-gt-MOST_HEADERS.false))
    (few_bytes c.args.image.now c.in-Ok.runs c.in-Ok.ensures c.requires) (c.in-Ok-file_of.ensures ∙ ap file_of c.as_slice-2.ensures.segments)
