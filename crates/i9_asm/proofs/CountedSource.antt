-- The segments of a source without fault have as many pairs as its lines count, and so at most 4,194,304.
use Rattle.std.proofs.Common.{◌≡◌, ℕ, ◌+◌, ◌≤◌, List, [], ◌∷◌, length, Option, sym, subst, arith, length-append}
use Rattle.i9_asm.proofs.TakenLines.{begun_total, line_sound}
use Rattle.i9_model.specs.Image.{Part, pairs_of}
use Rattle.i9_hex.proofs.PairCounts.{length-with_part}
use Rattle.i9_text.specs.FirstFault.{SaysAll}
use Rattle.i9_statement.specs.Values.{Names}
use Rattle.i9_asm.specs.Lines.{label_of, item_of}
use Rattle.i9_asm.specs.Places.{Place, past_line, size_of, moved_to}
use Rattle.i9_asm.specs.Source.{Source, segments_of, begun, grown, labelled_source, most_bytes, Assembles}
use Rattle.i9_asm.specs.Laws.{IsAssembly}
use Rattle.i9_asm.proofs.CountedBytes.{line_counts}

-- how many pairs the segments of a source have
abbrev pair_count : Source → ℕ
pair_count s = length (pairs_of (segments_of s))

-- a source that counted its pairs, and not too many
record IsCounted (s : Source) : Type 0 where
  same : pair_count s ≡ s.total
  few : s.total ≤ most_bytes

count-begun : (moved : Option ℕ) (s : Source) → pair_count (begun moved s) ≡ pair_count s
count-begun moved s = grind arith

count-grown : (s : Source) (p : Place) (size : ℕ) (bs : List ℕ) → pair_count (grown s p size bs) ≡ pair_count s + length bs
count-grown s p size bs = grind (arith, length-with_part, length-append)

-- a line leads from one such source to the next
counted_line : (names : Names) (s t : Source) (line : List ℕ) → IsCounted s → Assembles names s line t → IsCounted t
counted_line names s t line h assembles =
    let u = labelled_source (label_of line) s in
    let item = item_of line in
    let bs = assembles.bytes in
    let next = past_line s.place line in
    let size = size_of u.place item in
    let start = begun (moved_to u.place item) u in
    let counts = line_counts names s line bs assembles.sound assembles.gives in
    let few = (line_sound names s line assembles.sound).room.few in
    let kept = count-begun (moved_to u.place item) u in
    let total = begun_total (moved_to u.place item) u in
    let pairs = count-grown start next size bs in
    subst IsCounted (sym assembles.after) (record {
      same = omega (arith, pairs, kept, total, counts, h.same);
      few = omega (arith, total, few);
    })

counted_lines : (names : Names) (s t : Source) (lines : List (List ℕ)) → IsCounted s → SaysAll (Assembles names) s lines t → IsCounted t
counted_lines names s t [] h same = subst IsCounted same h
counted_lines names s t (line ∷ lines) h said = counted_lines names said.0 t lines (counted_line names s said.0 line h said.1) said.2

pub few_pairs : (lines : List (List ℕ)) (image : List Part) → IsAssembly lines image → length (pairs_of image) ≤ most_bytes
unfolding pairs_of
few_pairs lines image h = grind (arith, counted_lines)
