-- Pairs that rise, joined into runs.
use Rattle.std.specs.Prelude.{⊤}
use Rattle.std.proofs.Common.{◌≡◌, ℕ, ◌+◌, ◌%◌, ◌^◌, ◌<◌, ◌≤◌, true, false, eqb, List, [], ◌∷◌, ◌++◌, length, get_or, take, map, refl, sym, ap, subst, ◌∙◌, arith, append_assoc, length-append}
use Rattle.std.specs.List.{All, AllByRecursion}
use Rattle.std.proofs.lemmas.Bool.{eqb-true, ne_eqb}
use Rattle.std.proofs.lemmas.List.{append-nil, take_more, map_push}
use Rattle.std.proofs.lemmas.Grind.{flat_map-append}
use Rattle.i9_model.specs.Image.{Part, address_count, upwards, pairs_of_part, pairs_of}
use Rattle.i9_hex.specs.Shown.{part_of}
use Rattle.i9_hex.specs.declared.segments.Segment.{Segment}
use Rattle.i9_hex.specs.Put.{next_address, ends_before, with_byte, with_pair}
use Rattle.i9_hex.proofs.Each.{all_push, all_weaker}
use Rattle.i9_hex.proofs.PartLemmas.{pairs_of-with_pair}
use Rattle.i9_hex.specs.Runs.{IsRun, SaySameBytes, AreApart, AreRunsOf}
use Rattle.i9_hex.proofs.Rising.{Rises, rises-from, rises_once, ArePlaced, are_placed, kept, kept_rises, kept_placed, kept_says, climbs_sorted}
use Rattle.i9_hex.specs.Pairs.{IsPlaced, AreInOrder}

-- the runs behind these, with pairs that are put one after the other
abbrev pub joined : List Part → List (ℕ × ℕ) → List Part
joined runs [] = runs
joined runs (p ∷ ps) = joined (with_pair runs p.0 p.1) ps

-- ---- they are runs

abbrev EndsBy : ℕ → Part → Type 0
EndsBy n run = run.address + length run.bytes ≤ n

-- runs apart that end by an address
record Stand (n : ℕ) (runs : List Part) : Type 0 where
  each : AllByRecursion IsRun runs
  apart : AreApart runs
  ends : AllByRecursion (EndsBy n) runs

stand-rest : (n : ℕ) (run : Part) (runs : List Part) → Stand n (run ∷ runs) → Stand n runs
stand-rest n run runs h = record { each = h.each.1; apart = h.apart.1; ends = h.ends.1 }

-- the last run grows
later_grown : (end b : ℕ) (runs : List Part) → AllByRecursion (λ later. end < later.address) runs → AllByRecursion (λ later. end < later.address) (with_byte runs b)
later_grown end b [] h = tt
later_grown end b (p ∷ []) h = (h.0, tt)
later_grown end b (p ∷ q ∷ runs) h = (h.0, later_grown end b (q ∷ runs) h.1)

stand_grown : (n a b : ℕ) (runs : List Part) → Stand n runs → n ≤ a → a < address_count → b < 256 → ends_before runs a ≡ true → Stand (a + 1) (with_byte runs b)
stand_grown n a b [] h le small byte ends = absurd cc
stand_grown n a b (p ∷ []) h le small byte ends = grind (arith, eqb-true, length-append, all_push)
stand_grown n a b (p ∷ q ∷ runs) h le small byte ends =
    let rest = stand_grown n a b (q ∷ runs) (stand-rest n p (q ∷ runs) h) le small byte ends in
    record {
      each = (h.each.0, rest.each);
      apart = (later_grown (p.address + length p.bytes) b (q ∷ runs) h.apart.0, rest.apart);
      ends = (omega (arith, h.ends.0), rest.ends);
    }

-- a run begins
ends_apart : (n a : ℕ) (runs : List Part) → Stand n runs → n ≤ a → a < address_count → ends_before runs a ≡ false → AllByRecursion (λ run. run.address + length run.bytes < a) runs
ends_apart n a [] h le small begins = tt
ends_apart n a (p ∷ []) h le small begins = grind arith
ends_apart n a (p ∷ q ∷ runs) h le small begins =
    grind (arith, stand-rest, ends_apart n a (q ∷ runs) (stand-rest n p (q ∷ runs) h) le small begins)

apart_push : (runs : List Part) (run : Part) → AreApart runs → AllByRecursion (λ r. r.address + length r.bytes < run.address) runs → AreApart (runs ++ run ∷ [])
apart_push [] run h ends = (tt, tt)
apart_push (p ∷ runs) run h ends = (all_push (λ later. p.address + length p.bytes < later.address) runs run h.0 ends.0, apart_push runs run h.1 ends.1)

stand_begun : (n a b : ℕ) (runs : List Part) → Stand n runs → n ≤ a → a < address_count → b < 256 → ends_before runs a ≡ false → Stand (a + 1) (runs ++ record { address = a; bytes = b ∷ [] } ∷ [])
stand_begun n a b runs h le small byte begins =
    let run : Part = record { address = a; bytes = b ∷ [] } in
    record {
      each = all_push IsRun runs run h.each (record { inside = omega arith; some = omega arith; low = (byte, tt) });
      apart = apart_push runs run h.apart (ends_apart n a runs h le small begins);
      ends = all_push (EndsBy (a + 1)) runs run (all_weaker (EndsBy n) (EndsBy (a + 1)) (λ r by. omega (arith, le, by)) runs h.ends) (omega arith);
    }

stand_more : (n a b : ℕ) (runs : List Part) → Stand n runs → n ≤ a → a < address_count → b < 256 → Stand (a + 1) (with_pair runs a b)
unfolding with_pair
stand_more n a b runs h le small byte =
    grind (arith, stand_grown n a b runs h le small byte, stand_begun n a b runs h le small byte)

-- what pairs that rise are joined to
record Joins (runs : List Part) (ps : List (ℕ × ℕ)) : Type 0 where
  each : AllByRecursion IsRun (joined runs ps)
  apart : AreApart (joined runs ps)
  pairs : pairs_of (joined runs ps) ≡ pairs_of runs ++ ps

joins : (n : ℕ) (runs : List Part) (ps : List (ℕ × ℕ)) → Stand n runs → Rises n ps → ArePlaced ps → Joins runs ps
joins n runs [] h rise placed = record { each = h.each; apart = h.apart; pairs = sym (append-nil (pairs_of runs)) }
joins n runs (p ∷ ps) h rise placed =
    let more = joins (p.0 + 1) (with_pair runs p.0 p.1) ps (stand_more n p.0 p.1 runs h rise.0 placed.0.address placed.0.byte) rise.1 placed.1 in
    record {
      each = more.each;
      apart = more.apart;
      pairs = more.pairs ∙ ap (λ qs. qs ++ ps) (pairs_of-with_pair runs p.0 p.1 placed.0.address) ∙ append_assoc (pairs_of runs) (p ∷ []) ps;
    }

-- pairs that rise are joined to the runs of all that say the same
pub joined_runs : (pairs ps : List (ℕ × ℕ)) → SaySameBytes pairs ps → Rises 0 ps → ArePlaced ps → AreRunsOf pairs (joined [] ps)
unfolding pairs_of
joined_runs pairs ps same rise placed =
    let j = joins 0 [] ps (record { each = tt; apart = tt; ends = tt }) rise placed in
    record { each = j.each; apart = j.apart; same = subst (λ qs. SaySameBytes pairs qs) (sym j.pairs) same }

-- where no pairs are left
pub joined_end : (pairs rest : List (ℕ × ℕ)) (runs : List Part) → All IsPlaced pairs → AreInOrder pairs → length rest < 1 → joined runs (kept rest) ≡ joined [] (kept pairs) → AreRunsOf pairs runs
joined_end pairs [] runs placed order none is =
    grind (arith, joined_runs, kept_says, kept_rises, climbs_sorted, kept_placed, are_placed)
joined_end pairs (p ∷ rest) runs placed order none is = absurd (omega arith)

-- ---- runs are those that their pairs are joined to

-- the pairs of runs rise
rises_run : (n a : ℕ) (bs : List ℕ) (ps : List (ℕ × ℕ)) → n ≤ a → a + length bs ≤ 2 ^ 32 → Rises (a + length bs) ps → Rises n (upwards a bs ++ ps)
rises_run n a [] ps le inside h = rises-from n (a + 0) ps (omega arith) h
rises_run n a (b ∷ bs) ps le inside h =
    let e : a % address_count ≡ a = omega arith in
    let r : Rises (a + 1 + length bs) ps = subst (λ k. Rises k ps) (omega arith) h in
    rw e (le, rises_run (a + 1) (a + 1) bs ps (omega arith) (omega arith) r)

rises_runs : (n : ℕ) (runs : List Part) → AllByRecursion IsRun runs → AreApart runs → AllByRecursion (λ run. n ≤ run.address) runs → Rises n (pairs_of runs)
unfolding pairs_of
rises_runs n [] each apart from = tt
rises_runs n (run ∷ runs) each apart from =
    rises_run n run.address run.bytes (pairs_of runs) from.0 each.0.inside
    (rises_runs (run.address + length run.bytes) runs each.1 apart.1 (all_weaker _ _ (λ later lt. omega (arith, lt)) runs apart.0))

pub runs_rise : (runs : List Part) → AllByRecursion IsRun runs → AreApart runs → Rises 0 (pairs_of runs)
runs_rise runs each apart = rises_runs 0 runs each apart (all_weaker IsRun (λ run. 0 ≤ run.address) (λ run is. omega arith) runs each)

-- the last of these runs
ends_behind : (front : List Part) (run : Part) (a : ℕ) → ends_before (front ++ run ∷ []) a ≡ eqb (next_address run) a
ends_behind [] run a = refl
ends_behind (p ∷ []) run a = refl
ends_behind (p ∷ q ∷ front) run a = ends_behind (q ∷ front) run a

byte_behind : (front : List Part) (run : Part) (b : ℕ) → with_byte (front ++ run ∷ []) b ≡ front ++ record run { bytes = run.bytes ++ b ∷ [] } ∷ []
byte_behind [] run b = refl
byte_behind (p ∷ []) run b = refl
byte_behind (p ∷ q ∷ front) run b = ap (λ ps. p ∷ ps) (byte_behind (q ∷ front) run b)

joined_bytes : (front : List Part) (a : ℕ) (xs bs : List ℕ) (ps : List (ℕ × ℕ)) → joined (front ++ record { address = a; bytes = xs } ∷ []) (upwards (a + length xs) bs ++ ps) ≡ joined (front ++ record { address = a; bytes = xs ++ bs } ∷ []) ps
unfolding with_pair
joined_bytes front a xs [] ps = ap (λ ys. joined (front ++ record { address = a; bytes = ys } ∷ []) ps) (sym (append-nil xs))
joined_bytes front a xs (b ∷ bs) ps =
    grind (arith, ends_behind, length-append, byte_behind, append_assoc, joined_bytes front a (xs ++ b ∷ []) bs ps)

-- the first of these does not go on from the runs before
Begins : List Part → List Part → Type 0
Begins front [] = ⊤
Begins front (run ∷ runs) = ends_before front run.address ≡ false

joined_run : (front : List Part) (a : ℕ) (bs : List ℕ) (ps : List (ℕ × ℕ)) → IsRun (record { address = a; bytes = bs }) → ends_before front a ≡ false → joined front (upwards a bs ++ ps) ≡ joined (front ++ record { address = a; bytes = bs } ∷ []) ps
unfolding with_pair
joined_run front a [] ps run begins = let some = run.some in absurd (omega arith)
joined_run front a (b ∷ bs) ps run begins = grind (arith, joined_bytes)

joined_pairs : (front runs : List Part) → AllByRecursion IsRun runs → AreApart runs → Begins front runs → joined front (pairs_of runs) ≡ front ++ runs
unfolding pairs_of Begins
joined_pairs front [] each apart begins = sym (append-nil front)
joined_pairs front (run ∷ runs) each apart begins =
    joined_run front run.address run.bytes (pairs_of runs) each.0 begins
    ∙ joined_pairs (front ++ run ∷ []) runs each.1 apart.1 (next runs each.1 apart.0)
    ∙ append_assoc front (run ∷ []) runs
  where
    next : (rest : List Part) → AllByRecursion IsRun rest → AllByRecursion (λ later. run.address + length run.bytes < later.address) rest → Begins (front ++ run ∷ []) rest
    next [] more h = tt
    next (later ∷ rest) more h =
        let inside = more.0.inside in
        let some = more.0.some in
        let lt = h.0 in
        ends_behind front run later.address ∙ ne_eqb (next_address run) later.address (λ e. omega arith)

-- there is one list of runs
pub runs_once : (pairs : List (ℕ × ℕ)) (a b : List Part) → AreRunsOf pairs a → AreRunsOf pairs b → a ≡ b
unfolding Begins
runs_once pairs a b h g =
    let same : SaySameBytes (pairs_of a) (pairs_of b) = λ x. g.same x ∙ sym (h.same x) in
    let one = rises_once 0 (pairs_of a) (pairs_of b) (runs_rise a h.each h.apart) (runs_rise b g.each g.apart) same in
    sym (joined_pairs [] a h.each h.apart (first a)) ∙ ap (joined []) one ∙ joined_pairs [] b g.each g.apart (first b)
  where
    first : (runs : List Part) → Begins [] runs
    first [] = tt
    first (run ∷ runs) = refl

-- ---- the pairs of segments

pub pairs_more : (segments : List Segment) (i : ℕ) (s : Segment) (qs rs : List (ℕ × ℕ)) → i < length segments → s ≡ get_or segments i s → qs ≡ pairs_of (map part_of (take i segments))
    → rs ≡ qs ++ upwards s.address s.bytes.items → rs ≡ pairs_of (map part_of (take (i + 1) segments))
unfolding pairs_of
pairs_more segments i s qs rs lt is before now =
    let more = take_more segments i s lt in
    let parts = map_push part_of (take i segments) s in
    cc (more, parts, append-nil (upwards s.address s.bytes.items), flat_map-append pairs_of_part (map part_of (take i segments)) (part_of s ∷ []))
