-- Which byte an image has at an address.
use Rattle.std.proofs.Common.{◌≡◌, ◌≢◌, ℕ, ◌+◌, ◌-◌, ◌*◌, ◌/◌, ◌%◌, ◌^◌, ◌<◌, Bool, true, false, cond, List, [], ◌∷◌, ◌++◌, length, map, take, get_or, Option, Some, None, refl, sym, ap, ◌∙◌, inl, inr, arith}
use Rattle.std.specs.Prelude.{◌==◌}
use Rattle.std.specs.List.{slice_get}
use Rattle.std.proofs.lemmas.Bool.{cases_lt}
use Rattle.std.proofs.lemmas.Bool.Decides.{nat_tests}
use Rattle.std.proofs.lemmas.Option.{slice_get_past, slice_get-get_or}
use Rattle.std.specs.Option.{option_or}
use Rattle.i9_model.specs.Writes.{wrapped, or_earlier, last_put, upwards}
use Rattle.std.proofs.lemmas.List.{map_more, flat_map_more}
use Rattle.i9_model.specs.Image.{pairs_of, pairs_of_part}
use Rattle.i9_model.proofs.LastPuts.{last_append}
use Rattle.i9_hex.specs.declared.segments.Segment.{Segment}
use Rattle.i9_hex.specs.Shown.{part_of}
use Rattle.i9_model.proofs.Upwards.{or_none, get_later, above, before_first}

-- the last place of so many that lies so far above an address
abbrev last_place : ℕ → ℕ → ℕ
last_place n k = k + (n - (k + 1)) / 2 ^ 32 * 2 ^ 32

next_place : (a x n : ℕ) → x < 2 ^ 32 → x ≢ wrapped a → last_place (n + 1) (above a x) ≡ last_place n (above (a + 1) x) + 1
next_place a x n small other =
    let e : above a x ≡ above (a + 1) x + 1 = omega arith in
    omega (arith, e)

-- the first address comes again or not
at_first : (a b : ℕ) (bs : List ℕ) (x : ℕ) → x ≡ wrapped a → or_earlier (slice_get bs (last_place (length bs) (above (a + 1) x))) (Some b) ≡ slice_get (b ∷ bs) (last_place (length bs + 1) (above a x))
at_first a b bs x same = elim (cases_lt (length bs) (2 ^ 32)) [
  | inl few ↦
      let here : last_place (length bs + 1) (above a x) ≡ 0 = omega (arith, same, few) in
      let past = slice_get_past bs (last_place (length bs) (above (a + 1) x)) (let e = before_first a in omega (arith, same, few, e)) in
      ap (λ (o : Option ℕ). or_earlier o (Some b)) past ∙ sym (ap (slice_get (b ∷ bs)) here)
  | inr many ↦
      let next : last_place (length bs + 1) (above a x) ≡ last_place (length bs) (above (a + 1) x) + 1 = omega (arith, same, many) in
      let there = slice_get-get_or bs (last_place (length bs) (above (a + 1) x)) 0 (omega (arith, same, many)) in
      ap (λ (o : Option ℕ). or_earlier o (Some b)) there ∙ sym there ∙ sym (get_later b bs _ _ next)
]

by_test : (a b : ℕ) (bs : List ℕ) (x : ℕ) (here : Bool) → x < 2 ^ 32 → (x == wrapped a) ≡ here
    → or_earlier (slice_get bs (last_place (length bs) (above (a + 1) x))) (cond here (Some b) None) ≡ slice_get (b ∷ bs) (last_place (length bs + 1) (above a x))
by_test a b bs x true small t = at_first a b bs x (grind (arith, nat_tests, t))
by_test a b bs x false small t =
    let other : x ≢ wrapped a = λ same. grind (arith, nat_tests, t, same) in
    or_none _ ∙ sym (get_later b bs _ _ (next_place a x (length bs) small other))

pub last_around : (a : ℕ) (bs : List ℕ) (x : ℕ) → x < 2 ^ 32 → last_put (upwards a bs) x ≡ slice_get bs (last_place (length bs) (above a x))
unfolding last_put
last_around a [] x small = refl
last_around a (b ∷ bs) x small =
    ap (λ (o : Option ℕ). or_earlier o (cond (x == wrapped a) (Some b) None)) (last_around (a + 1) bs x small)
    ∙ by_test a b bs x (x == wrapped a) small refl
    ∙ (let long : length bs + 1 ≡ length (b ∷ bs) = omega arith in ap (λ (n : ℕ). slice_get (b ∷ bs) (last_place n (above a x))) long)

-- the byte of a segment, as the code looks for it
pub last_from : (a : ℕ) (bs : List ℕ) (x : ℕ) → a < 2 ^ 32 → x < 2 ^ 32
    → last_put (upwards a bs) x ≡ slice_get bs (last_place (length bs) ((x + (2 ^ 32 - a)) % 2 ^ 32))
last_from a bs x lt small =
    let same : a % 2 ^ 32 ≡ a = omega (arith, lt) in
    last_around a bs x small ∙ ap (λ (n : ℕ). slice_get bs (last_place (length bs) ((x + (2 ^ 32 - n)) % 2 ^ 32))) same

-- ---- a segment more

first_of : (o p : Option ℕ) → option_or o p ≡ or_earlier o p
first_of None p = refl
first_of (Some v) p = refl

more_pairs : (segments : List Segment) (i : ℕ) (s : Segment) → i < length segments → s ≡ get_or segments i s
    → pairs_of (map part_of (take i segments)) ++ pairs_of_part (part_of s) ≡ pairs_of (map part_of (take (i + 1) segments))
unfolding pairs_of
more_pairs segments i s lt is =
    rw (map_more part_of segments i s lt, sym is) (flat_map_more pairs_of_part [] (map part_of (take i segments)) (part_of s))

pub found_more : (segments : List Segment) (i x : ℕ) (s : Segment) (byte found : Option ℕ) → i < length segments → s ≡ get_or segments i s → byte ≡ last_put (pairs_of_part (part_of s)) x
    → found ≡ last_put (pairs_of (map part_of (take i segments))) x → option_or byte found ≡ last_put (pairs_of (map part_of (take (i + 1) segments))) x
found_more segments i x s byte found lt is here before =
    first_of byte found
    ∙ rw (here, before, sym (more_pairs segments i s lt is)) (sym (last_append (pairs_of (map part_of (take i segments))) (pairs_of_part (part_of s)) x))
