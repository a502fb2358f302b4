-- Images with one byte more.
use Rattle.std.proofs.Common.{◌≡◌, ℕ, zero, suc, ◌+◌, ◌-◌, ◌<◌, Bool, true, false, cond, eqb, List, [], ◌∷◌, ◌++◌, length, get_or, set, take, map, refl, sym, ap, subst, ◌∙◌, arith, append_assoc, add-zero}
use Rattle.std.specs.List.{AllByRecursion}
use Rattle.std.proofs.Math.Seq.{map-set_same}
use Rattle.std.proofs.lemmas.Bool.{eqb-true}
use Rattle.std.proofs.lemmas.List.{append-nil, map_push, take_more, length-take-le}
use Rattle.std.proofs.lemmas.Grind.{flat_map-append}
use Rattle.i9_model.specs.Image.{address_count, Part, pairs_at, wrapped, pairs_of_part, pairs_of, AreParts}
use Rattle.i9_hex.proofs.Each.{all_push}
use Rattle.i9_hex.specs.Put.{next_address, ends_before, with_byte, with_pair}
use Rattle.i9_hex.specs.Shown.{part_of}
use Rattle.i9_hex.specs.declared.segments.Segment.{Segment}

-- bytes in a row, in two parts
pub pairs_at-append : (address : ℕ → ℕ) (n : ℕ) (xs ys : List ℕ) → pairs_at address n (xs ++ ys) ≡ pairs_at address n xs ++ pairs_at address (n + length xs) ys
pairs_at-append address n [] ys = rw add-zero refl
pairs_at-append address n (x ∷ xs) ys = grind (arith, pairs_at-append address (n + 1) xs ys)

-- the data of a record, one byte more
pub pairs_at-more : (address : ℕ → ℕ) (n i : ℕ) (bs : List ℕ) (ps qs rs : List (ℕ × ℕ)) → i < length bs → qs ≡ ps ++ pairs_at address n (take i bs) → rs ≡ qs ++ (address (n + i), get_or bs i 0) ∷ []
    → rs ≡ ps ++ pairs_at address n (take (i + 1) bs)
pairs_at-more address n i bs ps qs rs lt before now =
    let more : take (i + 1) bs ≡ take i bs ++ get_or bs i 0 ∷ [] = take_more bs i 0 lt in
    let len : length (take i bs) ≡ i = length-take-le i bs (omega arith) in
    rw (now, before, more, pairs_at-append, len) (append_assoc ps (pairs_at address n (take i bs)) ((address (n + i), get_or bs i 0) ∷ []))

-- ---- the last segment

-- what the test of the last segment finds
pub ends_before-last : (items : List Segment) (n a : ℕ) (d last : Segment) → suc n ≡ length items → last ≡ get_or items n d → ends_before (map part_of items) a ≡ eqb (next_address (part_of last)) a
ends_before-last (s ∷ []) zero a d last len is = cc
ends_before-last (s ∷ t ∷ ss) (suc n) a d last len is = ends_before-last (t ∷ ss) n a d last (omega arith) is
ends_before-last _ _ a d last len is = absurd (omega arith)

-- the last segment with a byte more
pub parts-grown : (items : List Segment) (n b : ℕ) (old new : Segment) → suc n ≡ length items → old ≡ get_or items n old → part_of new ≡ record { address = old.address; bytes = old.bytes.items ++ b ∷ [] }
    → map part_of (set items n new) ≡ with_byte (map part_of items) b
parts-grown (s ∷ []) zero b old new len is more = cc
parts-grown (s ∷ t ∷ ss) (suc n) b old new len is more =
    cc (parts-grown (t ∷ ss) n b old new (omega arith) is more)
parts-grown _ _ b old new len is more = absurd (omega arith)

-- a byte that was not stored leaves what the segments show
pub parts-same : (items : List Segment) (n : ℕ) (old new : Segment) → old ≡ get_or items n old → part_of new ≡ part_of old → map part_of (set items n new) ≡ map part_of items
parts-same items n old new is same = map-set_same part_of items n new old (same ∙ ap part_of is)

-- a byte that goes to the last segment
pub with_pair-grown : (items : List Segment) (n a b : ℕ) (old new : Segment) → ends_before (map part_of items) a ≡ true → n ≡ length items - 1 → old ≡ get_or items n old → part_of new ≡ record { address = old.address; bytes = old.bytes.items ++ b ∷ [] }
    → map part_of (set items n new) ≡ with_pair (map part_of items) a b
unfolding with_pair
with_pair-grown [] n a b old new ends len is more = absurd cc
with_pair-grown (s ∷ ss) n a b old new ends len is more = rw ends (parts-grown (s ∷ ss) n b old new (omega arith) is more)

-- a byte that goes to a new segment
pub with_pair-begun : (items : List Segment) (a b : ℕ) (new : Segment) → ends_before (map part_of items) a ≡ false → part_of new ≡ record { address = a; bytes = b ∷ [] } → map part_of (items ++ new ∷ []) ≡ with_pair (map part_of items) a b
unfolding with_pair
with_pair-begun items a b new begins is = rw begins (map_push part_of items new ∙ ap (λ (p : Part). map part_of items ++ p ∷ []) is)

-- ---- the pairs

-- a part with a byte more
pairs_of_part-grown : (p : Part) (a b : ℕ) → next_address p ≡ a → pairs_of_part (record p { bytes = p.bytes ++ b ∷ [] }) ≡ pairs_of_part p ++ (a, b) ∷ []
pairs_of_part-grown p a b next = pairs_at-append wrapped p.address p.bytes (b ∷ []) ∙ ap (λ (k : ℕ). pairs_of_part p ++ (k, b) ∷ []) next

pairs_of-with_byte : (ps : List Part) (a b : ℕ) → ends_before ps a ≡ true → pairs_of (with_byte ps b) ≡ pairs_of ps ++ (a, b) ∷ []
unfolding pairs_of
pairs_of-with_byte [] a b ends = absurd cc
pairs_of-with_byte (p ∷ []) a b ends = grind (arith, append-nil, pairs_of_part-grown, eqb-true)
pairs_of-with_byte (p ∷ q ∷ ps) a b ends = grind (arith, append_assoc, pairs_of-with_byte (q ∷ ps) a b ends)

-- one pair more is the last
pub pairs_of-with_pair : (ps : List Part) (a b : ℕ) → a < address_count → pairs_of (with_pair ps a b) ≡ pairs_of ps ++ (a, b) ∷ []
unfolding pairs_of with_pair
pairs_of-with_pair ps a b small = grind (arith, pairs_of-with_byte, flat_map-append)

-- the same, as a call of `put` shows it
pub one_pair_more : (ps qs : List Part) (a b : ℕ) → a < address_count → qs ≡ with_pair ps a b → pairs_of qs ≡ pairs_of ps ++ (a, b) ∷ []
one_pair_more ps qs a b small is = ap pairs_of is ∙ pairs_of-with_pair ps a b small

-- ---- the invariant

AreParts-with_byte : (ps : List Part) (b : ℕ) → b < 256 → AreParts ps → AreParts (with_byte ps b)
AreParts-with_byte [] b small h = tt
AreParts-with_byte (p ∷ []) b small h = (record { address = h.0.address; bytes = all_push (λ x. x < 256) p.bytes b h.0.bytes small }, tt)
AreParts-with_byte (p ∷ q ∷ ps) b small h = (h.0, AreParts-with_byte (q ∷ ps) b small h.1)

pub AreParts-with_pair : (ps : List Part) (a b : ℕ) → a < address_count → b < 256 → AreParts ps → AreParts (with_pair ps a b)
unfolding with_pair
AreParts-with_pair ps a b small byte h = grind (arith, all_push, AreParts-with_byte)

-- ---- a segment more

AreBytes-from : (xs : List ℕ) → ((k : ℕ) → k < length xs → get_or xs k 0 < 256) → AllByRecursion (λ x. x < 256) xs
AreBytes-from [] h = tt
AreBytes-from (x ∷ xs) h = (h 0 (omega arith), AreBytes-from xs (λ k lt. h (suc k) (omega arith)))

-- where a push went well or not
pub AreParts-pushed : (well : Bool) (old new : List Segment) (s : Segment) → new ≡ cond well (old ++ s ∷ []) old → s.address < address_count → ((k : ℕ) → k < length s.bytes.items → get_or s.bytes.items k 0 < 256) → AreParts (map part_of old) → AreParts (map part_of new)
AreParts-pushed true old new s is small low h = grind (arith, map_push, all_push, AreBytes-from)
AreParts-pushed false old new s is small low h = subst (λ (xs : List Segment). AreParts (map part_of xs)) (sym is) h
