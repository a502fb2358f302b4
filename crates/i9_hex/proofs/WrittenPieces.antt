-- The steps of writing pieces one after the other.
use Rattle.std.proofs.Common.{◌≡◌, ℕ, zero, suc, ◌+◌, ◌/◌, ◌%◌, ◌<◌, ◌≤◌, List, [], ◌∷◌, ◌++◌, length, take, drop, get_or, min, map, refl, sym, ap, ◌∙◌, append_assoc, arith, length-drop}
use Rattle.std.specs.List.{flat_map}
use Rattle.std.proofs.lemmas.List.{append-nil, take_all, drop_all, take_more, map_push}
use Rattle.std.proofs.lemmas.Grind.{flat_map-append}
use Rattle.i9_model.specs.Image.{address_count, Part}
use Rattle.i9_hex.specs.Shown.{part_of}
use Rattle.i9_hex.specs.declared.segments.Segment.{Segment}
use Rattle.i9_hex.specs.Writing.{piece_len, cut, pieces_of, piece_lines, body_lines, upper_after, with_line_feed, hex_lines, hex_text, end_line}

piece_some : (a : ℕ) → 0 < piece_len a
piece_some a = omega arith

pub cut-fuel : (n m a : ℕ) (bs : List ℕ) → length bs ≤ n → length bs ≤ m → cut n a bs ≡ cut m a bs
unfolding cut
cut-fuel zero zero a bs h g = refl
cut-fuel zero (suc m) a [] h g = refl
cut-fuel (suc n) zero a [] h g = refl
cut-fuel (suc n) (suc m) a [] h g = refl
cut-fuel (suc n) (suc m) a (b ∷ bs) h g =
    let len = length-drop (piece_len a) (b ∷ bs) in
    ap (λ (ps : List Part). record { address = a; bytes = take (piece_len a) (b ∷ bs) } ∷ ps)
    (cut-fuel n m ((a + piece_len a) % address_count) (drop (piece_len a) (b ∷ bs)) (omega (arith, len, piece_some a)) (omega (arith, len, piece_some a)))
cut-fuel _ _ a (b ∷ bs) h g = absurd (omega arith)

-- the first piece
pub cut-first : (a : ℕ) (bs : List ℕ) → 0 < length bs → cut (length bs) a bs ≡ record { address = a; bytes = take (piece_len a) bs } ∷ cut (length (drop (piece_len a) bs)) ((a + piece_len a) % address_count) (drop (piece_len a) bs)
unfolding cut
cut-first a bs some = grind (arith, length-drop, cut-fuel)

pub take-min : (k : ℕ) (xs : List ℕ) → take (min k (length xs)) xs ≡ take k xs
take-min k xs = grind (arith, take_all k xs, take_all (length xs) xs)

pub drop-min : (k : ℕ) (xs : List ℕ) → drop (min k (length xs)) xs ≡ drop k xs
drop-min k xs = grind (arith, drop_all k xs, drop_all (length xs) xs)

abbrev pub text_of_lines : List (List ℕ) → List ℕ
text_of_lines lines = flat_map with_line_feed lines

pub segment_turn : (half a next : ℕ) (rest piece after out out' total : List ℕ) → 0 < length rest → piece ≡ take (piece_len a) rest → after ≡ drop (piece_len a) rest → next ≡ (a + piece_len a) % address_count
    → out' ≡ out ++ text_of_lines (piece_lines half (record { address = a; bytes = piece })) → out ++ text_of_lines (body_lines half (cut (length rest) a rest)) ≡ total
    → out' ++ text_of_lines (body_lines (a / 65536) (cut (length after) next after)) ≡ total
unfolding body_lines
segment_turn half a next rest piece after out out' total some is_piece is_after is_next pushed so_far =
    grind (arith, cut-first, flat_map-append, append_assoc)

pub upper_turn : (half a next : ℕ) (rest after : List ℕ) (total : ℕ) → 0 < length rest → after ≡ drop (piece_len a) rest → next ≡ (a + piece_len a) % address_count
    → upper_after half (cut (length rest) a rest) ≡ total → upper_after (a / 65536) (cut (length after) next after) ≡ total
unfolding upper_after
upper_turn half a next rest after total some is_after is_next so_far = grind (arith, cut-first)

pub segment_end : (half a : ℕ) (rest out total : List ℕ) → length rest ≡ 0 → out ++ text_of_lines (body_lines half (cut (length rest) a rest)) ≡ total → out ≡ total
unfolding body_lines cut
segment_end half a rest out total none so_far = grind (arith, append-nil)

pub upper_end : (half a : ℕ) (rest : List ℕ) (total : ℕ) → length rest ≡ 0 → upper_after half (cut (length rest) a rest) ≡ total → half ≡ total
unfolding upper_after cut
upper_end half a rest total none so_far = grind arith

-- ---- one segment after the other

pub body_lines-append : (u : ℕ) (ps qs : List Part) → body_lines u (ps ++ qs) ≡ body_lines u ps ++ body_lines (upper_after u ps) qs
unfolding body_lines upper_after
body_lines-append u [] qs = refl
body_lines-append u (p ∷ ps) qs = ap (λ (ls : List (List ℕ)). piece_lines u p ++ ls) (body_lines-append (p.address / 65536) ps qs) ∙ sym (append_assoc (piece_lines u p) (body_lines (p.address / 65536) ps) (body_lines (upper_after (p.address / 65536) ps) qs))

pub upper_after-append : (u : ℕ) (ps qs : List Part) → upper_after u (ps ++ qs) ≡ upper_after (upper_after u ps) qs
unfolding upper_after
upper_after-append u [] qs = refl
upper_after-append u (p ∷ ps) qs = upper_after-append (p.address / 65536) ps qs

abbrev pub all_pieces : List Segment → List Part
all_pieces segments = flat_map pieces_of (map part_of segments)

pub all_pieces-more : (segments : List Segment) (i : ℕ) (s : Segment) → i < length segments → s ≡ get_or segments i s → all_pieces (take (i + 1) segments) ≡ all_pieces (take i segments) ++ pieces_of (part_of s)
all_pieces-more segments i s lt is =
    let more : take (i + 1) segments ≡ take i segments ++ s ∷ [] = take_more segments i s lt ∙ ap (λ (x : Segment). take i segments ++ x ∷ []) (sym is) in
    ap all_pieces more ∙ ap (λ (ps : List Part). flat_map pieces_of ps) (map_push part_of (take i segments) s) ∙ flat_map-append pieces_of (map part_of (take i segments)) (part_of s ∷ [])
    ∙ ap (λ (ps : List Part). all_pieces (take i segments) ++ ps) (append-nil (pieces_of (part_of s)))

pub text_turn : (segments : List Segment) (i half upper : ℕ) (s : Segment) (out out' : List ℕ) → i < length segments → s ≡ get_or segments i s
    → out ≡ text_of_lines (body_lines 0 (all_pieces (take i segments))) → upper ≡ upper_after 0 (all_pieces (take i segments))
    → out' ≡ out ++ text_of_lines (body_lines upper (pieces_of (part_of s))) → half ≡ upper_after upper (pieces_of (part_of s))
    → (out' ≡ text_of_lines (body_lines 0 (all_pieces (take (i + 1) segments)))) × (half ≡ upper_after 0 (all_pieces (take (i + 1) segments)))
text_turn segments i half upper s out out' lt is so_far stood pushed stands =
    let more = all_pieces-more segments i s lt is in
    let before = all_pieces (take i segments) in
    let split : text_of_lines (body_lines 0 (before ++ pieces_of (part_of s))) ≡ text_of_lines (body_lines 0 before) ++ text_of_lines (body_lines (upper_after 0 before) (pieces_of (part_of s))) =
    ap text_of_lines (body_lines-append 0 before (pieces_of (part_of s))) ∙ flat_map-append with_line_feed (body_lines 0 before) (body_lines (upper_after 0 before) (pieces_of (part_of s))) in (
      pushed ∙ ap (λ (x : List ℕ). x ++ text_of_lines (body_lines upper (pieces_of (part_of s)))) so_far ∙ ap (λ (u : ℕ). text_of_lines (body_lines 0 before) ++ text_of_lines (body_lines u (pieces_of (part_of s)))) stood
          ∙ sym split ∙ ap (λ (ps : List Part). text_of_lines (body_lines 0 ps)) (sym more),
      stands ∙ ap (λ (u : ℕ). upper_after u (pieces_of (part_of s))) stood ∙ sym (upper_after-append 0 before (pieces_of (part_of s))) ∙ ap (upper_after 0) (sym more),
    )

pub text_end : (segments : List Segment) (i : ℕ) (out out' : List ℕ) → length segments ≤ i → out ≡ text_of_lines (body_lines 0 (all_pieces (take i segments))) → out' ≡ out ++ with_line_feed end_line → out' ≡ hex_text (map part_of segments)
unfolding hex_lines
text_end segments i out out' le so_far pushed = grind (arith, take_all, append-nil, flat_map-append)
