-- What is written is read again.
use Rattle.std.proofs.Common.{◌≡◌, ℕ, zero, suc, ◌+◌, ◌*◌, ◌/◌, ◌%◌, ◌<◌, ◌≤◌, true, false, eqb, List, [], ◌∷◌, ◌++◌, length, take, drop, refl, sym, ap, subst, ◌∙◌, append_assoc, arith, inl, inr, length-append, length-drop, lit<, zero-add}
use Rattle.std.specs.List.{flat_map, AllByRecursion}
use Rattle.std.proofs.lemmas.Bool.{cases_Bool, cases_lt, eqb-true}
use Rattle.std.proofs.lemmas.List.{append-nil, length-take, take-append-drop, drop_all}
use Rattle.std.proofs.lemmas.Grind.{flat_map-append, fold-append}
use Rattle.hex.specs.Hex.{IsBytes}
use Rattle.hex.proofs.HexLemmas.{decode_of-encode_upper}
use Rattle.i9_text.specs.Text.{lines_of}
use Rattle.i9_text.specs.FirstFault as texts
use Rattle.i9_text.proofs.FirstFaultOnce.{SaysAll-append}
use Rattle.i9_text.proofs.WrittenLines.{IsPlain, lines_of-written, plain-encode_upper}
use Rattle.i9_model.specs.Image.{address_count, wrapped, Part, pairs_at, upwards, pairs_of_part, pairs_of, AreParts}
use Rattle.i9_model.specs.HexText.{most_bytes, data_type, end_type, upper_type, Upper, address_in, HexState, start, IsRecord, Says, says_nothing, says_bytes, says_end, says_upper, IsImage}
use Rattle.i9_hex.specs.Writing.{record_line, piece_len, cut, pieces_of, upper_lines, piece_lines, body_lines, upper_after, end_line, hex_lines, hex_text}
use Rattle.i9_model.proofs.Reading.{length-pairs_at}
use Rattle.i9_hex.proofs.Each.{all_append, all_take, all_drop}
use Rattle.i9_hex.proofs.PartLemmas.{pairs_at-append}

abbrev AreBytes : List ℕ → Type 0
AreBytes xs = AllByRecursion (λ b. b < 256) xs

IsBytes-recursion : (bs : List ℕ) → AreBytes bs → IsBytes bs
IsBytes-recursion [] h i = omega arith
IsBytes-recursion (b ∷ bs) h zero = h.0
IsBytes-recursion (b ∷ bs) h (suc i) = IsBytes-recursion bs h.1 i

-- ---- one record

-- what a record that is written holds
record Fits (record_type address : ℕ) (content : List ℕ) : Type 0 where
  type_small : record_type < 256
  address_small : address < 65536
  content_short : length content < 256
  content_bytes : AreBytes content

is_written : (record_type address : ℕ) (content : List ℕ) → Fits record_type address content → IsRecord (record_line record_type address content) record_type address content
unfolding record_line
is_written record_type address content h =
    grind (arith, fold-append, decode_of-encode_upper, IsBytes-recursion, all_append)

line_written : (record_type address : ℕ) (content : List ℕ) → Fits record_type address content → IsPlain (record_line record_type address content)
unfolding record_line
line_written record_type address content h = grind (arith, plain-encode_upper)

-- ---- one piece

abbrev SaysAll : HexState → List (List ℕ) → HexState → Type 0
SaysAll = texts.SaysAll Says

upper-upwards : (half low : ℕ) (bs : List ℕ) → pairs_at (address_in (Upper half)) low bs ≡ upwards (half * 65536 + low) bs
upper-upwards half low [] = refl
upper-upwards half low (b ∷ bs) = grind (arith, upper-upwards half (low + 1) bs)

abbrev at_upper : List (ℕ × ℕ) → ℕ → HexState
at_upper pairs half = record { pairs = pairs; origin = Upper half; ended = false }

-- a piece that is written
record IsPiece (p : Part) : Type 0 where
  piece_address : p.address < address_count
  piece_short : length p.bytes < 256
  piece_bytes : AreBytes p.bytes

upper_fits : (half : ℕ) → half < 65536 → Fits upper_type 0 (half / 256 ∷ half % 256 ∷ [])
upper_fits half small = record { type_small = lit< tt; address_small = lit< tt; content_short = lit< tt; content_bytes = (omega arith, (omega arith, tt)) }

piece_fits : (p : Part) → IsPiece p → Fits data_type (p.address % 65536) p.bytes
piece_fits p h = record { type_small = lit< tt; address_small = omega arith; content_short = h.piece_short; content_bytes = h.piece_bytes }

says_upper_lines : (pairs : List (ℕ × ℕ)) (u half : ℕ) → half < 65536 → SaysAll (at_upper pairs u) (upper_lines u half) (at_upper pairs half)
says_upper_lines pairs u half small =
    elim (cases_Bool (eqb half u)) [
      | inl same ↦
          let e : half ≡ u = eqb-true half u same in
          rw same (ap (at_upper pairs) (sym e))
      | inr other ↦
          let e : half / 256 * 256 + half % 256 ≡ half = omega arith in
          rw other (at_upper pairs (half / 256 * 256 + half % 256), says_upper (at_upper pairs u) (record_line upper_type 0 (half / 256 ∷ half % 256 ∷ [])) 0 (half / 256) (half % 256) refl (is_written upper_type 0 (half / 256 ∷ half % 256 ∷ []) (upper_fits half small)), ap (at_upper pairs) e)
    ]

says_piece_lines : (pairs : List (ℕ × ℕ)) (u : ℕ) (p : Part) → IsPiece p → length pairs + length p.bytes ≤ most_bytes → SaysAll (at_upper pairs u) (piece_lines u p) (at_upper (pairs ++ pairs_of_part p) (p.address / 65536))
says_piece_lines pairs u p h few =
    let half = p.address / 65536 in
    let low = p.address % 65536 in
    let e : p.address / 65536 * 65536 + p.address % 65536 ≡ p.address = omega arith in
    let same : pairs_at (address_in (Upper half)) low p.bytes ≡ pairs_of_part p = upper-upwards half low p.bytes ∙ ap (λ (a : ℕ). upwards a p.bytes) e in
    SaysAll-append Says (at_upper pairs u) (at_upper pairs half) (at_upper (pairs ++ pairs_of_part p) half) (upper_lines u half) (record_line data_type low p.bytes ∷ [])
    (says_upper_lines pairs u half (omega (arith, h.piece_address)))
    (at_upper (pairs ++ pairs_at (address_in (Upper half)) low p.bytes) half, says_bytes (at_upper pairs half) (record_line data_type low p.bytes) low p.bytes refl (is_written data_type low p.bytes (piece_fits p h)) few, ap (λ (ps : List (ℕ × ℕ)). at_upper (pairs ++ ps) half) same)

-- ---- all pieces

abbrev pairs_of_pieces : List Part → List (ℕ × ℕ)
pairs_of_pieces ps = flat_map pairs_of_part ps

says_body : (ps : List Part) (pairs : List (ℕ × ℕ)) (u : ℕ) → AllByRecursion IsPiece ps → length pairs + length (pairs_of_pieces ps) ≤ most_bytes
    → SaysAll (at_upper pairs u) (body_lines u ps) (at_upper (pairs ++ pairs_of_pieces ps) (upper_after u ps))
unfolding body_lines upper_after
says_body [] pairs u h few = ap (λ (x : List (ℕ × ℕ)). at_upper x u) (sym (append-nil pairs))
says_body (p ∷ ps) pairs u h few =
    let half = p.address / 65536 in
    let len = length-append (pairs_of_part p) (pairs_of_pieces ps) in
    let len-p = length-pairs_at wrapped p.address p.bytes in
    let len-more = length-append pairs (pairs_of_part p) in
    let rest = says_body ps (pairs ++ pairs_of_part p) half h.1 (omega (arith, len, len-p, len-more)) in
    let first = says_piece_lines pairs u p h.0 (omega (arith, len, len-p)) in
    SaysAll-append Says (at_upper pairs u) (at_upper (pairs ++ pairs_of_part p) half) (at_upper (pairs ++ pairs_of_pieces (p ∷ ps)) (upper_after half ps)) (piece_lines u p) (body_lines half ps) first
    (subst (λ (x : List (ℕ × ℕ)). SaysAll (at_upper (pairs ++ pairs_of_part p) half) (body_lines half ps) (at_upper x (upper_after half ps))) (append_assoc pairs (pairs_of_part p) (pairs_of_pieces ps)) rest)

are_pieces : (n a : ℕ) (bs : List ℕ) → a < address_count → AreBytes bs → AllByRecursion IsPiece (cut n a bs)
unfolding cut
are_pieces zero a bs small h = tt
are_pieces (suc n) a [] small h = tt
are_pieces (suc n) a (b ∷ bs) small h = (
  record { piece_address = small; piece_short = omega (arith, length-take (piece_len a) (b ∷ bs)); piece_bytes = all_take (λ b. b < 256) (piece_len a) (b ∷ bs) h },
  are_pieces n ((a + piece_len a) % address_count) (drop (piece_len a) (b ∷ bs)) (omega arith) (all_drop (λ b. b < 256) (piece_len a) (b ∷ bs) h),
)

upwards-same : (a c : ℕ) (bs : List ℕ) → a % address_count ≡ c % address_count → upwards a bs ≡ upwards c bs
upwards-same a c [] e = refl
upwards-same a c (b ∷ bs) e =
    let f : (a + 1) % address_count ≡ (c + 1) % address_count = omega arith in
    ap (λ (x : ℕ). (x, b) ∷ upwards (a + 1) bs) e ∙ ap (λ (ps : List (ℕ × ℕ)). (c % address_count, b) ∷ ps) (upwards-same (a + 1) (c + 1) bs f)

-- the bytes behind the first k, from where they stand
upwards-rest : (a k : ℕ) (bs : List ℕ) → upwards ((a + k) % address_count) (drop k bs) ≡ upwards (a + length (take k bs)) (drop k bs)
upwards-rest a k bs = grind (arith, cases_lt, length-take, upwards-same, drop_all)

pairs-cut : (n a : ℕ) (bs : List ℕ) → length bs ≤ n → pairs_of_pieces (cut n a bs) ≡ upwards a bs
unfolding cut
pairs-cut zero a [] le = refl
pairs-cut zero a (b ∷ bs) le = absurd (omega arith)
pairs-cut (suc n) a [] le = refl
pairs-cut (suc n) a (b ∷ bs) le =
    let k = piece_len a in
    let xs : List ℕ = b ∷ bs in
    let rest = pairs-cut n ((a + piece_len a) % address_count) (drop (piece_len a) (b ∷ bs)) (omega (arith, length-drop (piece_len a) (b ∷ bs))) in
    ap (λ (ps : List (ℕ × ℕ)). upwards a (take (piece_len a) (b ∷ bs)) ++ ps) (rest ∙ upwards-rest a (piece_len a) (b ∷ bs))
    ∙ sym (pairs_at-append wrapped a (take (piece_len a) (b ∷ bs)) (drop (piece_len a) (b ∷ bs))) ∙ ap (λ (ys : List ℕ). upwards a ys) (take-append-drop (piece_len a) (b ∷ bs))

abbrev pieces : List Part → List Part
pieces parts = flat_map pieces_of parts

all_pieces : (parts : List Part) → AreParts parts → AllByRecursion IsPiece (pieces parts)
all_pieces [] h = tt
all_pieces (p ∷ parts) h = all_append IsPiece (pieces_of p) (pieces parts) (are_pieces (length p.bytes) p.address p.bytes h.0.address h.0.bytes) (all_pieces parts h.1)

pairs-pieces : (parts : List Part) → pairs_of_pieces (pieces parts) ≡ pairs_of parts
unfolding pairs_of
pairs-pieces [] = refl
pairs-pieces (p ∷ parts) = grind (arith, flat_map-append, pairs-cut, pairs-pieces parts)

-- ---- the whole text

upper_are_lines : (u half : ℕ) → half < 65536 → AllByRecursion IsPlain (upper_lines u half)
upper_are_lines u half small =
    grind (arith, line_written upper_type 0 (half / 256 ∷ half % 256 ∷ []) (upper_fits half small))

body_are_lines : (u : ℕ) (ps : List Part) → AllByRecursion IsPiece ps → AllByRecursion IsPlain (body_lines u ps)
unfolding body_lines
body_are_lines u [] h = tt
body_are_lines u (p ∷ ps) h =
    grind (arith, all_append, upper_are_lines, line_written, piece_fits, body_are_lines (p.address / 65536) ps h.1)

end_fits : Fits end_type 0 []
end_fits = record { type_small = lit< tt; address_small = lit< tt; content_short = lit< tt; content_bytes = tt }

pub is_image_written : (parts : List Part) → AreParts parts → length (pairs_of parts) ≤ most_bytes → IsImage (lines_of (hex_text parts)) (pairs_of parts)
unfolding hex_lines
is_image_written parts h few =
    let ps = pieces parts in
    let are = all_pieces parts h in
    let same = pairs-pieces parts in
    let lines = lines_of-written (hex_lines parts) (all_append IsPlain (body_lines 0 ps) (end_line ∷ []) (body_are_lines 0 ps are) (line_written end_type 0 [] end_fits, tt)) in
    let s = at_upper (pairs_of_pieces ps) (upper_after 0 ps) in
    let ended : HexState = record { pairs = pairs_of_pieces ps; origin = Upper (upper_after 0 ps); ended = true } in
    let body = says_body ps [] 0 are (rw (same, zero-add) few) in
    let last : SaysAll s (end_line ∷ []) ended = (ended, says_end s end_line 0 refl (is_written end_type 0 [] end_fits), refl) in
    let blank : SaysAll ended ([] ∷ []) ended = (ended, says_nothing ended, refl) in
    let whole = SaysAll-append Says start ended ended (body_lines 0 ps ++ end_line ∷ []) ([] ∷ []) (SaysAll-append Says start s ended (body_lines 0 ps) (end_line ∷ []) body last) blank in
    record { last = ended; says = rw lines whole; ended = refl; same = same }
