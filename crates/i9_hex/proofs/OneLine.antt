-- The functions `fault_of` and `with_line` answer the relation `Says`, both ways.
use Rattle.std.proofs.Common.{◌≡◌, ℕ, zero, suc, ◌+◌, ◌*◌, ◌/◌, ◌%◌, ◌<◌, ◌≤◌, true, false, ltb, List, [], ◌∷◌, ◌++◌, length, take, get_or, Option, None, Result, Ok, Err, refl, sym, ap, subst, ◌∙◌, arith, sum, eq-eqb, length-append}
use Rattle.i9_model.proofs.FrameLaws.{if_none}
use Rattle.std.proofs.lemmas.Bool.{eqb-true, le-ltb, not-false}
use Rattle.std.proofs.lemmas.List.{take_more, take_all, take_at, length-take-le}
use Rattle.hex.specs.Hex.{decode_of}
use Rattle.hex.specs.declared.error.FromHexError.{FromHexError}
use Rattle.hex.proofs.HexLemmas.{decode_of-ok}
use Rattle.i9_model.specs.HexText.{colon, most_bytes, data_type, end_type, base_type, start_segment_type, upper_type, start_address_type, HexState, record_bytes, IsRecord, Says, says_nothing, says_bytes, says_end, says_base, says_start_segment, says_upper, says_start_address, first_fault, fits_type, fault_of_bytes, fault_of_more, fault_of_room, fault_of_digits, fault_of}
use Rattle.i9_hex.specs.Lines.{with_pairs, with_record, with_digits, with_line}

-- ---- where there is no fault

-- the last of n + 1 bytes stands behind the first n
split-last : (n : ℕ) (rest : List ℕ) → length rest ≡ n + 1 → rest ≡ take n rest ++ get_or rest n 0 ∷ []
split-last n rest len = sym (take_all (n + 1) rest (omega arith)) ∙ take_more rest n 0 (omega arith)

-- bytes of the right number are a record
is_record : (digits : List ℕ) (n h l k : ℕ) (rest : List ℕ) → decode_of digits ≡ Ok (n ∷ h ∷ l ∷ k ∷ rest) → l < 256 → length rest ≡ n + 1 → sum (n ∷ h ∷ l ∷ k ∷ rest) % 256 ≡ 0
    → IsRecord (colon ∷ digits) k (h * 256 + l) (take n rest)
is_record digits n h l k rest decoded small len whole =
    let e-n : length (take n rest) ≡ n = length-take-le n rest (omega arith) in
    let e-h : (h * 256 + l) / 256 ≡ h = omega arith in
    let e-l : (h * 256 + l) % 256 ≡ l = omega arith in
    let same : record_bytes k (h * 256 + l) (take n rest) (get_or rest n 0) ≡ n ∷ h ∷ l ∷ k ∷ rest =
    rw (e-n, e-h, e-l) (ap (λ (xs : List ℕ). n ∷ h ∷ l ∷ k ∷ xs) (sym (split-last n rest len))) in
    record { digits = digits; check = get_or rest n 0; text = refl; bytes = decoded ∙ ap Ok (sym same); whole = rw same whole }

-- a record in other words for its data
with_content : (line : List ℕ) (k a : ℕ) (c d : List ℕ) → c ≡ d → IsRecord line k a c → IsRecord line k a d
with_content line k a c d e r = subst (λ (x : List ℕ). IsRecord line k a x) e r

-- where too many data bytes are no fault
room : (s : HexState) (n : ℕ) → fault_of_more s n ≡ None → length s.pairs + n ≤ most_bytes
room s n e = grind arith

-- a record of two bytes
two_bytes : (line : List ℕ) (k a n : ℕ) (rest : List ℕ) → length rest ≡ n + 1 → n ≡ 2 → IsRecord line k a (take n rest) → IsRecord line k a (get_or rest 0 0 ∷ get_or rest 1 0 ∷ [])
two_bytes line k a n rest len two r = grind arith

-- a record without fault, by its type
says_record : (s : HexState) (line : List ℕ) (n h l k : ℕ) (rest : List ℕ) → s.ended ≡ false → IsRecord line k (h * 256 + l) (take n rest) → length rest ≡ n + 1
    → k ≤ 5 → fits_type k n ≡ true → fault_of_room s (n ∷ h ∷ l ∷ k ∷ rest) ≡ None → Says s line (with_record s (n ∷ h ∷ l ∷ k ∷ rest))
unfolding with_record
says_record s line n h l zero rest going r len known fits fine =
    let count : length (take n rest) ≡ n = length-take-le n rest (omega arith) in
    says_bytes s line (h * 256 + l) (take n rest) going r (rw count (room s n fine))
says_record s line n h l (suc zero) rest going r len known fits fine =
    let none : n ≡ 0 = eqb-true n 0 fits in
    says_end s line (h * 256 + l) going (with_content line 1 (h * 256 + l) (take n rest) [] (rw none refl) r)
says_record s line n h l (suc (suc zero)) rest going r len known fits fine =
    says_base s line (h * 256 + l) (get_or rest 0 0) (get_or rest 1 0) going (two_bytes line 2 (h * 256 + l) n rest len (eqb-true n 2 fits) r)
says_record s line n h l (suc (suc (suc zero))) rest going r len known fits fine =
    says_start_segment s line (h * 256 + l) (take n rest) going (length-take-le n rest (omega arith) ∙ eqb-true n 4 fits) r
says_record s line n h l (suc (suc (suc (suc zero)))) rest going r len known fits fine =
    says_upper s line (h * 256 + l) (get_or rest 0 0) (get_or rest 1 0) going (two_bytes line 4 (h * 256 + l) n rest len (eqb-true n 2 fits) r)
says_record s line n h l (suc (suc (suc (suc (suc zero))))) rest going r len known fits fine =
    says_start_address s line (h * 256 + l) (take n rest) going (length-take-le n rest (omega arith) ∙ eqb-true n 4 fits) r
says_record s line n h l (suc (suc (suc (suc (suc (suc k)))))) rest going r len known fits fine = absurd (omega arith)

-- what the tests of a record's bytes show
record FineBytes (xs : List ℕ) : Type 0 where
  pub long : 5 ≤ length xs
  pub size : length xs ≡ get_or xs 0 0 + 5
  pub whole : sum xs % 256 ≡ 0
  pub known : get_or xs 3 0 ≤ 5
  pub fits : fits_type (get_or xs 3 0) (get_or xs 0 0) ≡ true

-- bytes without fault passed the tests
fine_bytes : (xs : List ℕ) → fault_of_bytes xs ≡ None → FineBytes xs
unfolding fault_of_bytes
fine_bytes xs h = grind arith

first_none : (a b : Option ℕ) → first_fault a b ≡ None → (a ≡ None) × (b ≡ None)
first_none a b h = grind arith

-- fewer than five bytes are at fault
too_short : (s : HexState) (bytes : List ℕ) → length bytes < 5 → fault_of_digits s (Ok bytes) ≡ None → ⊥
unfolding fault_of_bytes
too_short s bytes short fine = grind arith

-- bytes without fault say what they lead to
says-decoded : (s : HexState) (digits : List ℕ) (r : Result (List ℕ) FromHexError) → decode_of digits ≡ r → s.ended ≡ false → fault_of_digits s r ≡ None → Says s (colon ∷ digits) (with_digits s r)
says-decoded s digits (Err e) decoded going fine = absurd cc
says-decoded s digits (Ok (n ∷ h ∷ l ∷ k ∷ rest)) decoded going fine =
    let parts = first_none (fault_of_bytes (n ∷ h ∷ l ∷ k ∷ rest)) (fault_of_room s (n ∷ h ∷ l ∷ k ∷ rest)) fine in
    let b = fine_bytes (n ∷ h ∷ l ∷ k ∷ rest) parts.0 in
    let small = (decode_of-ok digits (n ∷ h ∷ l ∷ k ∷ rest) decoded).3 2 in
    let len : length rest ≡ n + 1 = omega (arith, b.size) in
    says_record s (colon ∷ digits) n h l k rest going (is_record digits n h l k rest decoded small len b.whole) len b.known b.fits parts.1
says-decoded s digits (Ok few) decoded going fine = absurd (too_short s few (omega arith) fine)

-- a line without fault says what it leads to
pub says_line : (s : HexState) (line : List ℕ) → fault_of s line ≡ None → Says s line (with_line s line)
unfolding fault_of
says_line s [] fine = says_nothing s
says_line s (c ∷ digits) fine = grind (arith, if_none, eqb-true, not-false, says-decoded)

-- ---- where a line says something

-- nor has its line, which leads to what the bytes lead to
line_fine : (s after : HexState) (line : List ℕ) (t a : ℕ) (content : List ℕ) → s.ended ≡ false → IsRecord line t a content → t ≤ start_address_type → fits_type t (length content) ≡ true
    → ((check : ℕ) → (fault_of_room s (record_bytes t a content check) ≡ None) × (with_record s (record_bytes t a content check) ≡ after)) → (fault_of s line ≡ None) × (with_line s line ≡ after)
unfolding fault_of fault_of_bytes
line_fine s after line t a content going r known fits effect = grind (arith, length-append, le-ltb, eq-eqb)

more_fine : (s : HexState) (n : ℕ) → length s.pairs + n ≤ most_bytes → fault_of_more s n ≡ None
more_fine s n few = let t : ltb most_bytes (length s.pairs + n) ≡ false = le-ltb _ _ few in rw t refl

-- the bytes of a data record add its data
bytes_effect : (s : HexState) (a check : ℕ) (bs : List ℕ) → with_record s (record_bytes data_type a bs check) ≡ with_pairs s a bs
unfolding with_record
bytes_effect s a check bs = grind (arith, take_at)

-- what a line says is what it leads to, without fault
pub line_says : (s : HexState) (line : List ℕ) (after : HexState) → Says s line after → (fault_of s line ≡ None) × (with_line s line ≡ after)
unfolding fault_of with_record
line_says s line after (says_nothing q) = (refl, refl)
line_says s line after (says_bytes q x a bs going r few) = line_fine q _ x data_type a bs going r (omega arith) refl (λ check. (more_fine q (length bs) few, bytes_effect q a check bs))
line_says s line after (says_end q x a going r) = line_fine q _ x end_type a [] going r (omega arith) refl (λ check. (refl, refl))
line_says s line after (says_base q x a high low going r) = line_fine q _ x base_type a (high ∷ low ∷ []) going r (omega arith) refl (λ check. (refl, refl))
line_says s line after (says_start_segment q x a c going four r) = line_fine q _ x start_segment_type a c going r (omega arith) (eq-eqb _ _ four) (λ check. (refl, refl))
line_says s line after (says_upper q x a high low going r) = line_fine q _ x upper_type a (high ∷ low ∷ []) going r (omega arith) refl (λ check. (refl, refl))
line_says s line after (says_start_address q x a c going four r) = line_fine q _ x start_address_type a c going r (omega arith) (eq-eqb _ _ four) (λ check. (refl, refl))
