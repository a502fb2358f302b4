-- Lines that are written with a line feed behind each are read again.
use Rattle.std.proofs.Common.{◌≡◌, ℕ, zero, suc, ◌-◌, ◌/◌, ◌%◌, ◌<◌, Bool, true, false, not, ◌&&◌, ltb, eqb, List, [], ◌∷◌, ◌++◌, length, map, get_or, refl, ap, ◌∙◌, append_assoc, arith}
use Rattle.std.specs.List.{list_all, flat_map, AllByRecursion}
use Rattle.std.specs.Fmt.{decimal, digits, digits_onto, digit_glyph}
use Rattle.std.specs.Int.{w32, to_be_bytes}
use Rattle.std.specs.Str.Lines.{strip_carriage_return}
use Rattle.std.proofs.lemmas.List.Folds.{list_all-append}
use Rattle.std.proofs.lemmas.List.Elements.{All-from_recursion}
use Rattle.std.proofs.lemmas.List.Splits.{slice_split_at}
use Rattle.hex.specs.Hex.{encode_with, encode_upper, upper_digits}
use Rattle.i9_text.specs.Text.{line_feed, is_line_feed, lines_of}
use Rattle.i9_text.specs.Written.{word_text, byte_text}

-- an ASCII byte that ends no line and is not dropped at its end
abbrev pub is_plain_byte : ℕ → Bool
is_plain_byte b = ltb b 128 && (not (eqb b 10) && not (eqb b 13))

abbrev pub is_plain : List ℕ → Bool
is_plain line = list_all is_plain_byte line

no_feeds : (l : List ℕ) → is_plain l ≡ true → AllByRecursion (λ b. is_line_feed b ≡ false) l
no_feeds [] h = tt
no_feeds (b ∷ l) h = (grind arith, no_feeds l (grind arith))

no_return : (l : List ℕ) (i : ℕ) → is_plain l ≡ true → eqb (get_or l i 0) 13 ≡ false
no_return [] i h = refl
no_return (b ∷ l) zero h = grind arith
no_return (b ∷ l) (suc i) h = grind (arith, no_return l i)

kept : (l : List ℕ) → is_plain l ≡ true → strip_carriage_return l ≡ l
kept l h = rw (no_return l (length l - 1) h) refl

-- a line that is written in front of a text
pub lines_of-then : (l rest : List ℕ) → is_plain l ≡ true → lines_of (l ++ 10 ∷ rest) ≡ l ∷ lines_of rest
lines_of-then l rest h =
    ap (λ (parts : List (List ℕ)). map strip_carriage_return parts) (slice_split_at is_line_feed l 10 rest (All-from_recursion (λ b. is_line_feed b ≡ false) l (no_feeds l h)) refl)
    ∙ ap (λ (x : List ℕ). x ∷ lines_of rest) (kept l h)

-- a line that is plain, by a test that computes on a literal
pub record IsPlain (l : List ℕ) : Type 0 where
  pub test : is_plain l ≡ true

-- after the last line feed stands one line more, which is empty
pub lines_of-written : (ls : List (List ℕ)) → AllByRecursion IsPlain ls → lines_of (flat_map (λ l. l ++ line_feed ∷ []) ls) ≡ ls ++ [] ∷ []
lines_of-written [] h = refl
lines_of-written (l ∷ ls) h = grind (arith, append_assoc, lines_of-then, lines_of-written ls h.1)

-- a plain line is ASCII
pub ascii-plain : (l : List ℕ) → is_plain l ≡ true → list_all (λ b. ltb b 128) l ≡ true
ascii-plain [] h = refl
ascii-plain (b ∷ l) h = grind (arith, ascii-plain l)

pub plain-append : (xs ys : List ℕ) → is_plain xs ≡ true → is_plain ys ≡ true → is_plain (xs ++ ys) ≡ true
plain-append xs ys h g = list_all-append is_plain_byte xs ys ∙ rw (h, g) refl

-- ---- numbers are plain, however large

plain_glyph : (d : ℕ) → d < 10 → is_plain_byte (digit_glyph false d) ≡ true
plain_glyph d small = grind (arith)

plain_digits : (k n : ℕ) (acc : List ℕ) → is_plain acc ≡ true → is_plain (digits_onto k 10 false n acc) ≡ true
plain_digits zero n acc h = h
plain_digits (suc k) n acc h =
    let more : is_plain (digit_glyph false (n % 10) ∷ acc) ≡ true = rw (plain_glyph (n % 10) (omega arith)) h in
    grind (arith, more, plain_digits k (n / 10) (digit_glyph false (n % 10) ∷ acc) more)

pub plain-decimal : (n : ℕ) → is_plain (decimal n) ≡ true
unfolding digits
plain-decimal n = plain_digits 64 n [] refl

plain_digit : (d : ℕ) → is_plain_byte (get_or upper_digits d 0) ≡ true
plain_digit d = grind arith

pub plain-encode_upper : (bs : List ℕ) → is_plain (encode_upper bs) ≡ true
unfolding encode_with
plain-encode_upper [] = refl
plain-encode_upper (b ∷ bs) = rw (plain_digit (b / 16), plain_digit (b % 16)) (plain-encode_upper bs)

pub plain-word_text : (w : ℕ) → is_plain (word_text w) ≡ true
unfolding word_text
plain-word_text w = plain-encode_upper (to_be_bytes w32 w)

pub plain-byte_text : (b : ℕ) → is_plain (byte_text b) ≡ true
unfolding byte_text
plain-byte_text b = plain-encode_upper (b ∷ [])
