-- Words that are written with single spaces between them are read again.
use Rattle.std.proofs.Common.{◌≡◌, ℕ, ◌^◌, ◌<◌, ◌≤◌, Bool, true, false, ◌&&◌, ltb, List, [], ◌∷◌, ◌++◌, length, filter, Some, refl, ap, ◌∙◌, arith, lit≤}
use Rattle.std.specs.List.{slice_split, join_with_byte, list_all, AllByRecursion}
use Rattle.std.specs.Char.{digit_value}
use Rattle.std.specs.Fmt.{decimal}
use Rattle.std.specs.Str.Parse.{AllDigits}
use Rattle.std.proofs.lemmas.Bool.{lt-ltb, and_parts}
use Rattle.std.proofs.lemmas.Fmt.{decimal_is_IsNumeral, length-decimal-le}
use Rattle.std.proofs.lemmas.List.Elements.{All-from_recursion}
use Rattle.std.proofs.lemmas.List.Splits.{slice_split_at, slice_split_none}
use Rattle.i9_text.specs.Text.{is_blank, is_in_word, is_some_word, words_of, number_of}
use Rattle.i9_text.proofs.Digits.{number_of-digits}

abbrev pub is_word : List ℕ → Bool
is_word w = ltb 0 (length w) && list_all is_in_word w

-- a word, by a test that computes on a literal
pub record IsWord (w : List ℕ) : Type 0 where
  pub test : is_word w ≡ true

no_blanks : (w : List ℕ) → list_all is_in_word w ≡ true → AllByRecursion (λ b. is_blank b ≡ false) w
no_blanks [] h = tt
no_blanks (b ∷ w) h = (grind arith, no_blanks w (grind arith))

filter-word : (w : List ℕ) (parts : List (List ℕ)) → ltb 0 (length w) ≡ true → filter is_some_word (w ∷ parts) ≡ w ∷ filter is_some_word parts
filter-word w parts e = rw e refl

words_of-then : (w rest : List ℕ) → IsWord w → words_of (w ++ 32 ∷ rest) ≡ w ∷ words_of rest
words_of-then w rest h =
    let p = and_parts (ltb 0 (length w)) (list_all is_in_word w) h.test in
    let cut = slice_split_at is_blank w 32 rest (All-from_recursion (λ b. is_blank b ≡ false) w (no_blanks w p.1)) refl in
    ap (λ (parts : List (List ℕ)). filter is_some_word parts) cut ∙ filter-word w (slice_split is_blank rest) p.0

words_of-one : (w : List ℕ) → IsWord w → words_of w ≡ w ∷ []
words_of-one w h =
    let p = and_parts (ltb 0 (length w)) (list_all is_in_word w) h.test in
    let cut = slice_split_none is_blank w (All-from_recursion (λ b. is_blank b ≡ false) w (no_blanks w p.1)) in
    ap (λ (parts : List (List ℕ)). filter is_some_word parts) cut ∙ filter-word w [] p.0

pub words_of-join : (ws : List (List ℕ)) → AllByRecursion IsWord ws → words_of (join_with_byte 32 ws) ≡ ws
words_of-join [] h = refl
words_of-join (w ∷ []) h = words_of-one w h.0
words_of-join (w ∷ x ∷ ws) h = words_of-then w (join_with_byte 32 (x ∷ ws)) h.0 ∙ ap (λ (vs : List (List ℕ)). w ∷ vs) (words_of-join (x ∷ ws) h.1)

-- ---- numbers

word_digit : (c : ℕ) → digit_value c < 16 → is_in_word c ≡ true
word_digit c h = grind (arith)

word_digits : (w : List ℕ) (radix : ℕ) → radix ≤ 16 → AllDigits radix w → list_all is_in_word w ≡ true
word_digits [] radix small h = refl
word_digits (c ∷ w) radix small h = rw (word_digit c (omega (arith, h.0))) (word_digits w radix small h.1)

pub IsWord-digits : (w : List ℕ) (radix : ℕ) → radix ≤ 16 → 0 < length w → AllDigits radix w → IsWord w
IsWord-digits w radix small some h = record { test = rw (lt-ltb 0 (length w) some, word_digits w radix small h) refl }

pub IsWord-decimal : (n : ℕ) → n < 2 ^ 64 → IsWord (decimal n)
IsWord-decimal n small = let h = decimal_is_IsNumeral n small in IsWord-digits (decimal n) 10 (lit≤ tt) h.0.0 h.0.1

pub number_of-decimal : (most n : ℕ) → 0 < most → n < 10 ^ most → n < 2 ^ 64 → number_of 10 most (decimal n) ≡ Some n
number_of-decimal most n some few small = grind (arith, decimal_is_IsNumeral, number_of-digits, length-decimal-le)
