-- The first word of a line, by the places of its first blank and of its first byte that is none.
use Rattle.std.proofs.Common.{◌≡◌, ℕ, suc, ◌+◌, ◌<◌, true, false, List, [], ◌∷◌, length, take, drop, filter, Some, None, refl, sym, ap, ◌∙◌, arith, inl, inr, get_or, add-one, add-zero, drop-cons}
use Rattle.std.specs.List.{slice_split, position, position_or_len}
use Rattle.std.proofs.lemmas.Bool.{lt-ltb, cases_lt, cases_Bool, not-true}
use Rattle.std.proofs.lemmas.List.{length-take, take_all, drop_all, get_or-drop}
use Rattle.std.proofs.lemmas.List.Sums.{fails_before_first, passes_at_first}
use Rattle.std.proofs.lemmas.List.Splits.{slice_split_first, slice_split_none, slice_split-cons_yes}
use Rattle.i9_text.specs.Text.{is_blank, is_in_word, is_some_word, words_of}
use Rattle.i9_text.proofs.Cuts.{position_or_len-found, position_or_len-missing}

-- a blank in front says nothing
pub words_of-blank : (b : ℕ) (rest : List ℕ) → is_blank b ≡ true → words_of (b ∷ rest) ≡ words_of rest
words_of-blank b rest e = ap (λ (parts : List (List ℕ)). filter is_some_word parts) (slice_split-cons_yes is_blank b rest e)

-- a part that is not empty is a word
filter-some : (w : List ℕ) (parts : List (List ℕ)) → 0 < length w → filter is_some_word (w ∷ parts) ≡ w ∷ filter is_some_word parts
filter-some w parts h = rw (lt-ltb 0 (length w) h) refl

-- the bytes before the first blank, where there are some, are a word
words_of-word : (line : List ℕ) (n : ℕ) → position_or_len is_blank line ≡ n → 0 < n → 0 < length line → words_of line ≡ take n line ∷ words_of (drop n line)
words_of-word line n e some long =
    elim (cases_lt n (length line)) [
      | inl lt ↦
          let here : position_or_len is_blank line < length line = omega (arith, e) in
          let cut = slice_split_first is_blank line 0 here in
          let front : 0 < length (take (position_or_len is_blank line) line) = omega (arith, e, length-take (position_or_len is_blank line) line) in
          let one = ap (λ (parts : List (List ℕ)). filter is_some_word parts) cut ∙ filter-some (take (position_or_len is_blank line) line) (slice_split is_blank (drop (position_or_len is_blank line + 1) line)) front in
          let blank : is_blank (get_or line n 0) ≡ true = rw e at (passes_at_first is_blank line 0 here) in
          let rest : words_of (drop n line) ≡ words_of (drop (n + 1) line) = rw (drop-cons line n 0 lt, add-one) (words_of-blank (get_or line n 0) (drop (suc n) line) blank) in
          let two : words_of line ≡ take n line ∷ words_of (drop (n + 1) line) = rw e at one in
          two ∙ ap (λ (ws : List (List ℕ)). take n line ∷ ws) (sym rest)
      | inr le ↦
          let cut = slice_split_none is_blank line (λ k d lt. fails_before_first is_blank line k d (omega (arith, e))) in
          let one = ap (λ (parts : List (List ℕ)). filter is_some_word parts) cut ∙ filter-some line [] long in
          rw (take_all n line le, drop_all n line le) one
    ]

-- where the first byte is no blank, the bytes before the first blank are a word
pub words_of-first : (line : List ℕ) (d : ℕ) → 0 < length line → is_blank (get_or line 0 d) ≡ false → words_of line ≡ take (position_or_len is_blank line) line ∷ words_of (drop (position_or_len is_blank line) line)
words_of-first [] d some first = absurd (omega arith)
words_of-first (b ∷ rest) d some first = grind (arith, words_of-word)

-- nor do all the blanks in front
pub words_of-skip : (line : List ℕ) → words_of (drop (position_or_len is_in_word line) line) ≡ words_of line
words_of-skip [] = refl
words_of-skip (b ∷ rest) =
    elim (cases_Bool (is_blank b)) [
      | inl yes-blank ↦
          let more : position_or_len is_in_word (b ∷ rest) ≡ suc (position_or_len is_in_word rest) = rw yes-blank (omega arith) in
          rw more (words_of-skip rest ∙ sym (words_of-blank b rest yes-blank))
      | inr no-blank ↦
          let none : position_or_len is_in_word (b ∷ rest) ≡ 0 = rw no-blank refl in
          rw none refl
    ]

-- a line from its first word on
pub words_of-from : (line : List ℕ) (i d : ℕ) → Some i ≡ position is_in_word line → (words_of (drop i line) ≡ words_of line) × (is_blank (get_or (drop i line) 0 d) ≡ false) × (i < length line)
words_of-from line i d e =
    let f = position_or_len-found is_in_word line i e in
    let passes = passes_at_first is_in_word line d (omega (arith, f)) in
    (rw f.0 at (words_of-skip line), rw (get_or-drop, add-zero) (not-true _ (rw f.0 at passes)), f.1)

-- a line of blanks
pub words_of-none : (line : List ℕ) → None ≡ position is_in_word line → words_of line ≡ []
words_of-none line e = sym (words_of-skip line) ∙ rw (drop_all (position_or_len is_in_word line) line (position_or_len-missing is_in_word line e)) refl

-- a line that begins with a word and has a blank
pub words_of-cut : (line : List ℕ) (i d : ℕ) → Some i ≡ position is_blank line → is_blank (get_or line 0 d) ≡ false → (words_of line ≡ take i line ∷ words_of (drop i line)) × (i < length line)
words_of-cut line i d e first = grind (arith, position_or_len-found, words_of-first)

-- a line that is one word
pub words_of-whole : (line : List ℕ) (d : ℕ) → None ≡ position is_blank line → 0 < length line → is_blank (get_or line 0 d) ≡ false → words_of line ≡ line ∷ []
words_of-whole line d e some first = grind (arith, position_or_len-missing, take_all, drop_all, words_of-first)
