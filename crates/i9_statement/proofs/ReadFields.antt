-- Operands that are printed between commas are cut again.
use Rattle.std.proofs.Common.{◌≡◌, ℕ, Bool, true, false, not, List, [], ◌∷◌, ◌++◌, map, refl, sym, ap, ◌∙◌, arith, append_assoc}
use Rattle.std.specs.List.{slice_split, AllByRecursion}
use Rattle.std.proofs.lemmas.Bool.{and_parts, not-true}
use Rattle.std.proofs.lemmas.List.{append-nil}
use Rattle.std.proofs.lemmas.List.Elements.{All-from_recursion}
use Rattle.std.proofs.lemmas.List.Splits.{slice_split_at, slice_split_none}
use Rattle.i9_text.specs.Text.{space, is_blank, words_of}
use Rattle.i9_text.proofs.WordCuts.{words_of-blank, words_of-first}
use Rattle.i9_statement.specs.Fields.{comma, is_comma, one_word, field_of, fields_by, fields_of, join_fields}
use Rattle.i9_statement.specs.Statements.{fields_text}
use Rattle.i9_statement.proofs.Cutting.{is_free, stops, before-cut, from-cut, all_append}
use Rattle.i9_statement.proofs.ReadValues.{has_byte}
use Rattle.i9_statement.proofs.Classes.{is_operand_byte, free_in, free_of_blanks, IsField}

-- nothing, or a space
abbrev pub pad : Bool → List ℕ
pad true = space ∷ []
pad false = []

pad_free : (q : Bool) → is_free is_comma (pad q) ≡ true
pad_free q = grind arith

-- ---- words

-- a word and what stands behind it
pub words_of-cut : (c : ℕ) (w t : List ℕ) → is_free is_blank (c ∷ w) ≡ true → stops is_blank t ≡ true → words_of ((c ∷ w) ++ t) ≡ (c ∷ w) ∷ words_of t
words_of-cut c w t free stop =
    let first = not-true (is_blank c) (and_parts (not (is_blank c)) _ free).0 in
    cc (
      words_of-first ((c ∷ w) ++ t) 0 (omega arith) first,
      before-cut is_blank (c ∷ w) t free stop,
      from-cut is_blank (c ∷ w) t free stop,
    )

pub words_of-pad : (w : List ℕ) (q : Bool) → has_byte w ≡ true → is_free is_blank w ≡ true → words_of (w ++ pad q) ≡ w ∷ []
words_of-pad w q some free = grind (arith, words_of-cut)

field_blanks : (f : List ℕ) → IsField f → is_free is_blank f ≡ true
field_blanks f h = free_of_blanks is_operand_byte f refl refl h.bytes

field_commas : (f : List ℕ) → IsField f → is_free is_comma f ≡ true
field_commas f h = free_in is_operand_byte comma f refl h.bytes

-- an operand behind a space, and perhaps before one
field_of-pad : (f : List ℕ) (q : Bool) → IsField f → field_of (space ∷ f ++ pad q) ≡ f
field_of-pad f q h = ap one_word (words_of-blank space (f ++ pad q) refl ∙ words_of-pad f q h.some (field_blanks f h))

-- ---- commas

free_by_recursion : (p : ℕ → Bool) (w : List ℕ) → is_free p w ≡ true → AllByRecursion (λ b. p b ≡ false) w
free_by_recursion p [] h = tt
free_by_recursion p (b ∷ w) h = let parts = and_parts (not (p b)) (is_free p w) h in (not-true (p b) parts.0, free_by_recursion p w parts.1)

split_at_comma : (w t : List ℕ) → is_free is_comma w ≡ true → slice_split is_comma (w ++ comma ∷ t) ≡ w ∷ slice_split is_comma t
split_at_comma w t free = slice_split_at is_comma w comma t (All-from_recursion (λ b. is_comma b ≡ false) w (free_by_recursion is_comma w free)) refl

split_nowhere : (w : List ℕ) → is_free is_comma w ≡ true → slice_split is_comma w ≡ w ∷ []
split_nowhere w free = slice_split_none is_comma w (All-from_recursion (λ b. is_comma b ≡ false) w (free_by_recursion is_comma w free))

fields_cut : (f : List ℕ) (fs : List (List ℕ)) (q : Bool) → AllByRecursion IsField (f ∷ fs) → map field_of (slice_split is_comma (space ∷ join_fields (f ∷ fs) ++ pad q)) ≡ f ∷ fs
unfolding join_fields
fields_cut f [] q h = grind (arith, all_append, field_commas, pad_free, split_nowhere, field_of-pad)
fields_cut f (g ∷ fs) q h =
    let rest = join_fields (g ∷ fs) in
    ap (λ v. map field_of (slice_split is_comma (space ∷ v))) (append_assoc f (comma ∷ space ∷ rest) (pad q))
    ∙ ap (map field_of) (split_at_comma (space ∷ f) (space ∷ rest ++ pad q) (field_commas f h.0))
    ∙ ap (λ v. field_of (space ∷ v) ∷ map field_of (slice_split is_comma (space ∷ rest ++ pad q))) (sym (append-nil f))
    ∙ ap (λ v. v ∷ map field_of (slice_split is_comma (space ∷ rest ++ pad q))) (field_of-pad f false h.0)
    ∙ ap (λ v. f ∷ v) (fields_cut g fs q h.1)

-- a text with a word is not blank
fields_by-some : (text : List ℕ) (c : ℕ) (w : List ℕ) → words_of text ≡ words_of (c ∷ w) → is_blank c ≡ false → fields_by (words_of text) text ≡ map field_of (slice_split is_comma text)
fields_by-some text c w e first = grind arith

join_first : (c : ℕ) (f : List ℕ) (fs : List (List ℕ)) → (w : List ℕ) × (join_fields ((c ∷ f) ∷ fs) ≡ c ∷ w)
unfolding join_fields
join_first c f [] = (f, refl)
join_first c f (g ∷ fs) = (f ++ comma ∷ space ∷ join_fields (g ∷ fs), refl)

pub fields_of-text : (fs : List (List ℕ)) (q : Bool) → AllByRecursion IsField fs → fields_of (fields_text fs ++ pad q) ≡ fs
unfolding fields_of
fields_of-text [] true h = refl
fields_of-text [] false h = refl
fields_of-text ([] ∷ fs) q h = absurd (cc (h.0.some))
fields_of-text ((c ∷ f) ∷ fs) q h =
    let j = join_first c f fs in
    let text = space ∷ join_fields ((c ∷ f) ∷ fs) ++ pad q in
    let first = not-true (is_blank c) (and_parts (not (is_blank c)) _ (field_blanks (c ∷ f) h.0)).0 in
    let e : words_of text ≡ words_of (c ∷ (j.0 ++ pad q)) = words_of-blank space (join_fields ((c ∷ f) ∷ fs) ++ pad q) refl ∙ ap (λ v. words_of (v ++ pad q)) j.1 in
    fields_by-some text c (j.0 ++ pad q) e first ∙ fields_cut (c ∷ f) fs q h
