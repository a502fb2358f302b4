-- The lines of instructions as a listing has them.
use Rattle.std.proofs.Common.{◌≡◌, ℕ, ◌+◌, ◌*◌, ◌%◌, ◌^◌, ◌<◌, ◌≤◌, List, [], ◌∷◌, ◌++◌, length, drop, slice_index_or, Option, Some, None, IsSome, IsNone, IfSome, Ok, refl, sym, ap, ◌∙◌, subst, inl, inr}
use Rattle.std.specs.Prelude.{codes}
use Rattle.std.specs.List.{flat_map}
use Rattle.std.specs.Int.{w32, to_le_bytes}
use Rattle.std.proofs.lemmas.List.{append-nil, append_assoc, drop_more, drop_all}
use Rattle.std.proofs.lemmas.Grind.{flat_map-append}
use Rattle.std.proofs.lemmas.Nat.{from_le_bytes-to_le_bytes_4}
use Rattle.i9_isa.specs.declared.inst.Inst.{Inst}
use Rattle.i9_isa.specs.Words.{words_of, decoded}
use Rattle.i9_isa.proofs.Decoding.{encodes_decoded}
use Rattle.i9_text.specs.Text.{space}
use Rattle.i9_text.specs.Written.{word_text}
use Rattle.i9_model.specs.Writes.{wrapped}
use Rattle.i9_hex.specs.Writing.{with_line_feed}
use Rattle.i9_statement.specs.Statements.{statement_text}
use Rattle.i9_statement.specs.Codes.{IsCode}
use Rattle.i9_asm.specs.Lines.{hash}
use Rattle.i9_asm.specs.Listing.{word_at}
use Rattle.i9_statement.proofs.StatementWords.{one_or_two}
use Rattle.i9_decode.specs.declared.encoder.Code.{Code}
use Rattle.i9_tune.specs.Tuning.{IsCodeOf, one_word, two_words, AreCodes, no_codes, more_codes, code_line, code_lines, words_in, spaced, AddsLine, AddsLines}

-- ---- the line of an instruction by its words

one_line : (a : ℕ) (i : Inst) (w : ℕ) → a % 4 ≡ 0 → words_of i ≡ 1 → ((v : ℕ) → IsCode i 0 w v) → code_line a (w ∷ []) ≡ statement_text a i 0 ++ space ∷ hash ∷ space ∷ (word_text a ++ flat_map spaced (w ∷ []))
one_line a i w aligned one code =
    let bs = flat_map (to_le_bytes w32) (w ∷ []) in
    let word : word_at 0 bs ≡ w = from_le_bytes-to_le_bytes_4 w (code 0).small in
    let inst : decoded (word_at 0 bs) (word_at 4 bs) ≡ Ok i = ap (λ (x : ℕ). decoded x (word_at 4 bs)) word ∙ encodes_decoded w (word_at 4 bs) i (code (word_at 4 bs)).form in
    rw (aligned, inst, one, word, (code 0).spare, append-nil) refl

two_line : (a : ℕ) (i : Inst) (w v : ℕ) → a % 4 ≡ 0 → words_of i ≡ 2 → v < 2 ^ 32 → IsCode i 0 w v
    → code_line a (w ∷ v ∷ []) ≡ statement_text a i 0 ++ space ∷ hash ∷ space ∷ (word_text a ++ flat_map spaced (w ∷ v ∷ []))
two_line a i w v aligned two small code =
    let bs = flat_map (to_le_bytes w32) (w ∷ v ∷ []) in
    let word : word_at 0 bs ≡ w = from_le_bytes-to_le_bytes_4 w code.small in
    let second : word_at 4 bs ≡ v = from_le_bytes-to_le_bytes_4 v small in
    let inst : decoded (word_at 0 bs) (word_at 4 bs) ≡ Ok i = ap (λ (x : ℕ). decoded x (word_at 4 bs)) word ∙ ap (decoded w) second ∙ encodes_decoded w v i code.form in
    rw (aligned, inst, two, word, second, code.spare, append-nil) refl

-- the line of an instruction, whose code is this
pub record IsCoded (i : Inst) (code : Code) : Type 0 where
  pub one : IsNone code.second → (w1 : ℕ) → IsCode i 0 code.first w1
  pub two : IfSome code.second (λ w1. IsCode i 0 code.first w1)
  pub count : words_of i ≡ 2 → IsSome code.second
  pub counted : IsSome code.second → words_of i ≡ 2
  pub small : IfSome code.second (λ w1. w1 < 2 ^ 32)

pub coded_line : (a : ℕ) (i : Inst) (first : ℕ) (second : Option ℕ) → a % 4 ≡ 0 → IsCoded i (record { first = first; second = second })
    → (words : List ℕ) × IsCodeOf i words × (code_line a words ≡ statement_text a i 0 ++ space ∷ hash ∷ space ∷ (word_text a ++ flat_map spaced (words_in (record { first = first; second = second }))))
coded_line a i first None aligned coded = elim (one_or_two i.ea.mode) [
  | inl one ↦ (first ∷ [], one_word first one (coded.one refl), one_line a i first aligned one (coded.one refl))
  | inr two ↦ absurd (cc (coded.count two))
]
coded_line a i first (Some v) aligned coded =
    let two = coded.counted refl in
    (first ∷ v ∷ [], two_words first v two coded.two, two_line a i first v aligned two coded.small coded.two)

-- ---- the lines of a block, of which more and more are there

code_length : (i : Inst) (ws : List ℕ) → IsCodeOf i ws → length ws ≡ words_of i
code_length i ws (one_word w one code) = sym one
code_length i ws (two_words w v two code) = sym two

-- the lines of the others from this address on go behind the text
abbrev pub GoOn : ℕ → List Inst → List ℕ → ℕ → List Inst → List ℕ → Type 0
GoOn a block old at rest text = (codes : List (List ℕ)) → AreCodes rest codes → AddsLines a block old (text ++ flat_map with_line_feed (code_lines at codes))

pub go_turn : (a : ℕ) (block : List Inst) (old : List ℕ) (at k next : ℕ) (d : Inst) (text more : List ℕ) → k < length block → AddsLine at (slice_index_or block k d) text more
    → next ≡ wrapped (at + 4 * words_of (slice_index_or block k d)) → GoOn a block old at (drop k block) text → GoOn a block old next (drop (k + 1) block) more
go_turn a block old at k next d text more lt line on go codes are =
    let i = slice_index_or block k d in
    let ws = line.words in
    let there : drop k block ≡ i ∷ drop (k + 1) block = drop_more block k d lt in
    let place : wrapped (at + 4 * length ws) ≡ next = ap (λ (n : ℕ). wrapped (at + 4 * n)) (code_length i ws line.is) ∙ sym on in
    let joins : text ++ flat_map with_line_feed (code_lines at (ws ∷ codes)) ≡ more ++ flat_map with_line_feed (code_lines next codes) =
    rw (line.text, sym place) (sym (append_assoc text (with_line_feed (code_line at ws)) (flat_map with_line_feed (code_lines (wrapped (at + 4 * length ws)) codes)))) in
    subst (AddsLines a block old) joins (go (ws ∷ codes) (rw there (more_codes i (drop (k + 1) block) ws codes line.is are)))

pub go_end : (a : ℕ) (block : List Inst) (old : List ℕ) (at k : ℕ) (text : List ℕ) → length block ≤ k → GoOn a block old at (drop k block) text → AddsLines a block old text
go_end a block old at k text past go =
    subst (AddsLines a block old) (append-nil text) (go [] (subst (λ (is : List Inst). AreCodes is []) (sym (drop_all k block past)) no_codes))

-- ---- the whole text

pub text_whole : (org spans one two three : List ℕ) (lines : List (List ℕ)) → one ≡ with_line_feed org → two ≡ one ++ flat_map with_line_feed lines → three ≡ two ++ with_line_feed spans
    → three ≡ flat_map with_line_feed (org ∷ (lines ++ spans ∷ []))
text_whole org spans one two three lines e f g = rw (g, f, e) (simp (flat_map-append, append_assoc, append-nil))
