-- The lines of a made source: those before the three that go by the number, these three, and those behind them.
use Rattle.std.proofs.Common.{◌≡◌, ℕ, true, List, [], ◌∷◌, ◌++◌, take, refl, append_assoc}
use Rattle.std.specs.Prelude.{codes}
use Rattle.std.specs.List.{list_all, flat_map}
use Rattle.std.specs.Fmt.{decimal}
use Rattle.std.proofs.lemmas.Bool.{and_parts}
use Rattle.i9_text.specs.Text.{space, lines_of}
use Rattle.i9_text.proofs.WrittenLines.{is_plain, lines_of-then, plain-append, plain-decimal}
use Rattle.i9_statement.specs.Fields.{join_fields, comma}
use Rattle.i9_generator.specs.Generator.{rounds_of, start_of, depth_of, tables_text, set_up_text, calls_text, generated_source}
use Rattle.i9_generator.proofs.LoadLines.{load_text}

-- all but the empty one behind the last line feed
unfoldable pub front_lines : List (List ℕ)
unfolding tables_text set_up_text
front_lines = take 30 (lines_of (tables_text ++ set_up_text))

unfoldable pub back_lines : List (List ℕ)
unfolding calls_text
back_lines = lines_of calls_text

-- the three lines, by their numbers
abbrev pub rounds_line : ℕ → List ℕ
rounds_line rounds = load_text (decimal rounds) (codes "g6")

abbrev pub start_line : ℕ → List ℕ
start_line start = load_text (decimal start) (codes "g7")

abbrev pub depth_line : ℕ → List ℕ
depth_line depth = codes "loop: " ++ load_text (decimal depth) (codes "g0")

-- and those behind them
abbrev pub later_lines : ℕ → ℕ → ℕ → List (List ℕ)
later_lines rounds start depth = rounds_line rounds ∷ start_line start ∷ depth_line depth ∷ back_lines

abbrev pub made_lines : ℕ → List (List ℕ)
made_lines number = front_lines ++ later_lines (rounds_of number) (start_of number) (depth_of number)

-- ---- the text is these lines

-- plain lines, with a line feed behind each, before a text
lines_before : (ls : List (List ℕ)) (rest : List ℕ) → list_all is_plain ls ≡ true
    → lines_of (flat_map (λ l. l ++ 10 ∷ []) ls ++ rest) ≡ ls ++ lines_of rest
lines_before [] rest h = refl
lines_before (l ∷ ls) rest h =
    let plain = and_parts (is_plain l) (list_all is_plain ls) h in
    let more = flat_map (λ x. x ++ 10 ∷ []) ls in
    cc (
      append_assoc (l ++ 10 ∷ []) more rest,
      append_assoc l (10 ∷ []) (more ++ rest),
      lines_of-then l (more ++ rest) plain.0,
      lines_before ls rest plain.1,
    )

lines_front : (rest : List ℕ) → lines_of ((tables_text ++ set_up_text) ++ rest) ≡ front_lines ++ lines_of rest
unfolding front_lines tables_text set_up_text
lines_front rest = lines_before front_lines rest refl

load_is_plain : (n : ℕ) (g : List ℕ) → is_plain g ≡ true → is_plain (load_text (decimal n) g) ≡ true
unfolding join_fields
load_is_plain n g h = plain-append (decimal n) (comma ∷ space ∷ g) (plain-decimal n) h

-- the text, line by line
text_by : (front back : List ℕ) (rounds start depth : ℕ)
    → front ++ codes "lda " ++ decimal rounds ++ codes ", g6\n" ++ codes "lda " ++ decimal start ++ codes ", g7\n"
    ++ codes "loop: lda " ++ decimal depth ++ codes ", g0\n" ++ back
    ≡ front ++ (rounds_line rounds ++ 10 ∷ (start_line start ++ 10 ∷ (depth_line depth ++ 10 ∷ back)))
unfolding join_fields
text_by front back rounds start depth = simp append_assoc refl

pub made_text : (number : ℕ) → lines_of (generated_source number) ≡ made_lines number
unfolding generated_source back_lines
made_text number =
    let r = rounds_of number in
    let s = start_of number in
    let d = depth_of number in
    let depth_text = depth_line d ++ 10 ∷ calls_text in
    let start_text = start_line s ++ 10 ∷ depth_text in
    cc (
      text_by (tables_text ++ set_up_text) calls_text r s d,
      lines_front (rounds_line r ++ 10 ∷ start_text),
      lines_of-then (rounds_line r) start_text (load_is_plain r (codes "g6") refl),
      lines_of-then (start_line s) depth_text (load_is_plain s (codes "g7") refl),
      lines_of-then (depth_line d) calls_text (load_is_plain d (codes "g0") refl),
    )
