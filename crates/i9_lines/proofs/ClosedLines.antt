-- The printed lines, whose last byte is their line feed.
use Rattle.std.proofs.Common.{◌≡◌, ℕ, List, [], ◌∷◌, ◌++◌, map, flat_map, refl, ap, ◌∙◌, arith}
use Rattle.std.specs.List.{AllByRecursion}
use Rattle.i9_text.proofs.WrittenLines.{plain-decimal}
use Rattle.i9_model.specs.declared.view.View.{View}
use Rattle.i9_model.specs.PrintedText.{Shown, Out, Drained, Journal, Bytes, Last, point_text, shown_text, text_of}
use Rattle.i9_machine.specs.declared.line.Line.{Line}
use Rattle.i9_machine.specs.declared.line.Raw.{Raw}
use Rattle.i9_machine.specs.Line.{AddsLines, shown_of}
use Rattle.i9_lines.specs.Print.{IsLine, line_text}
use Rattle.i9_lines.specs.PlaceText.{view_text, raw_text}
use Rattle.i9_lines.proofs.TextLines.{IsClosed, closed_none, closed_line, closed_join}
use Rattle.i9_lines.proofs.LineCounts.{line-out, line-point, line-event, line-bytes, line-end, line-words, line-globals, line-locals}

-- ---- what is shown of a run

-- a line and two more
closed_three : (x y z : List ℕ) → IsLine x → IsLine y → IsLine z → IsClosed (x ++ (y ++ z))
closed_three x y z h k l = closed_join x (y ++ z) (closed_line x h) (closed_join y z (closed_line y k) (closed_line z l))

closed_shown : (s : Shown) → IsClosed (shown_text s)
closed_shown (Out b) = closed_line _ (line-out b)
closed_shown (Drained k v) = closed_three (point_text k v) _ _ (line-point k v) (line-globals v) (line-locals v)
closed_shown (Journal k e) = closed_line _ (line-event k e)
closed_shown (Bytes a bs) = closed_line _ (line-bytes a bs)
closed_shown (Last f) = closed_line _ (line-end f)

pub closed_text : (ls : List Shown) → IsClosed (text_of ls)
closed_text [] = closed_none
closed_text (l ∷ ls) = closed_join (shown_text l) (text_of ls) (closed_shown l) (closed_text ls)

pub closed_each : (ls : List Line) → AllByRecursion (λ l. IsClosed (line_text l)) ls
closed_each [] = tt
closed_each (l ∷ ls) = (closed_shown (shown_of l), closed_each ls)

-- ---- the lines of a step

pub lines-text : (ls : List Line) → flat_map line_text ls ≡ text_of (map shown_of ls)
lines-text [] = refl
lines-text (l ∷ ls) = ap (λ (t : List ℕ). line_text l ++ t) (lines-text ls)

-- the text of the lines of a step is that of what they show
pub added-text : (ls : List Line) (xs : List Shown) → AddsLines [] ls xs → flat_map line_text ls ≡ text_of xs
added-text ls xs e = lines-text ls ∙ ap text_of e

-- ---- what is told of a place

pub closed_view : (v : View) → IsClosed (view_text v)
unfolding view_text
closed_view v = grind (arith, closed_join, closed_line, line-words, plain-decimal, line-globals, line-locals)

pub closed_raw : (raw : Raw) → IsClosed (raw_text raw)
unfolding raw_text
closed_raw raw = grind (arith, closed_join, closed_line, line-words, plain-decimal)
