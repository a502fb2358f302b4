-- The first line of a text, by the place of its first line feed.
use Rattle.std.proofs.Common.{◌≡◌, ℕ, ◌+◌, List, [], ◌∷◌, take, drop, map, Some, None, ap}
use Rattle.std.specs.List.{position}
use Rattle.std.specs.Str.Lines.{strip_carriage_return}
use Rattle.i9_text.specs.Text.{is_line_feed, lines_of}
use Rattle.i9_text.proofs.Cuts.{slice_split-found, slice_split-missing}

pub lines_of-found : (text : List ℕ) (i : ℕ) → Some i ≡ position is_line_feed text → lines_of text ≡ strip_carriage_return (take i text) ∷ lines_of (drop (i + 1) text)
lines_of-found text i e = ap (λ (parts : List (List ℕ)). map strip_carriage_return parts) (slice_split-found is_line_feed text i 0 e)

pub lines_of-missing : (text : List ℕ) → None ≡ position is_line_feed text → lines_of text ≡ strip_carriage_return text ∷ []
lines_of-missing text e = ap (λ (parts : List (List ℕ)). map strip_carriage_return parts) (slice_split-missing is_line_feed text e)
