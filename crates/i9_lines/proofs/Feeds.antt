-- The first line feed of a text, as it is searched.
use Rattle.std.proofs.Common.{◌≡◌, ℕ, ◌<◌, List, length, Option, Some, None, arith}
use Rattle.std.proofs.lemmas.Bool.{false_from_ne_true}
use Rattle.std.specs.List.{position, position_or_len}
use Rattle.std.proofs.lemmas.List.Sums.{position_or_len_is}
use Rattle.memchr.specs.Find.{IsFirstByte, is_byte}
use Rattle.i9_text.specs.Text.{is_line_feed}

pub feed_position : (text : List ℕ) (found : Option ℕ) → IsFirstByte (is_byte 10) text found → found ≡ position is_line_feed text
feed_position text None h =
    let past : position_or_len is_line_feed text ≡ length text =
    position_or_len_is is_line_feed text (length text) 0 (omega arith) (λ k below. false_from_ne_true _ (h k (omega arith) below)) (λ inside. absurd (omega (arith, inside))) in
    rw past (grind arith)
feed_position text (Some k) h =
    let here : position_or_len is_line_feed text ≡ k =
    position_or_len_is is_line_feed text k 0 (omega (arith, h.0.high)) (λ i below. false_from_ne_true _ (h.0.before i (omega arith) below)) (λ inside. h.1) in
    let inside : k < length text = h.0.high in
    rw here (grind (arith, inside))
