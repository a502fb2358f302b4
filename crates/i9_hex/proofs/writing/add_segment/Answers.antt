use Rattle.std.proofs.Common.{◌≡◌, ℕ, ◌+◌, ◌%◌, ◌<◌, length, ap, ◌∙◌, arith, take, drop, min}
use Rattle.std.proofs.lemmas.Grind.{common_steps}
use Rattle.i9_model.specs.Image.{address_count}
use Rattle.i9_hex.specs.Writing.{piece_len}
use Rattle.i9_hex.proofs.WrittenPieces.{take-min, drop-min, segment_turn, upper_turn, segment_end, upper_end}
use Rattle.i9_hex.proofs.writing.add_segment.Goals as goal

pub loop-rest-preserved : goal.loop-rest-preserved
loop-rest-preserved c =
    let rest = c.loop-rest.rest.now in
    let a = c.loop-rest.address in
    let some : 0 < length rest = grind (arith, common_steps) in
    let most : c.min-most.result ≡ piece_len a = c.min-most.ensures in
    let cut_at : c.min.result ≡ min (piece_len a) (length rest) = c.min.ensures ∙ ap (λ (k : ℕ). min k (length rest)) most in
    let is_piece : c.split_at.result.0.now ≡ take (piece_len a) rest = c.split_at.ensures.front ∙ ap (λ (k : ℕ). take k rest) cut_at ∙ take-min (piece_len a) rest in
    let is_after : c.split_at.result.1.now ≡ drop (piece_len a) rest = c.split_at.ensures.back ∙ ap (λ (k : ℕ). drop k rest) cut_at ∙ drop-min (piece_len a) rest in
    let is_next : (a + c.min-most.result) % address_count ≡ (a + piece_len a) % address_count = ap (λ (k : ℕ). (a + k) % address_count) most in
    record {
      text = segment_turn c.loop-rest.half a _ rest c.split_at.result.0.now c.split_at.result.1.now c.loop-rest.text.items c.add_piece.new.text.items _ some is_piece is_after is_next c.in_ok-add_piece.ensures c.loop-rest.invariant.text;
      upper = upper_turn c.loop-rest.half a _ rest c.split_at.result.1.now _ some is_after is_next c.loop-rest.invariant.upper;
    }

pub returns : goal.returns
returns c =
    let none : length c.loop-rest.rest.now ≡ 0 = grind (arith, common_steps) in
    record {
      text = segment_end c.loop-rest.half c.loop-rest.address c.loop-rest.rest.now c.loop-rest.text.items _ none c.loop-rest.invariant.text;
      upper = upper_end c.loop-rest.half c.loop-rest.address c.loop-rest.rest.now _ none c.loop-rest.invariant.upper;
    }
