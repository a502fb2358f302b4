-- The last of a list of frames.
use Rattle.std.proofs.Common.{◌≡◌, ◌+◌, ◌-◌, ◌≤◌, List, [], ◌∷◌, ◌++◌, length, take, Some, sym, ap, ◌∙◌, arith}
use Rattle.std.specs.Prelude.{slice_get}
use Rattle.std.proofs.lemmas.Option.{slice_get_within, get_or_from_slice_get}
use Rattle.std.proofs.lemmas.List.{take_more, take_all}
use Rattle.i9_model.specs.declared.frame.Frame.{Frame}

-- a list is all but its last one, and that one
pub last_apart : (xs : List Frame) (f : Frame) → slice_get xs (length xs - 1) ≡ Some f → xs ≡ take (length xs - 1) xs ++ f ∷ []
last_apart xs f e =
    let k = length xs - 1 in
    let below = slice_get_within xs k f e in
    let all : length xs ≤ k + 1 = omega arith in
    sym (take_all (k + 1) xs all) ∙ take_more xs k f below ∙ ap (λ (g : Frame). take k xs ++ g ∷ []) (get_or_from_slice_get xs k f f e)
