-- Writing a piece by as many writes as it takes.
use Rattle.std.proofs.Common.{◌≡◌, ℕ, List, [], ◌∷◌, ◌++◌, length, take, drop, slice_range, Option, Some, None, refl, sym, ◌∙◌, ap, append_assoc, subst, arith}
use Rattle.std.proofs.lemmas.List.{append-nil, flat_map_more, take-append-drop}
use Rattle.std.proofs.lemmas.Grind.{common_steps}
use Rattle.std.specs.Io.KnownBytes.{Appends, Keeps}
use Rattle.i9_outside.specs.declared.traits.Wrote.{Wrote}
use Rattle.i9_outside.specs.declared.traits.Wrote.TheVariants as wrotes
use Rattle.i9_outside.specs.Traits.{AppendsFront, Writes, EndsWithPieces, TakesPiece}
use Rattle.i9_outside.proofs.Appending.{Appends-nothing, Appends-then}

-- a front of the piece was written, and this is its rest
pub record HasWritten (old new : Option (List ℕ)) (piece rest : List ℕ) : Type 0 where
  pub front : List ℕ
  pub parts : front ++ rest ≡ piece
  pub grows : Appends old new front

Appends-kept : (a b c : Option (List ℕ)) (x : List ℕ) → Appends a b x → Keeps b c → Appends a c x
Appends-kept None b c x p k = tt
Appends-kept (Some a) None c x p k = absurd p
Appends-kept (Some a) (Some b) None x p k = absurd k
Appends-kept (Some a) (Some b) (Some c) x p k = k ∙ p

take_rest : (n : ℕ) (rest : List ℕ) → slice_range rest n (length rest) ≡ drop n rest
take_rest n rest = grind (arith, common_steps)

pub written_nothing : (known : Option (List ℕ)) (piece : List ℕ) → HasWritten known known piece piece
written_nothing known piece = record { front = []; parts = refl; grows = Appends-nothing known }

-- the rest as the code takes it, `&rest[n..]`
pub written_more : (a b c : Option (List ℕ)) (piece rest : List ℕ) (n : ℕ) → HasWritten a b piece rest → Appends b c (take n rest) → HasWritten a c piece (slice_range rest n (length rest))
written_more a b c piece rest n w p = record {
  front = w.front ++ take n rest;
  parts = append_assoc w.front (take n rest) _ ∙ ap (λ bs. w.front ++ bs) (ap (λ bs. take n rest ++ bs) (take_rest n rest) ∙ take-append-drop n rest) ∙ w.parts;
  grows = Appends-then a b c w.front (take n rest) w.grows p;
}

pub written_all : (a b : Option (List ℕ)) (piece : List ℕ) → HasWritten a b piece [] → Appends a b piece
written_all a b piece w = subst (λ bs. Appends a b bs) (sym (append-nil w.front) ∙ w.parts) w.grows

pub written_front : (a b c : Option (List ℕ)) (piece rest : List ℕ) → HasWritten a b piece rest → Keeps b c → AppendsFront a c piece
written_front a b c piece rest w k = record { front = w.front; rest = rest; parts = w.parts; grows = Appends-kept a b c w.front w.grows k }

pub written_short : (a b c : Option (List ℕ)) (piece rest : List ℕ) (n : ℕ) → HasWritten a b piece rest → Appends b c (take n rest) → AppendsFront a c piece
written_short a b c piece rest n w p =
    let more = written_more a b c piece rest n w p in
    record { front = more.front; rest = slice_range rest n (length rest); parts = more.parts; grows = more.grows }

pub ruleset writing_rules = (written_nothing, written_all, written_front, written_short)

-- bytes that end with those of some pieces end with those of one piece more where they grow by it
pub ends_more : (a b : Option (List ℕ)) (x : List ℕ) (pieces : List (List ℕ)) → Appends a b x → EndsWithPieces a pieces → EndsWithPieces b (pieces ++ x ∷ [])
ends_more None b x pieces p ends = absurd ends
ends_more (Some a) None x pieces p ends = absurd p
ends_more (Some a) (Some b) x pieces p ends = (ends.0, p ∙ ap (λ bs. bs ++ x) ends.1 ∙ flat_map_more (λ piece. piece) ends.0 pieces x)

-- what a write does to the bytes that are told says which piece was taken
pub takes_piece : {K : Type 0} (told : K → Option (List ℕ)) (answer : Wrote) (piece : List ℕ) (old new : K)
    → Writes answer piece (told old) (told new) → TakesPiece (λ s pieces. EndsWithPieces (told s) pieces) answer piece old new
takes_piece told wrotes.Ok piece old new w = λ pieces ends. ends_more (told old) (told new) piece pieces w ends
takes_piece told wrotes.Failed piece old new w = (w.front, w.rest, w.parts, λ pieces ends. ends_more (told old) (told new) w.front pieces w.grows ends)
