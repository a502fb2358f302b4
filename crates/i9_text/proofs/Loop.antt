-- One turn of a loop that reads a text line by line with `split_line`. Its invariant is that reading the lines that are
-- left, after the n lines that were read, gives what reading the whole text gives.
use Rattle.std.proofs.Common.{◌≡◌, ℕ, ◌+◌, ◌<◌, List, [], ◌∷◌, length, Option, Some, None, Result, Ok, Err, MatchOption, Bor, sym, ap, ◌∙◌, arith}
use Rattle.std.specs.Prelude.{⊤}
use Rattle.i9_text.specs.Text.{lines_of, lines_left, left_len}
use Rattle.i9_text.specs.FirstFault.{or_fault}
use Rattle.i9_text.proofs.FirstFault.{read_from}

-- what `split_line` says of the lines that are left
pub lines_left-split : (text line : List ℕ) (after : Option (Bor (List ℕ))) → MatchOption after (lines_of text ≡ line ∷ []) (λ rest. lines_of text ≡ line ∷ lines_of rest.now) → lines_of text ≡ line ∷ lines_left after
lines_left-split text line after h = grind arith

-- the loop ends
pub left_len-split : (left : Option (Bor (List ℕ))) (text : Bor (List ℕ)) (after : Option (Bor (List ℕ))) → left ≡ Some text → MatchOption after ⊤ (λ rest. length rest.now < length text.now) → left_len after < left_len left
left_len-split left text after some h = grind arith

module _ {S : Type 0} (fault : S → List ℕ → Option ℕ) (step : S → List ℕ → S) (missing : S → Option ℕ) where
  -- the invariant, after the next line is cut off
  reads-on : (n : ℕ) (s : S) (left : Option (Bor (List ℕ))) (text : Bor (List ℕ)) (line : List ℕ) (after : Option (Bor (List ℕ))) (total : Result S (ℕ × ℕ)) → left ≡ Some text
      → MatchOption after (lines_of text.now ≡ line ∷ []) (λ rest. lines_of text.now ≡ line ∷ lines_of rest.now) → read_from fault step missing n s (lines_left left) ≡ total
      → read_from fault step missing n s (line ∷ lines_left after) ≡ total
  reads-on n s left text line after total some split so_far =
      sym (ap (λ (o : Option (Bor (List ℕ))). read_from fault step missing n s (lines_left o)) some ∙ ap (read_from fault step missing n s) (lines_left-split text.now line after split)) ∙ so_far

  -- a line without fault keeps the invariant
  pub turn-fine : (n : ℕ) (s t : S) (left : Option (Bor (List ℕ))) (text : Bor (List ℕ)) (line : List ℕ) (after : Option (Bor (List ℕ))) (total : Result S (ℕ × ℕ)) → left ≡ Some text
      → MatchOption after (lines_of text.now ≡ line ∷ []) (λ rest. lines_of text.now ≡ line ∷ lines_of rest.now) → read_from fault step missing n s (lines_left left) ≡ total
      → (fault s line ≡ None) × (t ≡ step s line) → read_from fault step missing (n + 1) t (lines_left after) ≡ total
  unfolding read_from
  turn-fine n s t left text line after total some split so_far taken = rw taken.1 (rw taken.0 at (reads-on n s left text line after total some split so_far))

  -- a line at fault is what reading the whole text gives
  pub turn-fault : (n k : ℕ) (s : S) (left : Option (Bor (List ℕ))) (text : Bor (List ℕ)) (line : List ℕ) (after : Option (Bor (List ℕ))) (total : Result S (ℕ × ℕ)) → left ≡ Some text
      → MatchOption after (lines_of text.now ≡ line ∷ []) (λ rest. lines_of text.now ≡ line ∷ lines_of rest.now) → read_from fault step missing n s (lines_left left) ≡ total
      → fault s line ≡ Some k → total ≡ Err (n + 1, k)
  unfolding read_from
  turn-fault n k s left text line after total some split so_far wrong = sym (rw wrong at (reads-on n s left text line after total some split so_far))

  -- where no line is left, the state or what is missing is what reading the whole text gives
  pub turn-end : (n : ℕ) (s : S) (left : Option (Bor (List ℕ))) (total : Result S (ℕ × ℕ)) → left ≡ None → read_from fault step missing n s (lines_left left) ≡ total → total ≡ or_fault (missing s) n (Ok s)
  unfolding read_from
  turn-end n s left total none so_far = sym so_far ∙ ap (λ (o : Option (Bor (List ℕ))). read_from fault step missing n s (lines_left o)) none
