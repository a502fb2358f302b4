-- The first line at fault of a text, for any reader that goes line by line. A reader has states, which its lines change
-- one after the other. `Says s line t` says that the line has no fault after the state s and leads to t.
use Rattle.std.specs.Prelude.{◌≡◌, ℕ, ◌+◌, List, [], ◌∷◌, ◌++◌, length, Option, Some, None, Result, Err}

module _ {S : Type 0} (Says : S → List ℕ → S → Type 0) where
  -- lines without fault lead from one state to another
  abbrev pub SaysAll : S → List (List ℕ) → S → Type 0
  SaysAll s [] t = s ≡ t
  SaysAll s (line ∷ lines) t = (next : S) × Says s line next × SaysAll next lines t

-- `fault` gives the kind of fault that a line has after a state, `missing` the kind of a text that ends at a state.
module _ {S : Type 0} (Says : S → List ℕ → S → Type 0) (fault : S → List ℕ → Option ℕ) (missing : S → Option ℕ)
    (start : S) where
  -- the first line at fault, counted from 1, with its kind; or the last line, of a text that lacks something at its end
  pub data IsRefused : List (List ℕ) → ℕ × ℕ → Type 0 where
    at_line : (front : List (List ℕ)) (line : List ℕ) (back : List (List ℕ)) (s : S) (kind : ℕ)
        → SaysAll Says start front s → fault s line ≡ Some kind
        → IsRefused (front ++ line ∷ back) (length front + 1, kind)
    at_end : (lines : List (List ℕ)) (s : S) (kind : ℕ) → SaysAll Says start lines s → missing s ≡ Some kind
        → IsRefused lines (length lines, kind)

-- what a reader answers at a line: its fault, where there is one, or what the rest gives
abbrev pub or_fault : {X : Type 0} → Option ℕ → ℕ → Result X (ℕ × ℕ) → Result X (ℕ × ℕ)
or_fault None number rest = rest
or_fault (Some kind) number rest = Err (number, kind)
