-- Best: which line and which request of software come first, said by what they are greater than.
use Rattle.std.specs.Prelude.{◌≡◌, ℕ, ◌<◌, ◌≤◌, Bool, true, false, nat_le, nat_lt, ◌&&◌, if◌then◌else◌, List, Option}
use Rattle.std.specs.Prelude.{Some, None}
use Rattle.i9_model.specs.declared.interrupts.Cause.TheVariants.{Line, Soft}
use Rattle.i9_model.specs.declared.interrupts.Chosen.{Chosen}
use Rattle.i9_model.specs.State.{Interrupts}
use Rattle.i9_model.specs.Interrupts.{vector_priority, line_vector, passes, is_open, choice}

-- a vector may be entered
abbrev pub is_let_in : ℕ → ℕ → Bool
is_let_in pc v = nat_le 8 v && passes pc (vector_priority v)

-- a line is asked for, and its vector may be entered
abbrev pub is_ready : Interrupts → ℕ → ℕ → Bool
is_ready s pc k = is_open s k && is_let_in pc (line_vector s.maps k)

-- Of the lines below n that are ready: none has a greater vector, and no lower one has the same.
pub record IsBest (s : Interrupts) (pc n k : ℕ) : Type 0 where
  pub within : k < n
  pub ready : is_ready s pc k ≡ true
  pub none_greater : (j : ℕ) → j < n → is_ready s pc j ≡ true → line_vector s.maps j ≤ line_vector s.maps k
  pub none_lower : (j : ℕ) → j < k → is_ready s pc j ≡ true → line_vector s.maps j < line_vector s.maps k

abbrev pub IsBestLine : Interrupts → ℕ → ℕ → Option ℕ → Type 0
IsBestLine s pc n None = (k : ℕ) → k < n → is_ready s pc k ≡ false
IsBestLine s pc n (Some k) = IsBest s pc n k

-- the greatest number from one up to another that passes
pub record IsTop (test : ℕ → Bool) (low high v : ℕ) : Type 0 where
  pub from : low ≤ v
  pub below : v < high
  pub passes : test v ≡ true
  pub none_greater : (u : ℕ) → v < u → u < high → test u ≡ false

abbrev pub IsGreatest : (ℕ → Bool) → ℕ → ℕ → Option ℕ → Type 0
IsGreatest test low high None = (u : ℕ) → low ≤ u → u < high → test u ≡ false
IsGreatest test low high (Some v) = IsTop test low high v

-- a vector that software asks for, and that may be entered
abbrev pub is_wanted : (ℕ → Bool) → ℕ → ℕ → Bool
is_wanted soft pc v = soft v && is_let_in pc v

-- the line, or the vector that software asks for where that one has the greater priority
abbrev pub line_or_soft : List ℕ → ℕ → ℕ → Chosen
line_or_soft maps k v =
    if nat_lt (vector_priority (line_vector maps k)) (vector_priority v) then choice Soft v else choice (Line k)
    (line_vector maps k)

-- of the best line and the greatest vector that software asks for, the one of the greater priority; at one priority
-- the line
abbrev pub preferred : List ℕ → Option ℕ → Option ℕ → Option Chosen
preferred maps None None = None
preferred maps None (Some v) = Some (choice Soft v)
preferred maps (Some k) None = Some (choice (Line k) (line_vector maps k))
preferred maps (Some k) (Some v) = Some (line_or_soft maps k v)
