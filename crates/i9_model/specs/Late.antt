-- What records with their turns show at a turn at which some of them are open. A list of records has the newest first.
use Rattle.std.specs.Prelude.{◌≡◌, ℕ, ◌%◌, ◌<◌, ◌≤◌, ◌⊎◌, Bool, true, false, ◌==◌, ◌&&◌, ◌||◌, nat_lt, nat_le}
use Rattle.std.specs.Prelude.{if◌then◌else◌, Option, Some, None, List, [], ◌∷◌, ◌++◌, length, IsTrue}
use Rattle.std.specs.Int.{bit_at, IsBitSet}
use Rattle.std.specs.List.{AllByRecursion}
use Rattle.i9_isa.specs.declared.resources.TheConstants.{CONDITION_CODE}
use Rattle.i9_model.specs.declared.need.Need.{Need}
use Rattle.i9_model.specs.declared.need.TimedNeed.{TimedNeed}
use Rattle.i9_model.specs.declared.need.Cell.{Cell}
use Rattle.i9_model.specs.Memory.{stored}
use Rattle.i9_model.specs.State.{State}

-- ---- the 33 resources of a state

-- how many there are: the registers and the condition code
abbrev pub resources : ℕ
resources = 33

-- the condition code is the low three bits of AC
abbrev pub resource : State → ℕ → ℕ
resource s r = if r == CONDITION_CODE then s.ac % 8 else s.regs r

-- ---- records with their turns

-- its turns, the state after it, and the bytes that it writes in the memory behind the held frames
pub record Late : Type 0 where
  pub timed : TimedNeed
  pub after : State
  pub puts : List (ℕ × ℕ)

-- the needs with their turns
abbrev pub turns : List Late → List TimedNeed
turns [] = []
turns (x ∷ xs) = x.timed ∷ turns xs

-- the state after all records
abbrev pub last_state : State → List Late → State
last_state first [] = first
last_state first (x ∷ xs) = x.after

-- ---- registers

-- the record writes the resource
abbrev pub marks : Late → ℕ → Bool
marks x r = bit_at x.timed.need.writes r == 1

-- the value after the last record that writes the resource and is done, or the first value
abbrev pub raw_value : State → ℕ → List Late → ℕ → ℕ
raw_value first t [] r = resource first r
raw_value first t (x ∷ xs) r = if marks x r && nat_le x.timed.done t then resource x.after r else raw_value first t xs r

-- an open record writes the resource
abbrev pub is_busy : ℕ → List Late → ℕ → Bool
is_busy t [] r = false
is_busy t (x ∷ xs) r = marks x r && nat_lt t x.timed.done || is_busy t xs r

-- the value that an open record writes, with its turn
abbrev pub planned : ℕ → List Late → ℕ → Option (ℕ × ℕ)
planned t [] r = None
planned t (x ∷ xs) r =
    if marks x r && nat_lt t x.timed.done then Some (resource x.after r, x.timed.done) else planned t xs r

-- a value, and perhaps a planned one with its turn
abbrev pub cell : ℕ → Option (ℕ × ℕ) → Cell
cell v p = record { value = v; plan = p }

-- the content of a cell of the register file
abbrev pub cell_at : State → ℕ → List Late → ℕ → Cell
cell_at first t xs r = cell (raw_value first t xs r) (planned t xs r)

-- the value and the plan of a cell once the turn is u: a plan that is due takes its place
abbrev pub landed_value : ℕ → Option (ℕ × ℕ) → ℕ → ℕ
landed_value u None v = v
landed_value u (Some p) v = if nat_le p.1 u then p.0 else v

abbrev pub landed_plan : ℕ → Option (ℕ × ℕ) → Option (ℕ × ℕ)
landed_plan u None = None
landed_plan u (Some p) = if nat_le p.1 u then None else Some p

-- a cell once the turn is u
abbrev pub landed : ℕ → Cell → Cell
landed u c = cell (landed_value u c.plan c.value) (landed_plan u c.plan)

-- the planned value where there is one, else the value
abbrev pub latest_value : Option (ℕ × ℕ) → ℕ → ℕ
latest_value None v = v
latest_value (Some p) v = p.0

abbrev pub latest : Cell → ℕ
latest c = latest_value c.plan c.value

-- a planned turn is above t
abbrev pub is_plan_open : ℕ → Option (ℕ × ℕ) → Bool
is_plan_open t None = false
is_plan_open t (Some p) = nat_lt t p.1

-- a cell after a record of these writes was issued, which leaves this value and is done at a turn
abbrev pub issued_cell : ℕ → ℕ → ℕ → ℕ → Cell → Cell
issued_cell writes done r v c = if bit_at writes r == 1 then cell c.value (Some (v, done)) else c

-- ---- memory

-- a request that waits: its bytes, and its turn
pub record Wait : Type 0 where
  pub puts : List (ℕ × ℕ)
  pub due : ℕ

-- the record is a request, and open
abbrev pub is_waiting : ℕ → Late → Bool
is_waiting t x = x.timed.need.request && nat_lt t x.timed.done

-- what waits of a request
abbrev pub wait_of : Late → Wait
wait_of x = record { puts = x.puts; due = x.timed.done }

-- the content of the queue: the requests that are open, the oldest first
abbrev pub waiting : ℕ → List Late → List Wait
waiting t [] = []
waiting t (x ∷ xs) = if is_waiting t x then waiting t xs ++ wait_of x ∷ [] else waiting t xs

-- the content of memory: all that has issued has acted, but for the requests that wait
abbrev pub acted_memory : (ℕ → ℕ) → ℕ → List Late → ℕ → ℕ
acted_memory first t [] = first
acted_memory first t (x ∷ xs) =
    if is_waiting t x then acted_memory first t xs else stored (acted_memory first t xs) x.puts

-- memory with everything
abbrev pub settled_memory : (ℕ → ℕ) → List Late → ℕ → ℕ
settled_memory first [] = first
settled_memory first (x ∷ xs) = stored (settled_memory first xs) x.puts

-- the bytes of the requests that are due by u
abbrev pub due_puts : ℕ → List Wait → List (ℕ × ℕ)
due_puts u [] = []
due_puts u (w ∷ ws) = if nat_le w.due u then w.puts ++ due_puts u ws else due_puts u ws

-- the requests that are not
abbrev pub left_waiting : ℕ → List Wait → List Wait
left_waiting u [] = []
left_waiting u (w ∷ ws) = if nat_le w.due u then left_waiting u ws else w ∷ left_waiting u ws

-- the bytes of all requests, the oldest first
abbrev pub all_puts : List Wait → List (ℕ × ℕ)
all_puts [] = []
all_puts (w ∷ ws) = w.puts ++ all_puts ws

-- each request is due no later than those behind it
abbrev pub AreDueInOrder : List Wait → Type 0
AreDueInOrder [] = Unit {0}
AreDueInOrder (w ∷ ws) = AllByRecursion (λ v. w.due ≤ v.due) ws × AreDueInOrder ws

-- ---- what is known of the order of records

-- the records that write a resource are done
abbrev pub WritersDone : ℕ → ℕ → List Late → Type 0
WritersDone r t xs = AllByRecursion (λ y. marks y r ≡ true → y.timed.done ≤ t) xs

-- so are the requests, and all records
abbrev pub RequestsDone : ℕ → List Late → Type 0
RequestsDone t xs = AllByRecursion (λ y. y.timed.need.request ≡ true → y.timed.done ≤ t) xs

abbrev pub AllDone : ℕ → List Late → Type 0
AllDone t xs = AllByRecursion (λ y. y.timed.done ≤ t) xs

-- what a record may not pass is done when it issues
pub record Passes (x : Late) (xs : List Late) : Type 0 where
  pub takes_time : x.timed.issue < x.timed.done
  pub writers : (r : ℕ) → marks x r ≡ true → WritersDone r x.timed.issue xs
  pub requests : x.timed.need.request ≡ true → RequestsDone x.timed.done xs
  -- what is neither a request nor a barrier writes no memory, and a barrier passes nothing
  pub others : x.timed.need.request ≡ false → (x.puts ≡ []) ⊎ AllDone x.timed.issue xs

-- and so for each record
abbrev pub IsOrderly : List Late → Type 0
IsOrderly [] = Unit {0}
IsOrderly (x ∷ xs) = Passes x xs × IsOrderly xs

-- no record issues after the turn t
abbrev pub IssuedBy : ℕ → List Late → Type 0
IssuedBy t xs = AllByRecursion (λ y. y.timed.issue ≤ t) xs

-- what is neither a request nor a barrier writes no memory
abbrev pub IsQuiet : Late → Type 0
IsQuiet x = x.timed.need.request ≡ false → (x.puts ≡ []) ⊎ IsTrue x.timed.need.barrier

abbrev pub AreQuiet : List Late → Type 0
AreQuiet xs = AllByRecursion IsQuiet xs

-- a record leaves the resources that it does not write
abbrev pub Leaves : State → List Late → Type 0
Leaves first [] = Unit {0}
Leaves first (x ∷ xs) =
    ((r : ℕ) → r < resources → marks x r ≡ false → resource x.after r ≡ resource (last_state first xs) r)
    × Leaves first xs

-- what registers, memory and queue hold at a turn
pub record Shows (first : State) (t : ℕ) (xs : List Late)
    (cells : ℕ → Cell) (bytes : ℕ → ℕ) (queue : List Wait) : Type 0 where
  pub registers : (r : ℕ) → r < resources → cells r ≡ cell_at first t xs r
  pub memory : bytes ≡ acted_memory first.memory.bytes t xs
  pub requests : queue ≡ waiting t xs

-- nothing is planned for what is written, there is room for a request, and nothing waits before a barrier
pub record IsClear (cells : ℕ → Cell) (queue : List Wait) (n : Need) : Type 0 where
  pub plans : (r : ℕ) → r < resources → IsBitSet n.writes r → (cells r).plan ≡ None
  pub few : IsTrue n.request → length queue < 3
  pub drained : IsTrue n.barrier → queue ≡ []
