-- The text of a script of the debugger, from a place of a run on.
use Rattle.std.specs.Prelude.{◌≡◌, ℕ, ◌+◌, ◌-◌, ◌<◌, ◌≤◌, Bool, true, false, nat_eq, nat_lt, ◌&&◌, if◌then◌else◌, List}
use Rattle.std.specs.Prelude.{[], ◌∷◌, ◌++◌, Option, Some, None}
use Rattle.std.specs.List.{AllByRecursion}
use Rattle.std.specs.Option.{option_map}
use Rattle.i9_model.specs.declared.run.End.{End}
use Rattle.i9_model.specs.HeldFrames.{sets_in, cache_after}
use Rattle.i9_model.specs.Late.{turns as late_turns}
use Rattle.i9_model.specs.PrintedText.{Shown, view_of, lines_of, end_lines, text_of, overlays, bytes_text}
use Rattle.i9_model.specs.Run.{Given, Record, counts_of, state_after, Finish}
use Rattle.i9_model.specs.State.{State}
use Rattle.i9_model.specs.Turns.{last_issue}
use Rattle.i9_course.specs.Course.{Item, Step, records_of, course, ahead, IsCourse}
use Rattle.i9_course.specs.PipelinedRun.{end_ahead, steps}
use Rattle.i9_machine.specs.Raw.{raw_at}
use Rattle.i9_machine.specs.Turned.{steps_on}
use Rattle.i9_back.specs.Earlier.{IsEarlier, issue_of}
use Rattle.i9_back.specs.Stands.{last_change}
use Rattle.i9_schedule.specs.declared.command.Command.{Command}
use Rattle.i9_schedule.specs.declared.command.Command.TheVariants as commands
use Rattle.i9_lines.specs.PlaceText.{turn_text, view_text, raw_text, held_text, raw_bytes_text, raw_bytes, who_text}

-- ---- places

-- what was done, the turn, and the end that was answered, if any
pub record Place : Type 0 where
  pub items : List Item
  pub turn : ℕ
  pub end : Option Finish

-- no end was answered
abbrev pub at : List Item → ℕ → Place
at h t = record { items = h; turn = t; end = None }

-- one was, at its turn
abbrev pub ended : List Item → ℕ → Finish → Place
ended h t f = record { items = h; turn = t; end = Some f }

-- the end that was answered there
abbrev pub end_at : Place → Option End
end_at p = option_map (λ f. f.end) p.end

-- ---- what runs

-- the state after the records of items
abbrev pub state_at : Given → List Item → State
state_at g h = state_after g (records_of h)

-- a record is an instruction that leaves the instruction address at this one
abbrev pub comes_to : ℕ → Record → Bool
comes_to a r = nat_eq (counts_of r.kind) 1 && nat_eq r.after.ip a

-- none of these does
abbrev pub NoneComesTo : ℕ → List Record → Type 0
NoneComesTo a rs = AllByRecursion (λ r. comes_to a r ≡ false) rs

-- the turn of what lies ahead
abbrev pub turn_ahead : Given → List Item → ℕ
turn_ahead g h = (ahead g h).turn

-- These records, the newest first, are those of the run behind items that issue below a turn, and no end comes below
-- it.
pub record IssueBelow (g : Given) (h : List Item) (u : ℕ) (rs : List Record) : Type 0 where
  pub past : IsCourse g (steps_on rs h)
  pub issued : last_issue (late_turns (course g (steps_on rs h)).late) < u
  pub later : u ≤ turn_ahead g (steps_on rs h)

-- They are all that is left of the run, and this end is behind them.
pub record EndsBehind (g : Given) (h : List Item) (rs : List Record) (f : Finish) : Type 0 where
  pub past : IsCourse g (steps_on rs h)
  pub is_end : end_ahead g (steps_on rs h) ≡ Some f

-- what is shown of records behind items, and of the end behind those
abbrev pub ending_lines : Given → List Item → List Record → Finish → List Shown
ending_lines g h rs f = lines_of rs ++ end_lines (state_at g (steps_on rs h)) f

-- What is shown from items on until a turn has come, and the place then: so much issues below it, or the end comes
-- below it.
pub data TurnsTo (g : Given) (h : List Item) (u : ℕ) : List ℕ → Place → Type 0 where
  turns_pass : (rs : List Record) → IssueBelow g h u rs → TurnsTo g h u (text_of (lines_of rs)) (at (steps_on rs h) u)
  turns_end : (rs : List Record) (f : Finish) → EndsBehind g h rs f → turn_ahead g (steps_on rs h) < u
      → TurnsTo g h u (text_of (ending_lines g h rs f)) (ended (steps_on rs h) (turn_ahead g (steps_on rs h)) f)

-- What is shown from items on until the first instruction leaves the instruction address at this one, and the place
-- then, whose turn is that at which it issues; or up to the end, where none does.
pub data ComesTo (g : Given) (h : List Item) (a : ℕ) : List ℕ → Place → Type 0 where
  comes : (rs : List Record) (r : Record) → IsCourse g (Step r ∷ steps_on rs h) → NoneComesTo a rs → comes_to a r ≡ true
      → ComesTo g h a (text_of (lines_of (r ∷ rs))) (at (Step r ∷ steps_on rs h) (turn_ahead g (steps_on rs h)))
  none_comes : (rs : List Record) (f : Finish) → EndsBehind g h rs f → NoneComesTo a rs
      → ComesTo g h a (text_of (ending_lines g h rs f)) (ended (steps_on rs h) (turn_ahead g (steps_on rs h)) f)

-- ---- what goes back

-- how many instructions have issued at a place
abbrev pub count_at : Given → Place → ℕ
count_at g p = (state_at g p.items).count

-- The place right after so many instructions of the run, at the turn at which the last of them issues; before the first
-- one where they are none. No end was answered there.
pub record IsBack (g : Given) (c : ℕ) (q : Place) : Type 0 where
  pub records : List Record
  pub earlier : IsEarlier g c records
  pub is : q ≡ at (steps records) (issue_of g records)

-- Of records, the newest one that is an instruction, has fewer than n up to it and left the instruction address at this
-- one: how many there are up to it, and 0 where none did.
abbrev pub last_arrival : ℕ → ℕ → List Record → ℕ
last_arrival a n [] = 0
last_arrival a n (r ∷ rs) = if comes_to a r && nat_lt r.after.count n then r.after.count else last_arrival a n rs

-- nothing is shown, and the run goes back to right after so many instructions, whether it has ended or not
abbrev pub GoesBack : Given → ℕ → List ℕ → Place → Type 0
GoesBack g c shown q = (shown ≡ []) × IsBack g c q

-- ---- what a command does

-- nothing is shown, and the place is as before
abbrev pub Stays : Place → List ℕ → Place → Type 0
Stays p shown q = (shown ≡ []) × (q ≡ p)

-- while the run stands at its end nothing is run
abbrev pub UnlessOver : Option Finish → Type 0 → Type 0 → Type 0
UnlessOver None goes stays = goes
UnlessOver (Some f) goes stays = stays

-- A command brings a place to another, and this is shown on the way.
abbrev pub Runs : Given → Command → Place → List ℕ → Place → Type 0
Runs g (commands.Turn n) p shown q = UnlessOver p.end (TurnsTo g p.items (p.turn + n) shown q) (Stays p shown q)
Runs g (commands.Until a) p shown q = UnlessOver p.end (ComesTo g p.items a shown q) (Stays p shown q)
Runs g commands.Regs p shown q = Stays p shown q
Runs g commands.Raw p shown q = Stays p shown q
Runs g commands.Held p shown q = Stays p shown q
Runs g (commands.Mem a n) p shown q = Stays p shown q
Runs g (commands.RawMem a n) p shown q = Stays p shown q
Runs g (commands.Back k) p shown q = GoesBack g (count_at g p - k) shown q
Runs g (commands.Last a) p shown q = GoesBack g (last_arrival a (count_at g p) (records_of p.items)) shown q
Runs g (commands.Who a) p shown q = Stays p shown q

-- ---- what is told at a place

-- What a command tells at a turn behind items, after what was shown on the way there. One that runs or goes back tells
-- the turn and how many instructions have issued.
abbrev pub told : Given → List Item → ℕ → Command → List ℕ
told g h t (commands.Turn n) = turn_text t (state_at g h).count
told g h t (commands.Until a) = turn_text t (state_at g h).count
told g h t commands.Regs = view_text (view_of (state_at g h))
told g h t commands.Raw = raw_text (raw_at g h t)
told g h t commands.Held = held_text (sets_in g.sets (state_at g h)) (cache_after g (records_of h)).held
told g h t (commands.Mem a n) = bytes_text a (overlays (state_at g h) a n)
told g h t (commands.RawMem a n) = raw_bytes_text a (raw_bytes g h t a n)
told g h t (commands.Back k) = turn_text t (state_at g h).count
told g h t (commands.Last a) = turn_text t (state_at g h).count
told g h t (commands.Who a) = who_text (last_change a (records_of h))

-- ---- scripts

-- what a command prints at a place, and the place behind it
pub record Answers (g : Given) (c : Command) (p : Place) (text : List ℕ) (q : Place) : Type 0 where
  pub shown : List ℕ
  pub runs : Runs g c p shown q
  pub whole : text ≡ shown ++ told g q.items q.turn c

-- the text of commands from a place on, and the place behind them
pub data IsText (g : Given) : List Command → Place → List ℕ → Place → Type 0 where
  no_command : (p : Place) → IsText g [] p [] p
  next_command : (c : Command) (cs : List Command) (p q last : Place) (x y : List ℕ) → Answers g c p x q
      → IsText g cs q y last
      → IsText g (c ∷ cs) p (x ++ y) last
