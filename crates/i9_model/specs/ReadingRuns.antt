-- Runs of machines that read soft bytes each in a way of its own, and what is shown of them.
use Rattle.std.specs.Prelude.{◌≡◌, ℕ, ◌<◌, false, slice_index, List, [], ◌∷◌, ◌++◌, length}
use Rattle.i9_isa.specs.Words.{bit}
use Rattle.i9_model.specs.declared.view.View.{View}
use Rattle.i9_model.specs.State.{State, boot}
use Rattle.i9_model.specs.ScheduleText.{standing}
use Rattle.i9_model.specs.Run.{Given, Finish, Record, Next, Ends, due_after, reached_after, next_in, IsPastOf}
use Rattle.i9_model.specs.PrintedText.{lines_of, end_lines, text_of}

-- the state that start-up leaves, of a machine that reads soft bytes so
abbrev pub boot_reading : (ℕ → ℕ) → List (ℕ × ℕ) → State
boot_reading reading image = record (boot image) { reading = reading }

-- the state after records of a run that begins in a state, and what comes next
abbrev pub state_from : State → List Record → State
state_from s [] = s
state_from s (r ∷ rs) = r.after

abbrev pub next_from : State → Given → List Record → Next
next_from s g rs =
    next_in g.length (due_after rs) (standing g.plan (length (reached_after rs)) (state_from s rs).count)
    (state_from s rs)

-- these are the records of the run of such a machine, and this is its end
pub record IsRunReading (reading : ℕ → ℕ) (g : Given) (rs : List Record) (f : Finish) : Type 0 where
  pub past : IsPastOf (next_from (boot_reading reading g.image) g) rs
  pub ends : next_from (boot_reading reading g.image) g rs ≡ Ends f

-- the text of the run of such a machine
abbrev pub reading_text : (ℕ → ℕ) → Given → List Record → Finish → List ℕ
reading_text reading g rs f = text_of (lines_of rs ++ end_lines (state_from (boot_reading reading g.image) rs) f)

-- views that are the same but for the values of marked registers
pub record AreViewsAlike (v w : View) : Type 0 where
  pub rest : w ≡ record v { regs = w.regs }
  pub regs : (r : ℕ) → r < 32 → bit v.marks r ≡ false → slice_index w.regs r ≡ slice_index v.regs r
